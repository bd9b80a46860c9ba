-- Two chains with a new step between them are one chain, and it has room in a table of 1,023 steps. Assumes nothing.
use Rattle.std.proofs.Common.{◌≡◌, ℕ, suc, ◌+◌, ◌<◌, ◌≤◌, List, [], ◌∷◌, ◌++◌, map, length, take, drop, set, sym, refl, ap, ◌∙◌, subst, arith}
use borrow.Rule.Slice.PartMut.{put_mid}
use Rattle.std.proofs.lemmas.List.{append_assoc, length-append, length-take-le, length-drop, length-set, take_more_set, drop-set-lt, drop-drop}
use Rattle.std.proofs.lemmas.Slice.{take-put_mid, drop-put_mid}
use Rattle.links.specs.Ranges.{Range}
use Rattle.links.specs.declared.step.Origin.{Origin}
use Rattle.links.specs.declared.step.Step.{Step}
use Rattle.links.specs.declared.links.Links.{Links}
use Rattle.links.specs.Linked.{Linked, Ends}
use Rattle.links.specs.Chains.{range_of, start, end, Leads, Distinct, Source, Chain}
use Rattle.links.specs.Rings.{Over}
use Rattle.links.specs.Joined.{joined}
use Rattle.links.specs.Written.{Written}
use Rattle.links.proofs.Labels.{linked_trans, linked_sym, linked_same}
use Rattle.links.proofs.Linking.{ends_of}
use Rattle.links.proofs.Chaining.{Each, each_map, each_append, distinct_append, leads_append, sourced_append, map_around}
use Rattle.links.proofs.Chained.{sourced_over}
use Rattle.links.proofs.Lengths.{AllBelow, distinct_few, length_ends}
use Rattle.links.proofs.Invariant.{leaders_tell, leader_inside, leader_below}
use Rattle.judgement.specs.Refusal.{NewStep, Crossed}

module _ (js : List Range) where
  step_linked : (s : Step) (ss : List Step) (x : ℕ) → start s ≡ x → Over js (s ∷ ss) → Linked js x (end s)
  step_linked s ss x e o = Linked.onward (range_of s) o.0 (subst (λ v. Ends (range_of s) v (end s)) e (ends_of s)) Linked.here

  -- a walk over listed ranges links where it starts and every boundary that it meets
  each_linked : (ss : List Step) (x y : ℕ) → Leads ss x y → Over js ss → Each (Linked js x) (x ∷ map end ss)
  each_linked [] x y l o = (Linked.here, tt)
  each_linked (s ∷ ss) x y l o = (
    Linked.here,
    each_map (Linked js (end s)) (Linked js x) (λ i k. linked_trans (step_linked s ss x l.0 o) k) (end s ∷ map end ss)
        (each_linked ss (end s) y l.1 o.1),
  )

  leads_linked : (ss : List Step) (x y : ℕ) → Leads ss x y → Over js ss → Linked js x y
  leads_linked [] x y l o = linked_same l
  leads_linked (s ∷ ss) x y l o = linked_trans (step_linked s ss x l.0 o) (leads_linked ss (end s) y l.1 o.1)

each_below : (n : ℕ) (xs : List ℕ) → Each (λ i. i < n) xs → AllBelow n xs
each_below n [] h = tt
each_below n (x ∷ xs) h = (h.0, each_below n xs h.1)

module _ (js : List Range) (near far x y : ℕ) (s : Step) (new : NewStep js near far s) (ss ts : List Step)
    (first : (q : Range) → Chain js q x near ss) (second : (q : Range) → Chain js q far y ts) where
  pub here : Linked js x near
  here = leads_linked js ss x near (first (range_of s)).0 (sourced_over js ss (λ q. (first q).1))

  pub there : Linked js far y
  there = leads_linked js ts far y (second (range_of s)).0 (sourced_over js ts (λ q. (second q).1))

  met : Each (Linked js x) (x ∷ map end ss)
  met = each_linked js ss x near (first (range_of s)).0 (sourced_over js ss (λ q. (first q).1))

  met_later : Each (Linked js far) (end s ∷ map end ts)
  met_later =
      subst (λ v. Each (Linked js far) (v ∷ map end ts)) (sym new.ends)
      (each_linked js ts far y (second (range_of s)).0 (sourced_over js ts (λ q. (second q).1)))

  pub whole : Chain js (range_of s) x y (ss ++ (s ∷ ts))
  whole = (
    leads_append ss (s ∷ ts) x near y (first (range_of s)).0
        (new.starts, subst (λ v. Leads ts v y) (sym new.ends) (second (range_of s)).0),
    sourced_append js (range_of s) ss (s ∷ ts) (first (range_of s)).1
        (subst (λ (o : Origin). Source js (range_of s) o (range_of s)) (sym new.new) refl, (second (range_of s)).1),
    subst Distinct (sym (map_around x ss s ts))
        (distinct_append (Linked js x) (Linked js far) (λ i p q. new.apart (linked_trans (linked_sym here) (linked_trans p (linked_sym q))))
        (x ∷ map end ss) (end s ∷ map end ts) met met_later (first (range_of s)).2
        (subst (λ v. Distinct (v ∷ map end ts)) (sym new.ends) (second (range_of s)).2)),
  )

  -- a walk that stays among n boundaries has fewer than n steps
  pub few : (n : ℕ) → ((i : ℕ) → Linked js x i → i < n) → ((i : ℕ) → Linked js far i → i < n) → length ss + suc (length ts) < n
  few n a b =
      let all : Each (λ i. i < n) ((x ∷ map end ss) ++ (end s ∷ map end ts)) =
      each_append (λ i. i < n) (x ∷ map end ss) (end s ∷ map end ts) (each_map (Linked js x) (λ i. i < n) a (x ∷ map end ss) met)
      (each_map (Linked js far) (λ i. i < n) b (end s ∷ map end ts) met_later) in
      let most = distinct_few n (x ∷ map end (ss ++ (s ∷ ts))) whole.2
      (subst (AllBelow n) (sym (map_around x ss s ts)) (each_below n ((x ∷ map end ss) ++ (end s ∷ map end ts)) all)) in
      let ends = length_ends (ss ++ (s ∷ ts)) in
      let sum = length-append ss (s ∷ ts) in
      omega arith

-- boundaries linked to a boundary are boundaries
pub linked_inside : (links : Links) (x i : ℕ) → x < 1024 → Linked (joined links) x i → i < 1024
linked_inside links x i h l =
    leader_inside links i (subst (λ n. n < 1024) ((leaders_tell links x i).1 l) (leader_below links x h))

module _ (links : Links) (near far x y : ℕ) (s : Step) (x-in : x < 1024) (far-in : far < 1024) (new : NewStep (joined links) near far s)
    (b a : ℕ) (t0 t1 r0 r1 : List Step) (one : Written (joined links) x near b t0 t1) (two : Written (joined links) far y a r0 r1) where
  ss_long : length (take b t1) ≡ b
  ss_long = length-take-le b t1 (let r = one.room in let l = one.long in let h = one.short in omega arith)

  ts_long : length (take a r1) ≡ a
  ts_long = length-take-le a r1 (let r = two.room in let l = two.long in let h = two.short in omega arith)

  pub fits : (b + 1) + a ≤ 1023
  fits =
      let f = few (joined links) near far x y s new (take b t1) (take a r1) one.chain two.chain 1024
      (λ i. linked_inside links x i x-in) (λ i. linked_inside links far i far-in) in
      let p = ss_long in
      let q = ts_long in
      omega arith

  pub crossed : (k : ℕ) (mid : List Step) → mid ≡ take a r1 → k ≡ a
      → Crossed (joined links) near far s x y ((b + 1) + a) t0 (put_mid (b + 1) k (set t1 b s) mid)
  crossed k mid m k-is =
      let room = one.room in
      let long = one.long in
      let within = fits in
      let set_long = length-set t1 b s in
      let mid-long : length mid ≡ a = ap length m ∙ ts_long in
      let front : take (b + 1) (set t1 b s) ≡ take b t1 ++ (s ∷ []) = take_more_set t1 b s (omega arith) in
      let steps : take ((b + 1) + a) (put_mid (b + 1) k (set t1 b s) mid) ≡ take b t1 ++ (s ∷ take a r1) =
      take-put_mid (b + 1) k (set t1 b s) mid ((b + 1) + a) (omega arith) (omega arith)
      ∙ ((λ i. front i ++ m i) ∙ append_assoc (take b t1) (s ∷ []) (take a r1)) in
      record {
        here = here (joined links) near far x y s new (take b t1) (take a r1) one.chain two.chain;
        there = there (joined links) near far x y s new (take b t1) (take a r1) one.chain two.chain;
        shown =
            record {
              chain =
                  subst (Chain (joined links) (range_of s) x y) (sym steps)
                  (whole (joined links) near far x y s new (take b t1) (take a r1) one.chain two.chain);
              short = within;
              room = room;
              rest =
                  drop-put_mid (b + 1) k (set t1 b s) mid ((b + 1) + a) (omega arith) (omega arith) (mid-long ∙ sym k-is)
                  ∙ (drop-set-lt ((b + 1) + a) t1 b s (omega arith)
                  ∙ subst (λ n. drop n t1 ≡ drop n t0) (let z : b + (1 + a) ≡ (b + 1) + a = omega arith in z)
                  (sym (drop-drop (1 + a) b t1) ∙ (ap (drop (1 + a)) one.rest ∙ drop-drop (1 + a) b t0)));
              long =
                  (let whole_long = length-append (take (b + 1) (set t1 b s)) (mid ++ drop k (drop (b + 1) (set t1 b s))) in
                  let rear-long = length-append mid (drop k (drop (b + 1) (set t1 b s))) in
                  let front_long = length-take-le (b + 1) (set t1 b s) (omega arith) in
                  let left = length-drop k (drop (b + 1) (set t1 b s)) in
                  let behind = length-drop (b + 1) (set t1 b s) in
                  omega arith);
            };
      }
