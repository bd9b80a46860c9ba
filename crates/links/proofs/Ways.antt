-- The way between two boundaries of one set is a chain over the joined ranges, and has fewer steps than the set has boundaries.
use Rattle.std.proofs.Common.{◌≡◌, ℕ, zero, suc, ◌+◌, ◌<◌, ◌≤◌, cond, eqb, List, [], ◌∷◌, ◌++◌, map, length, sym, refl, ap, ◌∙◌, subst, inl, ⊎_elim, arith}
use Rattle.std.proofs.lemmas.List.{length-append}
use Rattle.std.proofs.lemmas.Bool.{cases_eq, cases_lt, eq-eqb, ne_eqb}
use Rattle.links.specs.Ranges.{Range}
use Rattle.links.specs.declared.step.Origin.TheVariants.{Released}
use Rattle.links.specs.declared.step.Step.{Step}
use Rattle.links.specs.Chains.{range_of, start, end, Leads, Distinct, Sourced}
use Rattle.links.specs.Forest.{leader, members, ranges, back, way}
use Rattle.links.proofs.History.{leader_zero, leader_moved, leader_stayed, leader_same_suc, leader_same}
use Rattle.links.proofs.Sets.{members_joined, members_kept, members_some}
use Rattle.links.proofs.Ties.{Tied}
use Rattle.links.proofs.Chaining

module _ (under over : ℕ → ℕ) (out : ℕ → Step) (t x y : ℕ) where
  -- where the newest join is not needed, the older ones lead all the way
  pub way_older : leader under over t x ≡ leader under over t y → way under over out (suc t) x y ≡ way under over out t x y
  unfolding way
  way_older e =
      ap
      (λ b.
      cond b (way under over out t x y)
      (cond (eqb (leader under over t x) (under t))
      (way under over out t x (start (out t)) ++ (out t ∷ way under over out t (end (out t)) y))
      (way under over out t x (end (out t)) ++ (back (out t) ∷ way under over out t (start (out t)) y))))
      (eq-eqb _ _ e)

  pub way_out : (leader under over t x ≡ leader under over t y → ⊥) → leader under over t x ≡ under t
      → way under over out (suc t) x y ≡ way under over out t x (start (out t)) ++ (out t ∷ way under over out t (end (out t)) y)
  unfolding way
  way_out ne e =
      let n = ne_eqb _ _ ne in
      let u = eq-eqb _ _ e in
      λ i.
      cond (n i) (way under over out t x y)
      (cond (u i)
      (way under over out t x (start (out t)) ++ (out t ∷ way under over out t (end (out t)) y))
      (way under over out t x (end (out t)) ++ (back (out t) ∷ way under over out t (start (out t)) y)))

  pub way_back : (leader under over t x ≡ leader under over t y → ⊥) → (leader under over t x ≡ under t → ⊥)
      → way under over out (suc t) x y ≡ way under over out t x (end (out t)) ++ (back (out t) ∷ way under over out t (start (out t)) y)
  unfolding way
  way_back ne nu =
      let n = ne_eqb _ _ ne in
      let u = ne_eqb _ _ nu in
      λ i.
      cond (n i) (way under over out t x y)
      (cond (u i)
      (way under over out t x (start (out t)) ++ (out t ∷ way under over out t (end (out t)) y))
      (way under over out t x (end (out t)) ++ (back (out t) ∷ way under over out t (start (out t)) y)))

-- the way over t joins is that over the first ones that make one set of x and y
pub way_from : (under over : ℕ → ℕ) (out : ℕ → Step) (s t x y : ℕ) → s ≤ t → leader under over s x ≡ leader under over s y
    → way under over out t x y ≡ way under over out s x y
way_from under over out s zero x y le e = ap (λ t. way under over out t x y) (let z : 0 ≡ s = omega arith in z)
way_from under over out s (suc t) x y le e =
    ⊎_elim
    (λ (h : s < suc t).
    way_older under over out t x y (leader_same under over s t x y (omega arith) e)
    ∙ way_from under over out s t x y (omega arith) e)
    (λ (h : suc t ≤ s). ap (λ t. way under over out t x y) (let z : suc t ≡ s = omega arith in z))
    (cases_lt s (suc t))

-- from a boundary to itself there is nothing to go
pub way_none : (under over : ℕ → ℕ) (out : ℕ → Step) (t x y : ℕ) → x ≡ y → way under over out t x y ≡ []
unfolding way
way_none under over out t x y e = way_from under over out 0 t x y (omega arith) (ap (leader under over 0) e)

-- ss is a chain from x to y over the first t joins, within one set and with fewer steps than that has boundaries
pub record Good (under over : ℕ → ℕ) (out : ℕ → Step) (n : ℕ) (q : Range) (t x y : ℕ) (ss : List Step) : Type 0 where
  pub leads : Leads ss x y
  pub sourced : Sourced (ranges out t) q ss
  pub distinct : Distinct (x ∷ map end ss)
  pub inside : Chaining.Each (λ v. leader under over t v ≡ leader under over t x) (x ∷ map end ss)
  pub short : length ss < members under over n t (leader under over t x)

module _ (under over : ℕ → ℕ) (out : ℕ → Step) (k n : ℕ) (q : Range) (g : Tied under over out k)
    (released : (t : ℕ) → (out t).origin ≡ Released) (start-in : (t : ℕ) → t < k → start (out t) < n) (end-in : (t : ℕ) → t < k → end (out t) < n) where
  -- a set does not lose members by a join
  members_grow : (t x : ℕ) → t < k → members under over n t (leader under over t x) ≤ members under over n (suc t) (leader under over (suc t) x)
  members_grow t x h =
      let sum = members_joined under over n t (g.apart t h) in
      ⊎_elim
      (λ (e : leader under over t x ≡ under t).
      let a = ap (members under over n t) e in
      let b = ap (members under over n (suc t)) (leader_moved under over t x e) in
      let z : members under over n t (leader under over t x) ≤ members under over n (suc t) (leader under over (suc t) x) = omega arith in
      z)
      (λ (ne : leader under over t x ≡ under t → ⊥).
      let b = ap (members under over n (suc t)) (leader_stayed under over t x ne) in
      ⊎_elim
      (λ (e : leader under over t x ≡ over t).
      let a = ap (members under over n t) e in
      let c = ap (members under over n (suc t)) e in
      let z : members under over n t (leader under over t x) ≤ members under over n (suc t) (leader under over (suc t) x) = omega arith in
      z)
      (λ (no : leader under over t x ≡ over t → ⊥).
      let c = members_kept under over n t (g.apart t h) (leader under over t x) ne no in
      let z : members under over n t (leader under over t x) ≤ members under over n (suc t) (leader under over (suc t) x) = omega arith in
      z)
      (cases_eq (leader under over t x) (over t)))
      (cases_eq (leader under over t x) (under t))

  good_older : (t x y : ℕ) (ss : List Step) → t < k → Good under over out n q t x y ss → Good under over out n q (suc t) x y ss
  unfolding ranges
  good_older t x y ss h d =
      record {
        leads = d.leads;
        sourced = Chaining.sourced_more (ranges out t) q (range_of (out t)) ss d.sourced;
        distinct = d.distinct;
        inside = Chaining.each_map _ _ (λ v e. leader_same_suc under over t v x e) (x ∷ map end ss) d.inside;
        short = (let a = d.short in let b = members_grow t x h in omega arith);
      }

  -- two chains, one in each of the sets that join t joins, with its step between them
  good_across : (t x a b y : ℕ) (s : Step) (ss ts : List Step) → t < k → start s ≡ a → end s ≡ b → range_of s ≡ range_of (out t) → s.origin ≡ Released
      → (leader under over t x ≡ leader under over t b → ⊥)
      → members under over n (suc t) (leader under over (suc t) x) ≡ members under over n t (leader under over t x) + members under over n t (leader under over t b)
      → leader under over (suc t) x ≡ leader under over (suc t) b
      → Good under over out n q t x a ss → Good under over out n q t b y ts → Good under over out n q (suc t) x y (ss ++ (s ∷ ts))
  unfolding ranges
  good_across t x a b y s ss ts h sa sb r o ne sum same d e =
      record {
        leads =
            Chaining.leads_append ss (s ∷ ts) x a y d.leads (sa, subst (λ v. Leads ts v y) (sym sb) e.leads);
        sourced =
            Chaining.sourced_append (range_of (out t) ∷ ranges out t) q ss (s ∷ ts)
            (Chaining.sourced_more (ranges out t) q (range_of (out t)) ss d.sourced) (
              Chaining.source_released (range_of (out t) ∷ ranges out t) q s.origin (range_of s) o (inl r),
              Chaining.sourced_more (ranges out t) q (range_of (out t)) ts e.sourced,
            );
        distinct =
            subst Distinct (sym (Chaining.map_around x ss s ts))
            (Chaining.distinct_append
            (λ v. leader under over t v ≡ leader under over t x)
            (λ v. leader under over t v ≡ leader under over t b)
            (λ v p p'. ne (sym p ∙ p'))
            (x ∷ map end ss)
            (end s ∷ map end ts)
            d.inside
            (subst (λ v. Chaining.Each (λ v. leader under over t v ≡ leader under over t b) (v ∷ map end ts)) (sym sb) e.inside)
            d.distinct
            (subst (λ v. Distinct (v ∷ map end ts)) (sym sb) e.distinct));
        inside =
            subst (Chaining.Each (λ v. leader under over (suc t) v ≡ leader under over (suc t) x)) (sym (Chaining.map_around x ss s ts))
            (Chaining.each_append _ (x ∷ map end ss) (end s ∷ map end ts)
            (Chaining.each_map _ _ (λ v p. leader_same_suc under over t v x p) (x ∷ map end ss) d.inside)
            (Chaining.each_map (λ v. leader under over t v ≡ leader under over t b) _
            (λ v p. leader_same_suc under over t v b p ∙ sym same)
            (end s ∷ map end ts)
            (subst (λ v. Chaining.Each (λ v. leader under over t v ≡ leader under over t b) (v ∷ map end ts)) (sym sb) e.inside)));
        short = (let l = length-append ss (s ∷ ts) in let a = d.short in let b = e.short in omega arith);
      }

  pub good : (t x y : ℕ) → t ≤ k → x < n → leader under over t x ≡ leader under over t y
      → Good under over out n q t x y (way under over out t x y)
  unfolding way
  good zero x y h l e =
      record {
        leads = sym (leader_zero under over x) ∙ (e ∙ leader_zero under over y);
        sourced = tt;
        distinct = (tt, tt);
        inside = (refl, tt);
        short = members_some under over n 0 x (leader under over 0 x) l refl;
      }
  good (suc t) x y h l e =
      let now-in : t ≤ k = omega arith in
      ⊎_elim
      (λ (same : leader under over t x ≡ leader under over t y).
      subst (Good under over out n q (suc t) x y) (sym (way_older under over out t x y same))
      (good_older t x y (way under over out t x y) h (good t x y now-in l same)))
      (λ (ne : leader under over t x ≡ leader under over t y → ⊥).
      ⊎_elim
      (λ (u : leader under over t x ≡ under t).
      let stay : leader under over t y ≡ under t → ⊥ = λ p. ne (u ∙ sym p) in
      let o : leader under over t y ≡ over t =
      sym (leader_stayed under over t y stay) ∙ (sym e ∙ leader_moved under over t x u) in
      subst (Good under over out n q (suc t) x y) (sym (way_out under over out t x y ne u))
      (good_across t x (start (out t)) (end (out t)) y (out t) _ _ h refl refl refl (released t)
      (λ p. ne (p ∙ (g.far t h ∙ sym o)))
      (ap (members under over n (suc t)) (leader_moved under over t x u)
      ∙ (members_joined under over n t (g.apart t h)
      ∙ (λ i. members under over n t (sym u i) + members under over n t (sym (g.far t h) i))))
      (leader_moved under over t x u
      ∙ (sym (g.far t h) ∙ sym (leader_stayed under over t (end (out t)) (λ p. g.apart t h (sym p ∙ g.far t h)))))
      (good t x (start (out t)) now-in l (u ∙ sym (g.near t h)))
      (good t (end (out t)) y now-in (end-in t h) (g.far t h ∙ sym o))))
      (λ (nu : leader under over t x ≡ under t → ⊥).
      let u : leader under over t y ≡ under t =
      ⊎_elim (λ (p : leader under over t y ≡ under t). p)
      (λ (np : leader under over t y ≡ under t → ⊥).
      absurd (ne (sym (leader_stayed under over t x nu) ∙ (e ∙ leader_stayed under over t y np))))
      (cases_eq (leader under over t y) (under t)) in
      let o : leader under over t x ≡ over t =
      sym (leader_stayed under over t x nu) ∙ (e ∙ leader_moved under over t y u) in
      let moved : leader under over (suc t) x ≡ over t = leader_stayed under over t x nu ∙ o in
      subst (Good under over out n q (suc t) x y) (sym (way_back under over out t x y ne nu))
      (good_across t x (end (out t)) (start (out t)) y (back (out t)) _ _ h (Chaining.back_start (out t)) (Chaining.back_end (out t)) refl
      (released t)
      (λ p. ne (p ∙ (g.near t h ∙ sym u)))
      (let sum = members_joined under over n t (g.apart t h) in
      let a = ap (members under over n (suc t)) moved in
      let b = ap (members under over n t) o in
      let c = ap (members under over n t) (g.near t h) in
      omega arith)
      (moved ∙ sym (leader_moved under over t (start (out t)) (g.near t h)))
      (good t x (end (out t)) now-in l (o ∙ sym (g.far t h)))
      (good t (start (out t)) y now-in (start-in t h) (g.near t h ∙ sym u))))
      (cases_eq (leader under over t x) (under t)))
      (cases_eq (leader under over t x) (leader under over t y))
