-- Released sums are sums of readings, chains sum to the stretch they lead over, and no ring is closed. Assumes nothing.
use Rattle.std.proofs.Common.{◌≡◌, ℕ, suc, ◌<◌, ◌≤◌, true, false, eqb, ◌⊎◌, List, [], ◌∷◌, map, length, sym, refl, ap, ◌∙◌, subst, inl, inr, arith}
use Rattle.std.proofs.lemmas.Bool.{both_ways, cases_Bool, cond-true, cond-false, eqb-true, eq-eqb, and_parts, and_from}
use Rattle.links.specs.Ranges.{Range}
use Rattle.links.specs.declared.step.Origin.{Origin}
use Rattle.links.specs.declared.step.Origin.TheVariants.{Released, New}
use Rattle.links.specs.declared.step.Sign.{Sign}
use Rattle.links.specs.declared.step.Sign.TheVariants.{Plus, Minus}
use Rattle.links.specs.declared.step.Step.{Step}
use Rattle.links.specs.Linked.{Listed}
use Rattle.links.specs.Chains.{range_of, start_by, end, Source, Sourced, Chain}
use Rattle.links.specs.Rings.{Earlier}
use Rattle.links.proofs.Lengths.{AllBelow, distinct_few, length_ends}
use Rattle.links.proofs.Paths.{chain_new_once}
use Rattle.kinds.specs.Group.{Group}
use Rattle.stores.specs.Log.{Log}
use Rattle.stores.specs.Sums.{range_sum}
use Rattle.ledger.specs.Rules.{Rule}
use Rattle.ledger.specs.Judgement.{Judged}
use Rattle.ledger.specs.declared.answer.Answer.{Answer}
use Rattle.distances.specs.Sums.{signed, chain_sum}
use Rattle.ledger.specs.Machine.{Release, Ledger, ranges, same_range, amount_of, Query, asked, Outcome, Asked}
use Rattle.ledger.specs.Truth.{worth, Within, AmountsTrue, TrueTo, Shown, ToldTrue, StaysTrue}
use Rattle.ledger.proofs.Sums.{Upward, StepsUpward, chain_true}
use Rattle.ledger.proofs.Standing.{formed, well_formed_range, within_listed, within_upward, within_linked, sound_asked, asked_within, newly_protected}

same_range_true : (r s : Range) → same_range r s ≡ true → r ≡ s
same_range_true r s e =
    let b = and_parts (eqb r.low s.low) (eqb r.high s.high) e in
    let l : r.low ≡ s.low = eqb-true r.low s.low b.0 in
    let h : r.high ≡ s.high = eqb-true r.high s.high b.1 in
    λ i. record { low = l i; high = h i }

true_same_range : (r s : Range) → r ≡ s → same_range r s ≡ true
true_same_range r s e = and_from (eqb r.low s.low) (eqb r.high s.high) (eq-eqb r.low s.low (ap (λ (x : Range). x.low) e)) (eq-eqb r.high s.high (ap (λ (x : Range). x.high) e))

source_listed : (js : List Range) (q : Range) (o : Origin) (r : Range) → Source js q o r → Listed r (q ∷ js)
source_listed js q Released r m = inr m
source_listed js q New r e = inl e

sourced_upward : (js : List Range) (q : Range) (ss : List Step) → Upward (q ∷ js) → Sourced js q ss → StepsUpward ss
sourced_upward js q [] u o = tt
sourced_upward js q (s ∷ ss) u o = (u (range_of s) (source_listed js q s.origin (range_of s) o.0), sourced_upward js q ss u o.1)

step_end : (n : ℕ) (σ : Sign) (low high : ℕ) → low < high → high ≤ n → start_by σ high low < suc n
step_end n Plus low high h k = omega arith
step_end n Minus low high h k = omega arith

ends_below : (js : List Range) (q : Range) (ss : List Step) (n : ℕ) → Within n (q ∷ js) → Sourced js q ss → AllBelow (suc n) (map end ss)
ends_below js q [] n w o = tt
ends_below js q (s ∷ ss) n w o =
    let b = within_listed n (q ∷ js) w (range_of s) (source_listed js q s.origin (range_of s) o.0) in
    (step_end n s.sign s.low s.high b.0 b.1, ends_below js q ss n w o.1)

-- a chain within a log has at most as many steps as the log has slots
chain_few : (js : List Range) (q : Range) (ss : List Step) (n i j : ℕ) → Within n (q ∷ js) → i ≤ n → Chain js q i j ss → length ss ≤ n
chain_few js q ss n i j w h c =
    let first : i < suc n = omega arith in
    let few = distinct_few (suc n) (i ∷ map end ss) c.2 (first, ends_below js q ss n w c.1) in
    let same = length_ends ss in
    omega arith

module _ {V : Type 0} (G : Group V) (log : Log V) (rule : Rule) where
  amount_true : (xs : List (Release V)) → AmountsTrue G log xs → (r : Range) → Listed r (ranges xs) → amount_of G xs r ≡ worth G log r
  amount_true [] t r m = absurd m
  amount_true (x ∷ xs) t r m = by (cases_Bool (same_range r x.range)) m (amount_true xs t.1 r)
    where
      by : (same_range r x.range ≡ true) ⊎ (same_range r x.range ≡ false) → Listed r (x.range ∷ ranges xs) → (Listed r (ranges xs) → amount_of G xs r ≡ worth G log r) → amount_of G (x ∷ xs) r ≡ worth G log r
      by (inl y) k ih = cond-true (same_range r x.range) x.amount (amount_of G xs r) y ∙ t.0 ∙ ap (worth G log) (sym (same_range_true r x.range y))
      by (inr n) (inl e) ih = absurd (both_ways (same_range r x.range) n (true_same_range r x.range e))
      by (inr n) (inr k) ih = cond-false (same_range r x.range) x.amount (amount_of G xs r) n ∙ ih k

  amounts_chain : (xs : List (Release V)) (q : Range) (ss : List Step) → AmountsTrue G log xs → Sourced (ranges xs) q ss → Earlier ss → chain_sum G (amount_of G xs) ss ≡ chain_sum G (worth G log) ss
  amounts_chain xs q [] t o e = refl
  amounts_chain xs q (s ∷ ss) t o e =
      let here : amount_of G xs (range_of s) ≡ worth G log (range_of s) = amount_true xs t (range_of s) (subst (λ (x : Origin). Source (ranges xs) q x (range_of s)) e.0 o.0) in
      let rest = amounts_chain xs q ss t o.1 e.1 in
      λ i. G.plus (signed G s.sign (here i)) (rest i)

  released_value : (v w : V) → Answer.Released v ≡ Answer.Released w → w ≡ v
  released_value v w e = cc

  pub asked_true : (s : Ledger V) (q : Query) (o : Outcome V) → TrueTo G log rule s.joined → Asked G log rule s q o → (v : V) → o.answer ≡ Answer.Released v → v ≡ range_sum G log.reading q.low q.high
  asked_true s q o h (Asked.turned_back e) v w = absurd (let z : ◌≡◌ {A = ℕ} 0 1 = cc in omega arith)
  asked_true s q o h (Asked.known {ss = ss} e (Judged.known l c k)) v w =
      released_value (chain_sum G (amount_of G s.joined) ss) v w
      ∙ amounts_chain s.joined (asked q) ss h.amounts c.1 k
      ∙ chain_true G log.reading ss q.low q.high (let b = well_formed_range log s q e in omega arith) c.0 (sourced_upward (ranges s.joined) (asked q) ss (within_upward log.slots (asked q ∷ ranges s.joined) (asked_within G log rule s q h e)) c.1)
  asked_true s q o h (Asked.withheld e j) v w = absurd (let z : ◌≡◌ {A = ℕ} 0 1 = cc in omega arith)
  asked_true s q o h (Asked.lost e j l) v w = absurd (let z : ◌≡◌ {A = ℕ} 0 1 = cc in omega arith)
  asked_true s q o h (Asked.released e j k) v w = released_value (range_sum G log.reading q.low q.high) v w

  pub asked_shown : (s : Ledger V) (q : Query) (o : Outcome V) → TrueTo G log rule s.joined → Asked G log rule s q o → (pair : Range) (m : ℕ) → o.answer ≡ Answer.Withheld pair m → Shown G log rule s q o.table pair m
  asked_shown s q o h (Asked.turned_back e) pair m w = absurd (let z : ◌≡◌ {A = ℕ} 0 1 = cc in omega arith)
  asked_shown s q o h (Asked.known e j) pair m w = absurd (let z : ◌≡◌ {A = ℕ} 0 1 = cc in omega arith)
  asked_shown s q o h (Asked.withheld {p = p} {ss = ss} e (Judged.hidden n k c)) pair m w =
      let same : p ≡ pair = cc in
      let low-within : p.low ≤ log.slots = (let b : p.low < p.high = k.newly.ordered in elim (within_linked (asked_within G log rule s q h e) k.newly.linked) [ inl z ↦ absurd (omega arith) | inr le ↦ le ]) in
      let as_many : m ≡ length ss = cc in
      subst (λ (x : Range). Shown G log rule s q o.table x m) same (record {
        steps = ss;
        protected = newly_protected G log rule s q p.low p.high h e k.newly k.said;
        many = as_many;
        shown = refl;
        chain = c;
        fits = (let f = formed log s q e in let few = chain_few (ranges s.joined) (asked q) ss log.slots p.low p.high (asked_within G log rule s q h e) low-within c in omega arith);
        once = chain_new_once (ranges s.joined) (asked q) p.low p.high ss k.newly.apart c;
        summed = chain_true G log.reading ss p.low p.high (let b : p.low < p.high = k.newly.ordered in omega arith) c.0 (sourced_upward (ranges s.joined) (asked q) ss (within_upward log.slots (asked q ∷ ranges s.joined) (asked_within G log rule s q h e)) c.1);
      })
  asked_shown s q o h (Asked.lost e j l) pair m w = absurd (let z : ◌≡◌ {A = ℕ} 0 1 = cc in omega arith)
  asked_shown s q o h (Asked.released e j k) pair m w = absurd (let z : ◌≡◌ {A = ℕ} 0 1 = cc in omega arith)

  told_true : (s : Ledger V) (q : Query) (o : Outcome V) → TrueTo G log rule s.joined → Asked G log rule s q o → (answer : Answer V) → o.answer ≡ answer → ToldTrue G log rule s q o.table answer
  told_true s q o h a (Answer.Released v) e = asked_true s q o h a v e
  told_true s q o h a (Answer.Withheld p m) e = asked_shown s q o h a p m e
  told_true s q o h a (Answer.LostSlot k) e = tt
  told_true s q o h a (Answer.Refused f) e = tt

  pub stays_true : (s : Ledger V) (q : Query) (o : Outcome V) → Asked G log rule s q o → StaysTrue G log rule s o.after q o.table o.answer
  stays_true s q o a h = (sound_asked G log rule s q o h a, told_true s q o h a o.answer refl)
