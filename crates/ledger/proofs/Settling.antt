-- What the judgement, the distances and the store say together, as the machine has it. Assumes nothing.
use Rattle.std.proofs.Common.{◌≡◌, ℕ, ◌≤◌, true, false, List, [], ◌∷◌, ◌++◌, map, length, take, drop, sym, refl, ap, ◌∙◌, subst, ⊎_elim, arith, take-append-drop, length-take}
use Rattle.std.proofs.lemmas.Bool.{cases_Bool, and_parts, and_from, eq-eqb, eqb-true, cond-true, cond-false}
use Rattle.kinds.specs.Group.{Group}
use Rattle.links.specs.declared.links.Links.{Links}
use Rattle.links.specs.Ranges.{Range}
use Rattle.links.specs.declared.step.Step.{Step}
use Rattle.links.specs.Chains.{range_of, Source, Sourced}
use Rattle.links.specs.Joined.{joined}
use Rattle.links.specs.Linked.{Listed, Linked}
use Rattle.links.specs.Rings.{Earlier}
use Rattle.links.proofs.Chained.{acyclic}
use Rattle.links.proofs.Paths.{path, released, earlier_path}
use Rattle.judgement.specs.Judgement.{Newly, Named}
use Rattle.judgement.specs.Refusal.{Shown}
use Rattle.stores.specs.Log.{Log}
use Rattle.distances.specs.Distance.{amount, Between}
use Rattle.distances.specs.Sums.{signed, chain_sum}
use Rattle.ledger.specs.declared.answer.Answer.{Answer}
use Rattle.ledger.specs.declared.answer.Counts.{Counts}
use Rattle.ledger.specs.declared.answer.Fault.{Fault}
use Rattle.ledger.specs.Judgement.{Verdict, Judged}
use Rattle.ledger.specs.Machine.{ranges, same_range, amount_of, Query, asked, WellFormed, written, leaving, standing, joining, Asked}
use Rattle.ledger.specs.Rules.{Rule}
use Rattle.ledger.specs.State.{releases_of, state_of, valued_answer, Freed, IsBetween}
use Rattle.ledger.proofs.Releases.{ranges_of}

-- ranges with the same ends are the same
same_ends : (r s : Range) → same_range r s ≡ true → s ≡ r
same_ends r s e =
    let parts = and_parts _ _ e in
    λ i. record { low = sym (eqb-true r.low s.low parts.0) i; high = sym (eqb-true r.high s.high parts.1) i }

ends_same : (r s : Range) → r ≡ s → same_range r s ≡ true
ends_same r s e = and_from _ _ (eq-eqb _ _ (ap (λ (x : Range). x.low) e)) (eq-eqb _ _ (ap (λ (x : Range). x.high) e))

module _ {V : Type 0} (G : Group V) (f : Range → V) where
  -- the sum of a listed range, found in the list, is the one that the list was made with
  found_amount : (js : List Range) (r : Range) → Listed r js → amount_of G (map (λ x. record { range = x; amount = f x }) js) r ≡ f r
  found_amount [] r l = absurd l
  found_amount (s ∷ js) r l =
      ⊎_elim
      (λ e. cond-true _ _ _ e ∙ ap f (same_ends r s e))
      (λ e.
      cond-false _ _ _ e ∙ found_amount js r (⊎_elim (λ (at : r ≡ s). absurd (let both = sym e ∙ ends_same r s at in let z : ◌≡◌ {A = ℕ} 0 1 = cc in omega arith)) (λ later. later) l))
      (cases_Bool (same_range r s))

  -- a chain over listed ranges alone sums to the same by either
  found_chain : (js : List Range) (q : Range) (ss : List Step) → Sourced js q ss → Earlier ss → chain_sum G (amount_of G (map (λ x. record { range = x; amount = f x }) js)) ss ≡ chain_sum G f ss
  found_chain js q [] sourced earlier = refl
  found_chain js q (s ∷ ss) sourced earlier =
      let listed : Listed (range_of s) js = subst (λ o. Source js q o (range_of s)) earlier.0 sourced.0 in
      λ i. G.plus (signed G s.sign (found_amount js (range_of s) listed i)) (found_chain js q ss sourced.1 earlier.1 i)

-- a table whose first n steps are ss and whose rest is as before
written_by : (n : ℕ) (before after : List Step) → n ≤ length after → drop n after ≡ drop n before → written (take n after) before ≡ after
written_by n before after room rest =
    let long : length (take n after) ≡ n = omega (arith, length-take n after) in
    ap (λ k. take n after ++ drop k before) long ∙ ap (λ l. take n after ++ l) (sym rest) ∙ take-append-drop n after

module _ {V : Type 0} (G : Group V) (log : Log V) (rule : Rule) (links : Links) (table : List V) (counts : Counts) (q : Query) (well : WellFormed log (state_of G links table counts) q) where
  judged : (v : Verdict) → Judged (joined links) rule (asked q) v → Judged (ranges (releases_of G links table)) rule (asked q) v
  judged v = subst (λ js. Judged js rule (asked q) v) (sym (ranges_of G links table))

  -- between linked ends lies the sum of their one chain
  pub settled_known : (v : V) → Between G links table q.low q.high v → Asked G log rule (state_of G links table counts) q (standing (state_of G links table counts) q (Answer.Released v))
  settled_known v between =
      let js = joined links in
      let ss = path (released js) q.low q.high in
      let found = earlier_path js (asked q) (acyclic links).ringless q.low q.high between.linked in
      let sum : chain_sum G (amount_of G (releases_of G links table)) ss ≡ v = found_chain G (amount G links table) js (asked q) ss found.0.1 found.1 ∙ between.chains ss found.0.0 in
      subst (λ w. Asked G log rule (state_of G links table counts) q (standing (state_of G links table counts) q (Answer.Released w))) sum (Asked.known well (judged (Verdict.Known ss) (Judged.known between.linked found.0 found.1)))

  pub settled_between : (answer : Answer V) → IsBetween G links table q.low q.high answer → Asked G log rule (state_of G links table counts) q (leaving (state_of G links table counts) answer q.table (releases_of G links table))
  settled_between (Answer.Released v) between = settled_known v between
  settled_between (Answer.Withheld p m) between = absurd between
  settled_between (Answer.LostSlot k) between = absurd between
  settled_between (Answer.Refused fault) between = absurd between

  -- a pair is named, and its chain stands in the table
  pub settled_withheld : (p : Range) (n : ℕ) (after : List Step) → (Linked (joined links) q.low q.high → ⊥) → Named (joined links) rule.says (asked q) p → Shown (joined links) (asked q) p.low p.high n q.table after → Asked G log rule (state_of G links table counts) q (leaving (state_of G links table counts) (Answer.Withheld p n) after (releases_of G links table))
  settled_withheld p n after apart named shown =
      let s = state_of G links table counts in
      let room = shown.room in
      let same = shown.long in
      let short = shown.short in
      let long : length (take n after) ≡ n = omega (arith, length-take n after) in
      let whole = written_by n q.table after (omega arith) shown.rest in
      subst (Asked G log rule s q) (λ i. leaving s (Answer.Withheld p (long i)) (whole i) s.joined) (Asked.withheld well (judged (Verdict.Hidden p (take n after)) (Judged.hidden apart named shown.chain)))

  -- nothing is against the query, and its slots are read
  pub settled_free : (links' : Links) (table' : List V) (answer : Answer V) → (Linked (joined links) q.low q.high → ⊥) → ((i j : ℕ) → Newly (joined links) (asked q) i j → rule.says i j ≡ false) → Freed G log links links' table table' q.low q.high answer → Asked G log rule (state_of G links table counts) q (leaving (state_of G links table counts) answer q.table (releases_of G links' table'))
  settled_free links' table' (Answer.Released v) apart none freed =
      let s = state_of G links table counts in
      let at = subst (λ w. Asked G log rule s q (joining s q w)) (sym freed.1) (Asked.released well (judged Verdict.Free (Judged.free apart none)) freed.0) in
      subst (λ xs. Asked G log rule s q (leaving s (Answer.Released v) q.table xs)) (sym freed.2) at
  settled_free links' table' (Answer.LostSlot k) apart none freed =
      let s = state_of G links table counts in
      subst (λ xs. Asked G log rule s q (leaving s (Answer.LostSlot k) q.table xs)) (sym freed.1) (Asked.lost well (judged Verdict.Free (Judged.free apart none)) freed.0)
  settled_free links' table' (Answer.Withheld p m) apart none freed = absurd freed
  settled_free links' table' (Answer.Refused fault) apart none freed = absurd freed

-- an answer that is what lies between, or that comes of reading the slots, is no fault
pub between_unfull : {K V : Type 0} (G : Group V) (f : K → V) (links : Links) (table : List V) (a b : ℕ) (answer : Answer K) → IsBetween G links table a b (valued_answer f answer) → answer ≡ Answer.Refused Fault.Full → ⊥
between_unfull G f links table a b answer is e = subst (λ x. IsBetween G links table a b (valued_answer f x)) e is

pub freed_unfull : {K V : Type 0} (G : Group V) (f : K → V) (log : Log V) (links links' : Links) (table table' : List V) (a b : ℕ) (answer : Answer K) → Freed G log links links' table table' a b (valued_answer f answer) → answer ≡ Answer.Refused Fault.Full → ⊥
freed_unfull G f log links links' table table' a b answer is e = subst (λ x. Freed G log links links' table table' a b (valued_answer f x)) e is
