-- The chain of a withheld query is short enough to be printed, and its ends are small. Assumes nothing.
use Rattle.std.proofs.Common.{◌≡◌, ℕ, ◌<◌, ◌≤◌, List, [], ◌∷◌, length, take, drop, sym, ap, ◌∙◌, subst, arith}
use lib.Seq.{take-append_seam}
use Rattle.kinds.specs.Group.{Group}
use Rattle.links.specs.declared.step.Origin.{Origin}
use Rattle.links.specs.declared.step.Origin.TheVariants.{Released, New}
use Rattle.links.specs.Ranges.{Range}
use Rattle.links.specs.declared.step.Step.{Step}
use Rattle.links.specs.Chains.{range_of, Source, Sourced}
use Rattle.stores.specs.Log.{Log}
use Rattle.ledger.specs.declared.answer.Answer.{Answer}
use Rattle.ledger.specs.Machine.{Ledger, ranges, Query, asked, Outcome, Asked}
use Rattle.ledger.specs.Rules.{Rule}
use Rattle.ledger.specs.State.{valued_answer}
use Rattle.ledger.specs.Truth.{Within, TrueTo}
use Rattle.ledger.proofs.Standing.{Formed, formed, within_listed}
use Rattle.ledger.proofs.Truth.{asked_shown}
use Rattle.lines.specs.Fits.{EndsWithin, Modest, ModestAnswer}

-- steps over ranges within a log of at most 1,023 slots
ends_within : (n : ℕ) (js : List Range) (q : Range) (ss : List Step) → n ≤ 1023 → Within n js → q.low < q.high → q.high ≤ n → Sourced js q ss → EndsWithin 1023 ss
ends_within n js q [] few w f h s = tt
ends_within n js q (x ∷ ss) few w f h s = (by x.origin s.0, ends_within n js q ss few w f h s.1)
  where
    by : (o : Origin) → Source js q o (range_of x) → (x.low ≤ 1023) × (x.high ≤ 1023)
    by Released listed = let b = within_listed n js w (range_of x) listed in (omega arith, omega arith)
    by New is = let l : x.low ≡ q.low = ap (λ (r : Range). r.low) is in let u : x.high ≡ q.high = ap (λ (r : Range). r.high) is in (omega arith, omega arith)

module _ {V : Type 0} (G : Group V) (log : Log V) (rule : Rule) where
  withheld_modest : (s : Ledger V) (q : Query) (o : Outcome V) → TrueTo G log rule s.joined → Asked G log rule s q o → length q.table ≤ 1023 → (p : Range) (m : ℕ) → o.answer ≡ Answer.Withheld p m → Modest (take m o.table)
  withheld_modest s q o h a room p m e =
      let shown = asked_shown G log rule s q o h a p m e in
      let steps = shown.steps in
      let first : take m o.table ≡ steps = ap (λ (k : ℕ). take k o.table) shown.many ∙ ap (take (length steps)) shown.shown ∙ take-append_seam steps (drop (length steps) q.table) in
      let f = well s q o a p m e in
      let few = shown.fits in
      let once = shown.once in
      subst Modest (sym first) (record {
        few = omega arith;
        ends = ends_within log.slots (ranges s.joined) (asked q) steps f.short h.within f.forward f.within shown.chain.1;
        once = omega arith;
      })
    where
      well : (s : Ledger V) (q : Query) (o : Outcome V) → Asked G log rule s q o → (p : Range) (m : ℕ) → o.answer ≡ Answer.Withheld p m → Formed log q
      well s q o (Asked.turned_back e) p m w = absurd (let z : ◌≡◌ {A = ℕ} 0 1 = cc in omega arith)
      well s q o (Asked.known e j) p m w = formed log s q e
      well s q o (Asked.withheld e j) p m w = formed log s q e
      well s q o (Asked.lost e j l) p m w = formed log s q e
      well s q o (Asked.released e j k) p m w = formed log s q e

  pub answer_modest : {K : Type 0} (f : K → V) (s : Ledger V) (q : Query) (o : Outcome V) (answer : Answer K) → TrueTo G log rule s.joined → Asked G log rule s q o → length q.table ≤ 1023 → o.answer ≡ valued_answer f answer → ModestAnswer answer o.table
  answer_modest f s q o (Answer.Released x) h a room e = tt
  answer_modest f s q o (Answer.Withheld p m) h a room e = withheld_modest s q o h a room p m e
  answer_modest f s q o (Answer.LostSlot k) h a room e = tt
  answer_modest f s q o (Answer.Refused x) h a room e = tt
