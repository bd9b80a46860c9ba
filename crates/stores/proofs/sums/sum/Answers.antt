use Rattle.std.proofs.Common.{◌≡◌, ℕ, ◌+◌, ◌<◌, sym, ap, ◌∙◌, ⊎_elim, arith}
use Rattle.std.proofs.lemmas.Bool.{cases_lt}
use Rattle.stores.specs.Log.{Log, meant}
use Rattle.stores.specs.Sums.{AllKept}
use Rattle.stores.specs.declared.store.Mark.TheVariants.{Kept}
use Rattle.stores.proofs.Adding.{sum_more, value_tells, kept_tells}
use Rattle.stores.proofs.sums.sum.Goals as goal

kept_more : {V : Type 0} (log : Log V) (low slot : ℕ) → AllKept log.mark low slot → log.mark slot ≡ Kept → AllKept log.mark low (slot + 1)
kept_more log low slot before here i from to =
    ⊎_elim
    (λ below. before i from below)
    (λ past. let same : i ≡ slot = omega arith in ap log.mark same ∙ here)
    (cases_lt i slot)

pub loop-slot-preserved : goal.loop-slot-preserved
loop-slot-preserved g c =
    let meaning = g.K.Kind.meaning in
    let log = meant meaning (g.S.Store.log c.args.store.now) in
    let slot = c.loop-slot.slot in
    let inv = c.loop-slot.invariant in
    let within : slot < log.slots = omega arith in
    let value = kept_tells meaning slot c.read.result c.in_ok-kept.field-0 (sym c.kept.ensures ∙ c.in_ok-kept.was) in
    let told = value_tells log slot _ within (sym value ∙ c.read.ensures) in (
      omega arith,
      omega arith,
      kept_more log c.args.range.low slot inv.2 told.0,
      c.plus-sum.ensures ∙ (λ i. g.K.Kind.group.plus (inv.3 i) (told.1 i)) ∙ sym (sum_more g.K.Kind.group log.reading c.args.range.low slot inv.0),
    )
