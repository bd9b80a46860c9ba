use Rattle.std.proofs.Common.{◌≡◌, ◌≤◌}
use Rattle.stores.specs.Log.{meant}
use Rattle.stores.specs.Sums.{AllKept, range_sum}
use Rattle.stores.proofs.sums.sum.Given as goal

abbrev pub invariant-loop-slot : goal.invariant-loop-slot
invariant-loop-slot g l =
    let log = meant g.K.Kind.meaning (g.S.Store.log l.store) in
    (l.fn.range.low ≤ l.slot) × (l.slot ≤ l.fn.range.high) × AllKept log.mark l.fn.range.low l.slot
    × (g.K.Kind.meaning l.sum ≡ range_sum g.K.Kind.group log.reading l.fn.range.low l.slot)
