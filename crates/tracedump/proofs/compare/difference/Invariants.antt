use Rattle.std.proofs.Common.{ℕ, ◌<◌}
use Rattle.stores.specs.Log.{meant}
use Rattle.tracedump.specs.Compare.{SameAt}
use Rattle.tracedump.proofs.compare.difference.Given as goal

abbrev pub invariant-loop-slot : goal.invariant-loop-slot
invariant-loop-slot g l =
    let whole = meant g.K.Kind.meaning (g.S.Store.log l.whole) in
    let part = meant g.K.Kind.meaning (g.T.Store.log l.part) in
    (i : ℕ) → i < l.slot → SameAt whole l.start part i
