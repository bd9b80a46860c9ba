-- Every entry before the loop's place is zero.
use Rattle.std.proofs.Common.{◌≡◌, ℕ, ◌<◌, map}
use Rattle.distances.specs.Distance.{entry}
use Rattle.distances.proofs.table.clear.Given as goal

abbrev pub invariant-loop-entry : goal.invariant-loop-entry
invariant-loop-entry g l =
    (k : ℕ) → k < l.entry-index → entry g.K.Kind.group (map g.K.Kind.meaning l.table) k ≡ g.K.Kind.group.zero
