-- Ranges of boundaries, by the numbers of their ends. Assumes nothing.
use Rattle.std.specs.Prelude.{ℕ}
use Rattle.ranges.specs.declared.Range.{Range as Pair}

abbrev pub Range : Type 0
Range = Pair ℕ
