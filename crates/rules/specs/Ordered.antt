-- The law of every rule, that it protects ranges alone, and why each rule here keeps it. Assumes nothing.
use Rattle.std.specs.Prelude.{◌≡◌, ℕ, ◌≤◌, Bool, false, ◌&&◌, ◌||◌, List, nat_lt}
use Rattle.std.proofs.Common.{ap, ◌∙◌, le-ltb}
use Rattle.ranges.specs.declared.Range.{Range}
use Rattle.rules.specs.Pairs.{short, up_to, spans, either}

-- a pair whose low end is not below its high end is never protected
abbrev pub Ordered : (ℕ → ℕ → Bool) → Type 0
Ordered protects = (low high : ℕ) → high ≤ low → protects low high ≡ false

-- what asks for a range first
only_ranges : (rest : ℕ → ℕ → Bool) → Ordered (λ low high. nat_lt low high && rest low high)
only_ranges rest low high back = ap (λ b. b && rest low high) (le-ltb low high back)

pub short_ordered : (k : ℕ) → Ordered (short k)
short_ordered k = only_ranges _

pub up_to_ordered : (longest : ℕ) → Ordered (up_to longest)
up_to_ordered longest = only_ranges _

pub spans_ordered : (list : List (Range ℕ)) → Ordered (spans list)
spans_ordered list = only_ranges _

pub either_ordered : (first second : ℕ → ℕ → Bool) → Ordered first → Ordered second → Ordered (either first second)
either_ordered first second one two low high back =
    ap (λ b. b || second low high) (one low high back) ∙ two low high back
