-- Which pairs of numbers each rule protects. Assumes nothing.
use Rattle.std.specs.Prelude.{◌≡◌, ℕ, ◌-◌, Bool, true, false, cond, ◌&&◌, ◌||◌, List, [], ◌∷◌, length, ◌==◌, nat_le, nat_lt}
use Rattle.ranges.specs.declared.Range.{Range}

-- two rules that answer every pair alike
abbrev pub Same : (ℕ → ℕ → Bool) → (ℕ → ℕ → Bool) → Type 0
Same one other = (low high : ℕ) → one low high ≡ other low high

-- the lengths that a rule of short ranges can be made with
abbrev pub allowed_length : ℕ → Bool
allowed_length k = nat_le 1 k && nat_le k 1024

-- a range shorter than k; any range where k is not an allowed length
abbrev pub short : ℕ → ℕ → ℕ → Bool
short k low high = nat_lt low high && cond (allowed_length k) (nat_lt (high - low) k) true

-- a range no longer than that; any range at the largest number of 32 bits
abbrev pub up_to : ℕ → ℕ → ℕ → Bool
up_to longest low high = nat_lt low high && (longest == 4294967295 || nat_le (high - low) longest)

-- the span has these two ends
abbrev pub equals : Range ℕ → ℕ → ℕ → Bool
equals span low high = span.low == low && span.high == high

-- the pair is in the list
abbrev pub listed : List (Range ℕ) → ℕ → ℕ → Bool
listed [] low high = false
listed (s ∷ ss) low high = equals s low high || listed ss low high

-- a listed range; any range where the list has more than 32
abbrev pub spans : List (Range ℕ) → ℕ → ℕ → Bool
spans list low high = nat_lt low high && cond (nat_le (length list) 32) (listed list low high) true

-- what one of two rules protects, or both
abbrev pub either : (ℕ → ℕ → Bool) → (ℕ → ℕ → Bool) → ℕ → ℕ → Bool
either first second low high = first low high || second low high
