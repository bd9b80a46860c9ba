-- How the values of a kind are written as a row of numbers below a limit: bytes below 256, or 32-bit numbers. Assumes nothing.
use Rattle.std.specs.Prelude.{◌≡◌, ℕ, ◌<◌, Bool, cond, List, length, Some, Option, ◌==◌, slice_index}

-- each number of the row is below the limit
abbrev pub Within : ℕ → List ℕ → Type 0
Within limit row = (k : ℕ) → k < length row → slice_index row k < limit

pub record Codec (limit : ℕ) (V : Type 0) : Type 0 where
  -- how many numbers a value has
  pub size : ℕ
  pub write : V → List ℕ
  -- the value that a row is, or none
  pub read : List ℕ → Option V
  pub sized : (v : V) → length (write v) ≡ size
  pub fits : (v : V) → Within limit (write v)
  -- what is written reads back as the same value
  pub back : (v : V) → read (write v) ≡ Some v
  -- no other row within the limit is read as that value
  pub only : (row : List ℕ) (v : V) → Within limit row → read row ≡ Some v → row ≡ write v

-- a row has a codec's length
abbrev pub fitted : {limit : ℕ} {V : Type 0} → Codec limit V → List ℕ → Bool
fitted c row = length row == c.size

-- what a buffer holds once v is written into it: v's row where the lengths agree, else what it held
abbrev pub filled : {limit : ℕ} {V : Type 0} → Codec limit V → V → List ℕ → List ℕ
filled c v row = cond (fitted c row) (c.write v) row
