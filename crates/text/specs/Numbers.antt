-- What a run of digits writes. Assumes nothing.
use Rattle.std.specs.Prelude.{ℕ, ◌+◌, ◌-◌, ◌*◌, ◌^◌, Bool, cond, ◌&&◌, List, [], ◌∷◌, length, Some, None, Option, ◌==◌, nat_lt, slice_index}

-- the number that digits write in base ten, after those that wrote n
unfoldable pub value_after : ℕ → List ℕ → ℕ
value_after n [] = n
value_after n (d ∷ ds) = value_after (10 * n + (d - 48)) ds

-- digits that begin with a zero, though they are not 0 itself
abbrev pub zero_led : List ℕ → Bool
zero_led ds = nat_lt 1 (length ds) && slice_index ds 0 == 48

-- the number that a run of digits is: it has no zero in front, and is below 2^32
abbrev pub number_of : List ℕ → Option ℕ
number_of ds = cond (zero_led ds) None (cond (nat_lt (value_after 0 ds) (2 ^ 32)) (Some (value_after 0 ds)) None)
