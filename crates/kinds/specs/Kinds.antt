-- The three kinds: their values, how these add, and how they stand as bytes and as numbers. Assumes nothing.
use Rattle.std.specs.Prelude.{◌%◌, ◌^◌, Bool, ◌==◌}
use Rattle.std.specs.Ordering.{on, eq_of_both}
use Rattle.std.proofs.Common.{lit<, lit≤}
use Rattle.kinds.specs.declared.dials.Dials.{Dials}
use Rattle.kinds.specs.declared.toggles.Toggles.{Toggles}
use Rattle.kinds.specs.declared.wh.Wh.{Wh}
use Rattle.kinds.specs.Codec.{Codec}
use Rattle.kinds.specs.Digits.{placed}
use Rattle.kinds.specs.Group.{Group, paired}
use Rattle.kinds.specs.Pairs.{beside}
use Rattle.kinds.specs.Residues.{Residue, residue, modular, masks}

-- wh: the numbers below 2^32, added modulo 2^32; four bytes, the lowest first; one number
abbrev pub wh_group : Group (Residue (2 ^ 32))
wh_group = modular (2 ^ 32) (lit< tt) (lit< tt)

abbrev pub wh_meaning : Wh → Residue (2 ^ 32)
wh_meaning x = residue (2 ^ 32) (lit< tt) x.amount

-- readings are equal where they mean the same
abbrev pub wh_eq : Wh → Wh → Bool
wh_eq = on (λ x. x.amount % 2 ^ 32) ◌==◌

abbrev pub wh_held : Residue (2 ^ 32) → Wh
wh_held v = record { amount = v.number }

abbrev pub wh_bytes : Codec 256 (Residue (2 ^ 32))
wh_bytes = placed 256 4 (2 ^ 32) (lit< tt) (lit< tt) (lit≤ tt)

abbrev pub wh_numbers : Codec (2 ^ 32) (Residue (2 ^ 32))
wh_numbers = placed (2 ^ 32) 1 (2 ^ 32) (lit< tt) (lit< tt) (lit≤ tt)

-- toggles: masks of 16 bits, added by exclusive or; two bytes, the lowest first; one number
abbrev pub toggles_group : Group (Residue (2 ^ 16))
toggles_group = masks 16 (lit< tt) (lit< tt)

abbrev pub toggles_meaning : Toggles → Residue (2 ^ 16)
toggles_meaning x = residue (2 ^ 16) (lit< tt) x.mask

abbrev pub toggles_eq : Toggles → Toggles → Bool
toggles_eq = on (λ x. x.mask % 2 ^ 16) ◌==◌

abbrev pub toggles_held : Residue (2 ^ 16) → Toggles
toggles_held v = record { mask = v.number }

abbrev pub toggles_bytes : Codec 256 (Residue (2 ^ 16))
toggles_bytes = placed 256 2 (2 ^ 16) (lit< tt) (lit< tt) (lit≤ tt)

abbrev pub toggles_numbers : Codec (2 ^ 32) (Residue (2 ^ 16))
toggles_numbers = placed (2 ^ 32) 1 (2 ^ 16) (lit< tt) (lit< tt) (lit≤ tt)

-- dials: litres below 10,000 and starts below 1,000, each added modulo its end; litres first, two bytes and one number each
abbrev pub DialValue : Type 0
DialValue = Residue 10000 × Residue 1000

abbrev pub dials_group : Group DialValue
dials_group = paired (modular 10000 (lit< tt) (lit< tt)) (modular 1000 (lit< tt) (lit< tt))

-- a pair beyond its ends means its remainders
abbrev pub dials_meaning : Dials → DialValue
dials_meaning x = (residue 10000 (lit< tt) x.litres, residue 1000 (lit< tt) x.starts)

abbrev pub dials_eq : Dials → Dials → Bool
dials_eq = eq_of_both (on (λ x. x.litres % 10000) ◌==◌) (on (λ x. x.starts % 1000) ◌==◌)

abbrev pub dials_held : DialValue → Dials
dials_held v = record { litres = v.0.number; starts = v.1.number }

abbrev pub dials_bytes : Codec 256 DialValue
dials_bytes = beside (placed 256 2 10000 (lit< tt) (lit< tt) (lit≤ tt)) (placed 256 2 1000 (lit< tt) (lit< tt) (lit≤ tt))

abbrev pub dials_numbers : Codec (2 ^ 32) DialValue
dials_numbers = beside (placed (2 ^ 32) 1 10000 (lit< tt) (lit< tt) (lit≤ tt)) (placed (2 ^ 32) 1 1000 (lit< tt) (lit< tt) (lit≤ tt))
