-- The faults of a script's text: their numbers and their places. Assumes nothing.
use Rattle.std.specs.Prelude.{ℕ, ◌+◌}
use Rattle.text.specs.declared.fault.Fault.{Fault}
use Rattle.text.specs.declared.fault.Fault.TheVariants.{TooLong, Outside, Number, Bracket}
use Rattle.text.specs.declared.fault.Place.{Place}

-- a fault's number, and its place: line 0 and column 0 for a script that is too long
abbrev pub told : Fault → ℕ × Place
told TooLong = (11, record { line = 0; column = 0 })
told (Outside p) = (12, p)
told (Number p) = (13, p)
told (Bracket p) = (14, p)

abbrev pub fault_number : Fault → ℕ
fault_number f = (told f).0

abbrev pub fault_place : Fault → Place
fault_place f = (told f).1

-- a place further on in its line
abbrev pub along : Place → ℕ → Place
along p n = record { line = p.line; column = p.column + n }
