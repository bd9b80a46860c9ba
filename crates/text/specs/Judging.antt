-- Which fault the text of a line has. Assumes nothing.
use Rattle.std.specs.Prelude.{ℕ, zero, suc, ◌+◌, List, [], ◌∷◌, length, Some, None, Ok, Err, Option, Result}
use Rattle.text.specs.Faults.{along}
use Rattle.text.specs.Numbers.{number_of}
use Rattle.text.specs.Runs.{Run}
use Rattle.text.specs.declared.alphabet.Class.{Class}
use Rattle.text.specs.declared.alphabet.Class.TheVariants as class
use Rattle.text.specs.declared.fault.Fault.{Fault}
use Rattle.text.specs.declared.fault.Fault.TheVariants as fault
use Rattle.text.specs.declared.fault.Place.{Place}

-- a closing bracket needs one that is open
abbrev pub closed : Place → ℕ → Result ℕ Fault
closed p zero = Err (fault.Bracket p)
closed p (suc depth) = Ok depth

-- a run of digits is to be a number
abbrev pub sound : Place → ℕ → Option ℕ → Result ℕ Fault
sound p depth (Some n) = Ok depth
sound p depth None = Err (fault.Number p)

-- how many brackets are open after a run that begins at a place, or the run's fault
abbrev pub depth_after : Place → ℕ → Class → List ℕ → Result ℕ Fault
depth_after p depth class.Open bs = Ok (depth + 1)
depth_after p depth class.Close bs = closed p depth
depth_after p depth class.Blank bs = Ok depth
depth_after p depth class.Digit bs = sound p depth (number_of bs)
depth_after p depth class.Letter bs = Ok depth
depth_after p depth class.Outside bs = Err (fault.Outside p)

-- a line may end where no bracket is open
abbrev pub ended : Place → ℕ → Result (Unit {0}) Fault
ended p zero = Ok tt
ended p (suc depth) = Err (fault.Bracket p)

-- the leftmost fault of runs that begin at a place with so many brackets open, if they have one
unfoldable pub judged : Place → ℕ → List Run → Result (Unit {0}) Fault
judged p depth [] = ended p depth
judged p depth (r ∷ rs) =
    elim (depth_after p depth r.0 r.1) [ Ok d ↦ judged (along p (length r.1)) d rs | Err f ↦ Err f ]
