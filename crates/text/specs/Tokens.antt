-- The tokens of a line, and what a line means. Assumes nothing.
use Rattle.std.specs.Prelude.{ℕ, cond, List, [], ◌∷◌, length, Some, None, Ok, Err, Option, Result}
use Rattle.text.specs.Alphabet.{same}
use Rattle.text.specs.Faults.{along}
use Rattle.text.specs.Judging.{judged}
use Rattle.text.specs.Numbers.{number_of}
use Rattle.text.specs.Runs.{Run, runs}
use Rattle.text.specs.declared.alphabet.Class.{Class}
use Rattle.text.specs.declared.alphabet.Class.TheVariants as class
use Rattle.text.specs.declared.fault.Fault.{Fault}
use Rattle.text.specs.declared.fault.Place.{Place}
use Rattle.text.specs.declared.token.Placed.{Placed}
use Rattle.text.specs.declared.token.Token.{Token}
use Rattle.text.specs.declared.token.Token.TheVariants as token

-- a token by itself, a word as its bytes
pub data Symbol : Type 0 where
  opening : Symbol
  closing : Symbol
  number : ℕ → Symbol
  word : List ℕ → Symbol

-- a token with the place of its first byte
abbrev pub Spot : Type 0
Spot = Place × Symbol

abbrev pub symbol : Token → Symbol
symbol token.Open = opening
symbol token.Close = closing
symbol (token.Number n) = number n
symbol (token.Word w) = word w.now

abbrev pub spot : Placed → Spot
spot t = (t.place, symbol t.token)

-- a run of digits is a token where it writes a number
abbrev pub numeral : Option ℕ → Option Symbol
numeral (Some n) = Some (number n)
numeral None = None

-- the token that a run is, if it is one
abbrev pub symbol_of : Class → List ℕ → Option Symbol
symbol_of class.Open bs = Some opening
symbol_of class.Close bs = Some closing
symbol_of class.Blank bs = None
symbol_of class.Digit bs = numeral (number_of bs)
symbol_of class.Letter bs = Some (word bs)
symbol_of class.Outside bs = None

-- a token before those that follow; what is no token ends them
abbrev pub onto : Place → Option Symbol → List Spot → List Spot
onto p (Some s) ts = (p, s) ∷ ts
onto p None ts = []

-- the tokens of runs that begin at a place, up to the first run that is neither a token nor blanks
unfoldable pub tokens : Place → List Run → List Spot
tokens p [] = []
tokens p (r ∷ rs) =
    cond (same r.0 class.Blank) (tokens (along p (length r.1)) rs)
    (onto p (symbol_of r.0 r.1) (tokens (along p (length r.1)) rs))

-- where a line begins
abbrev pub line_start : ℕ → Place
line_start n = record { line = n; column = 1 }

-- what the n-th line means: its leftmost fault, or its tokens where it has none
abbrev pub meaning : ℕ → List ℕ → Result (List Spot) Fault
meaning n bs = elim (judged (line_start n) 0 (runs bs)) [ Ok _ ↦ Ok (tokens (line_start n) (runs bs)) | Err f ↦ Err f ]
