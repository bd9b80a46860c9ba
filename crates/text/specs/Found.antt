-- One token taken from those that are left. Assumes nothing.
use Rattle.std.specs.Prelude.{◌≡◌, ℕ, ◌+◌, ◌≤◌, List, [], ◌∷◌, length, drop, Some, None, Option, MatchOption}
use Rattle.text.specs.Runs.{runs}
use Rattle.text.specs.Script.{State}
use Rattle.text.specs.Tokens.{Spot, spot, tokens}
use Rattle.text.specs.declared.run.Line.{Line}
use Rattle.text.specs.declared.token.Placed.{Placed}

-- the first token, if there is one
abbrev pub first : List Spot → Option Spot
first [] = None
first (t ∷ ts) = Some t

-- the state with one token fewer left
abbrev pub passed : State → State
passed s = record { number = s.number; left = drop 1 s.left; following = s.following }

-- the first token is taken, where one is left
pub record TakesToken (s : State) (r : Option Spot) (t : State) : Type 0 where
  pub value : r ≡ first s.left
  pub after : t ≡ passed s

-- the tokens that are left of a line
abbrev pub tokens_left : Line → List Spot
tokens_left s = tokens s.place (runs s.rest.now)

-- a line's first token, and what follows it: its columns go no further than its bytes
pub record Next (s : Line) (t : Spot) (u : Line) : Type 0 where
  pub within : length u.rest.now + u.place.column ≤ length s.rest.now + s.place.column
  pub is : tokens_left s ≡ t ∷ tokens_left u
  pub line : u.place.line ≡ s.place.line

-- the first token with what follows it, where one is left
abbrev pub FindsToken : Line → Option (Placed × Line) → Type 0
FindsToken s r = MatchOption r (tokens_left s ≡ []) (λ f. Next s (spot f.0) f.1)
