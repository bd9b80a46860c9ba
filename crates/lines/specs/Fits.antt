-- The lines fit the line buffer. Assumes nothing.
use Rattle.std.specs.Prelude.{◌≡◌, ℕ, ◌≤◌, List, [], ◌∷◌, length, take, Some, Option}
use Rattle.links.specs.declared.step.Step.{Step}
use Rattle.links.specs.Rings.{new_steps}
use Rattle.ledger.specs.declared.answer.Answer.{Answer}
use Rattle.lines.specs.Lines.{Tried, rehearsed_line}

-- in a buffer of 16,384 bytes or more the text is written whole
abbrev pub Whole : List ℕ → List ℕ → Option ℕ → Type 0
Whole text before answer = 16384 ≤ length before → answer ≡ Some (length text)

-- no step has an end above n
abbrev pub EndsWithin : ℕ → List Step → Type 0
EndsWithin n [] = Unit {0}
EndsWithin n (s ∷ ss) = ((s.low ≤ n) × (s.high ≤ n)) × EndsWithin n ss

-- a chain as long as one over 1,024 boundaries can be, with at most one step over the query itself
pub record Modest (steps : List Step) : Type 0 where
  pub few : length steps ≤ 1023
  pub ends : EndsWithin 1023 steps
  pub once : new_steps steps ≤ 1

-- the chain of a withheld answer is modest
abbrev pub ModestAnswer : {V : Type 0} → Answer V → List Step → Type 0
ModestAnswer (Answer.Released v) table = Unit {0}
ModestAnswer (Answer.Withheld p m) table = Modest (take m table)
ModestAnswer (Answer.LostSlot k) table = Unit {0}
ModestAnswer (Answer.Refused f) table = Unit {0}

-- the line of a rehearsal of at most 32 tries fits
abbrev pub RehearsalsFit : Type 0
RehearsalsFit = (ts : List Tried) → length ts ≤ 32 → length (rehearsed_line ts) ≤ 16384
