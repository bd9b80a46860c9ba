-- The tries of a script with what was answered to them. Assumes nothing.
use Rattle.std.specs.Prelude.{ℕ, List, [], ◌∷◌}
use Rattle.ledger.specs.declared.answer.Trial.{Trial}
use Rattle.lines.specs.Lines.{Tried}

-- each range with what was answered to it
abbrev pub answered : List (ℕ × ℕ) → List Trial → List Tried
answered [] xs = []
answered (p ∷ ps) [] = []
answered (p ∷ ps) (x ∷ xs) = record { low = p.0; high = p.1; trial = x } ∷ answered ps xs
