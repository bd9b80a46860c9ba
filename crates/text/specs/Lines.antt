-- The first line of a text. Assumes nothing.
use Rattle.std.specs.Prelude.{◌≡◌, ℕ, ◌+◌, ◌<◌, ◌≤◌, List, ◌∷◌, length}
use Rattle.text.specs.Script.{lines}

-- a text's first line, and the text after it
pub record FirstLine (text line rest : List ℕ) : Type 0 where
  pub within : length line + length rest ≤ length text
  pub shorter : 0 < length text → length rest < length text
  pub first : 0 < length text → lines text ≡ line ∷ lines rest
