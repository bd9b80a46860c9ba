-- Texts in a lent buffer, and numbers as texts in base ten. Assumes nothing.
use Rattle.std.specs.Prelude.{◌≡◌, ℕ, cond, List, ◌∷◌, ◌++◌, length, take, drop, Some, None, decimal, Option, nat_le}
use Rattle.std.specs.List.{flat_map}

-- how much of a buffer a text fills; none where it does not fit
abbrev pub filled : List ℕ → List ℕ → Option ℕ
filled text buf = cond (nat_le (length text) (length buf)) (Some (length text)) None

-- what a buffer holds once a text is written from its start on: as much of the text as fits, then what it held there
unfoldable pub placed : List ℕ → List ℕ → List ℕ
placed text buf = take (length buf) text ++ drop (length text) buf

-- What a writer of a text does to a lent buffer, and answers: how much of it the text fills, where it fits.
pub record Wrote (text before after : List ℕ) (answer : Option ℕ) : Type 0 where
  pub value : answer ≡ filled text before
  pub left : after ≡ placed text before

-- a number in base ten, after a blank
abbrev pub number_text : ℕ → List ℕ
number_text n = 32 ∷ decimal n

-- an opening, numbers, a closing
abbrev pub form_text : List ℕ → List ℕ → List ℕ → List ℕ
form_text opening ns closing = opening ++ flat_map number_text ns ++ closing
