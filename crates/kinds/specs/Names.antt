-- The names of the kinds. Assumes nothing.
use Rattle.std.specs.Prelude.{◌≡◌, ℕ, List, Ok, Err, codes, Result, ◌≢◌}
use Rattle.kinds.specs.declared.names.KindName.{KindName}
use Rattle.kinds.specs.declared.names.KindName.TheVariants.{Wh, Toggles, Dials}
use Rattle.kinds.specs.declared.names.UnknownKind.{UnknownKind}

abbrev pub kind_word : KindName → List ℕ
kind_word Wh = codes "wh"
kind_word Toggles = codes "toggles"
kind_word Dials = codes "dials"

-- the kind that a word names, or an error where it names none
abbrev pub Named : List ℕ → Result KindName UnknownKind → Type 0
Named word (Ok kind) = word ≡ kind_word kind
Named word (Err none) = (kind : KindName) → word ≢ kind_word kind
