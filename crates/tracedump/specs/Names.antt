-- What the first argument asks for. Assumes nothing.
use Rattle.std.specs.Prelude.{◌≡◌, ℕ, List, Some, None, Ok, Err, Option, Result, ◌≢◌}
use Rattle.kinds.specs.declared.names.KindName.{KindName}
use Rattle.kinds.specs.Names.{kind_word}
use Rattle.tracedump.specs.declared.request.Refusal.{Refusal}

-- the kind that the first argument asks for, or why there is none
abbrev pub Asked : Option (List ℕ) → Result KindName Refusal → Type 0
Asked None (Ok kind) = ⊥
Asked None (Err why) = why ≡ Refusal.NoKind
Asked (Some word) (Ok kind) = word ≡ kind_word kind
Asked (Some word) (Err why) = (why ≡ Refusal.UnknownKind) × ((kind : KindName) → word ≢ kind_word kind)
