-- What packing a slot writes, and what is then read. Assumes nothing.
use Rattle.std.specs.Prelude.{◌≡◌, ℕ, ◌+◌, ◌*◌, ◌/◌, ◌<◌, Bool, cond, List, ◌∷◌, ◌++◌, length, take, drop, replicate, Some, None, Option, ◌≢◌, nat_lt}
use Rattle.kinds.specs.Codec.{Codec}
use Rattle.kinds.specs.Group.{Group}
use Rattle.stores.specs.declared.store.Mark.TheVariants as mark
use Rattle.stores.specs.declared.store.Reading.{Reading}
use Rattle.stores.specs.declared.store.Reading.TheVariants.{Value, Missing, Outside}
use Rattle.stores.specs.Log.{Log}
use Rattle.stores.specs.Stores.{packed_log, record_bytes, width}

-- a slot is packed as kept with a value, or as lost: the record of a kept one is mark byte 1 and the value's bytes; that of a lost one is all zeros
abbrev pub packed_record : {V : Type 0} → Codec 256 V → Option V → List ℕ
packed_record c (Some v) = 1 ∷ c.write v
packed_record c None = replicate (width c) 0

-- bytes with a row written over them from a place on
abbrev pub overwritten : List ℕ → ℕ → List ℕ → List ℕ
overwritten bytes at row = take at bytes ++ (row ++ drop (at + length row) bytes)

-- a slot has a record that lies whole within the bytes
abbrev pub has_record : {V : Type 0} → Codec 256 V → List ℕ → ℕ → Bool
has_record c bytes slot = nat_lt slot (length bytes / width c)

-- what packing leaves: the slot's record written, every other byte as it was; without a record, all as it was
abbrev pub packed : {V : Type 0} → Codec 256 V → List ℕ → ℕ → Option V → List ℕ
packed c bytes slot what =
    cond (has_record c bytes slot) (overwritten bytes (slot * width c) (packed_record c what)) bytes

-- what a slot's mark and reading are, once packed
abbrev pub Packed : {V : Type 0} → Log V → ℕ → Option V → Type 0
Packed log slot (Some v) = (log.mark slot ≡ mark.Kept) × (log.reading slot ≡ v)
Packed log slot None = log.mark slot ≡ mark.Lost

-- a slot's mark and reading are the same in both logs
abbrev pub Same : {V : Type 0} → Log V → Log V → ℕ → Type 0
Same old new slot = (new.mark slot ≡ old.mark slot) × (new.reading slot ≡ old.reading slot)

-- the packed slot reads back as what it was packed as, every other slot as before, and no slot comes or goes
pub record ReadsBack {V : Type 0} (old new : Log V) (slot : ℕ) (what : Option V) : Type 0 where
  pub slots : new.slots ≡ old.slots
  pub here : Packed new slot what
  pub others : (i : ℕ) → (i ≢ slot) → Same old new i

-- what a slot is packed as when it is packed as it was read
abbrev pub slot_of : {R : Type 0} → Reading R → Option R
slot_of (Value x) = Some x
slot_of Missing = None
slot_of Outside = None

-- every slot of old packed again as it was read, over what the target held before: a kept slot's record has the same bytes, a lost one's is
-- all zeros, and bytes left over stay
pub record Repacked {V : Type 0} (G : Group V) (c : Codec 256 V) (old before new : List ℕ) : Type 0 where
  pub long : length new ≡ length old
  pub kept : (i : ℕ) → i < length old / width c → (packed_log G c old).mark i ≡ mark.Kept → record_bytes c new i ≡ record_bytes c old i
  pub lost : (i : ℕ) → i < length old / width c → (packed_log G c old).mark i ≡ mark.Lost → record_bytes c new i ≡ replicate (width c) 0
  pub rest : drop (length old / width c * width c) new ≡ drop (length old / width c * width c) before
