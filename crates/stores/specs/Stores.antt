-- What the lists, bytes and bounds of each store mean. Assumes nothing.
use Rattle.std.specs.Prelude.{ℕ, ◌+◌, ◌-◌, ◌*◌, ◌/◌, min, List, length, take, drop, Some, None, Option, slice_index, slice_index_or}
use Rattle.std.specs.Option.{unwrap_or}
use Rattle.kinds.specs.Codec.{Codec}
use Rattle.kinds.specs.Group.{Group}
use Rattle.stores.specs.declared.store.Mark.{Mark}
use Rattle.stores.specs.declared.store.Mark.TheVariants.{Lost}
use Rattle.stores.specs.Log.{Log, mark_of}

-- plain: a list of values and a list of mark bytes; as many slots as the shorter has
abbrev pub plain_log : {R : Type 0} → R → List R → List ℕ → Log R
plain_log none values marks = record {
  slots = min (length values) (length marks);
  reading = λ i. slice_index_or values i none;
  mark = λ i. mark_of (slice_index marks i);
}

-- window: slot i is slot start + i below, as far as both the window and the store below reach
abbrev pub window_log : {R : Type 0} → Log R → ℕ → ℕ → Log R
window_log below start length = record {
  slots = min length (below.slots - start);
  reading = λ i. below.reading (start + i);
  mark = λ i. below.mark (start + i);
}

-- packed: a record for each slot, a mark byte and then the value's bytes
abbrev pub width : {V : Type 0} → Codec 256 V → ℕ
width c = 1 + c.size

-- the bytes of slot i's record
abbrev pub record_bytes : {V : Type 0} → Codec 256 V → List ℕ → ℕ → List ℕ
record_bytes c bytes i = take (width c) (drop (i * width c) bytes)

-- the value that a record holds, if the bytes after its mark are one
abbrev pub record_value : {V : Type 0} → Codec 256 V → List ℕ → Option V
record_value c row = c.read (drop 1 row)

-- a record that holds no value is lost, whatever its mark byte
abbrev pub mark_with : {V : Type 0} → Option V → ℕ → Mark
mark_with None byte = Lost
mark_with (Some v) byte = mark_of byte

abbrev pub record_mark : {V : Type 0} → Codec 256 V → List ℕ → Mark
record_mark c row = mark_with (record_value c row) (slice_index row 0)

-- a record that holds no value reads as zero
abbrev pub record_reading : {V : Type 0} → Group V → Codec 256 V → List ℕ → V
record_reading G c row = unwrap_or (record_value c row) G.zero

-- whole records only: bytes left over are no slot
abbrev pub packed_log : {V : Type 0} → Group V → Codec 256 V → List ℕ → Log V
packed_log G c bytes = record {
  slots = length bytes / width c;
  reading = λ i. record_reading G c (record_bytes c bytes i);
  mark = λ i. record_mark c (record_bytes c bytes i);
}
