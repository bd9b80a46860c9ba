-- Packing slot after slot as they were read. Assumes nothing.
use Rattle.std.proofs.Common.{◌≡◌, ℕ, ◌+◌, ◌*◌, ◌/◌, ◌<◌, eqb, List, [], ◌∷◌, length, get_or, take, drop, Some, None, Option, unwrap_or, sym, refl, ap, ◌∙◌, subst, ⊎_elim, arith, length-drop, length-take}
use Rattle.std.proofs.lemmas.List.{get_or-take, get_or-drop}
use Rattle.std.proofs.lemmas.Bool.{cases_lt, cases_Bool, lt-ltb, eqb-true, cond-true, cond-false}
use Rattle.kinds.specs.Codec.{Codec, Within}
use Rattle.kinds.specs.Group.{Group}
use Rattle.std.specs.Option.{option_map}
use Rattle.stores.specs.declared.store.Mark.TheVariants as mark
use Rattle.stores.specs.declared.store.Reading.{Reading}
use Rattle.stores.specs.declared.store.Reading.TheVariants.{Value, Missing, Outside}
use Rattle.stores.specs.Log.{told, answer, valued}
use Rattle.stores.specs.Packing.{packed_record, overwritten, packed, slot_of, Repacked}
use Rattle.stores.specs.Stores.{packed_log, width, record_bytes, record_value, record_reading, mark_with}
use Rattle.stores.proofs.Overwrites.{apart, here, elsewhere, past, length_record, length_overwritten}
use Rattle.stores.proofs.Records.{record_fits, answer_inside}

pub slot_of_valued : {R V : Type 0} (f : R → V) (r : Reading R) → option_map f (slot_of r) ≡ slot_of (valued f r)
slot_of_valued f (Value x) = refl
slot_of_valued f Missing = refl
slot_of_valued f Outside = refl

module _ {V : Type 0} (G : Group V) (c : Codec 256 V) (old before : List ℕ) where
  -- the slots below n are packed as they were read
  pub record Sofar (new : List ℕ) (n : ℕ) : Type 0 where
    pub long : length new ≡ length old
    pub each : (i : ℕ) → i < n → record_bytes c new i ≡ packed_record c (slot_of (answer (packed_log G c old) i))
    pub rest : drop (length old / width c * width c) new ≡ drop (length old / width c * width c) before

  pub sofar_more : (new : List ℕ) (n : ℕ) (what : Option V) → Sofar new n → n < length old / width c → what ≡ slot_of (answer (packed_log G c old) n) → Sofar (packed c new n what) (n + 1)
  sofar_more new n what so within is =
      let row = packed_record c what in
      let same = length_record G c what in
      let long = so.long in
      let inside : n < length new / width c = rw so.long within in
      let fits = record_fits n (length new) (width c) inside in
      let whole : packed c new n what ≡ overwritten new (n * width c) row = cond-true _ _ _ (lt-ltb n _ inside) in
      rw whole (record {
        long = length_overwritten new (n * width c) row (omega arith) ∙ so.long;
        each = λ i below.
            ⊎_elim
            (λ less. let other : i ≡ n → ⊥ = λ e. omega arith in elsewhere G c new n row same fits i other ∙ so.each i less)
            (λ past.
            let at : i ≡ n = omega arith in
            let now : record_bytes c (overwritten new (n * width c) row) n ≡ packed_record c (slot_of (answer (packed_log G c old) n)) = here G c new n row same fits ∙ ap (packed_record c) is in
            subst (λ k. record_bytes c (overwritten new (n * width c) row) k ≡ packed_record c (slot_of (answer (packed_log G c old) k))) (sym at) now)
            (cases_lt i n);
        rest = past G c new n row same fits (length old / width c * width c) (apart n (length old / width c) (width c) within) ∙ so.rest;
      })

  -- a kept record is its mark byte 1 and the bytes of its value
  kept_parts : (o : Option V) (byte : ℕ) → mark_with o byte ≡ mark.Kept → (byte ≡ 1) × (o ≡ Some (unwrap_or o G.zero))
  kept_parts None byte e = let z : ◌≡◌ {A = ℕ} 0 1 = cc in absurd (omega arith)
  kept_parts (Some v) byte e = (
    ⊎_elim
        (λ is. eqb-true byte 1 is)
        (λ is. let lost : mark.Lost ≡ mark.Kept = sym (cond-false _ _ _ is) ∙ e in let z : ◌≡◌ {A = ℕ} 0 1 = cc in absurd (omega arith))
        (cases_Bool (eqb byte 1)),
    refl,
  )

  whole_row : (row : List ℕ) → 0 < length row → row ≡ get_or row 0 0 ∷ drop 1 row
  whole_row [] some = absurd (omega arith)
  whole_row (b ∷ row) some = refl

  within_row : (i : ℕ) → Within 256 old → Within 256 (drop 1 (record_bytes c old i))
  within_row i fits k h =
      let row = drop (i * width c) old in
      let a = length-drop 1 (take (width c) row) in
      let b = length-take (width c) row in
      let d = length-drop (i * width c) old in
      rw (get_or-drop 1 (take (width c) row) k 0, get_or-take (width c) row (1 + k) 0 (omega arith), get_or-drop (i * width c) old (1 + k) 0) (fits _ (omega arith))

  pub repacked : (new : List ℕ) → Within 256 old → Sofar new (length old / width c) → Repacked G c old before new
  repacked new fits so = record {
    long = so.long;
    kept = λ i within is.
        let row = record_bytes c old i in
        let parts = kept_parts (record_value c row) (get_or row 0 0) is in
        let place = record_fits i (length old) (width c) within in
        let a = length-take (width c) (drop (i * width c) old) in
        let b = length-drop (i * width c) old in
        let exact : drop 1 row ≡ c.write (record_reading G c row) = c.only (drop 1 row) _ (within_row i fits) parts.1 in
        let told_kept : answer (packed_log G c old) i ≡ Value (record_reading G c row) = sym (answer_inside (packed_log G c old) i within) ∙ ap (λ m. told m (record_reading G c row)) is in
        so.each i within ∙ ap (λ r. packed_record c (slot_of r)) told_kept ∙ sym (whole_row row (omega arith) ∙ (λ j. parts.0 j ∷ exact j));
    lost = λ i within is.
        let row = record_bytes c old i in
        let told-lost : answer (packed_log G c old) i ≡ Missing = sym (answer_inside (packed_log G c old) i within) ∙ ap (λ m. told m (record_reading G c row)) is in
        so.each i within ∙ ap (λ r. packed_record c (slot_of r)) told-lost;
    rest = so.rest;
  }
