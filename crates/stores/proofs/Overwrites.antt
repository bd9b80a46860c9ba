-- What one record written over the bytes of a packed store leaves of the others. Assumes nothing.
use Rattle.std.proofs.Common.{◌≡◌, ℕ, suc, ◌+◌, ◌-◌, ◌*◌, ◌/◌, ◌<◌, ◌≤◌, List, [], ◌∷◌, ◌++◌, length, take, drop, set, Some, None, Option, unwrap_or, sym, refl, ap, ◌∙◌, ⊎_elim, mul-le-mul_right, suc-mul, arith, length-append, length-drop}
use borrow.Rule.Slice.PartMut.{put_mid}
use Rattle.std.proofs.lemmas.List.{append-nil, drop-drop, drop_all, drop_at, take_at, length-take-le, length-replicate, get_or-replicate}
use Rattle.std.proofs.lemmas.Slice.{between_is, take-put_mid_below, drop-put_mid}
use Rattle.std.proofs.lemmas.Bool.{cases_order}
use Rattle.kinds.specs.Codec.{Codec}
use Rattle.kinds.specs.Group.{Group}
use Rattle.stores.specs.declared.store.Mark.TheVariants as mark
use Rattle.stores.specs.Packing.{packed_record, overwritten, ReadsBack, Packed}
use Rattle.stores.specs.Stores.{packed_log, width, record_bytes, record_mark, record_reading, mark_with}
use Rattle.stores.proofs.Records.{record_fits}

-- a row whose first byte is set to 1 and whose rest is written over
pub marked_row : (row w : List ℕ) → 0 < length row → put_mid 1 (length (set row 0 1) - 1) (set row 0 1) w ≡ 1 ∷ w
marked_row [] w some = absurd (omega arith)
marked_row (b ∷ rest) w some =
    ap (λ l. 1 ∷ (w ++ l)) (drop_all (suc (length rest) - 1) rest (omega arith)) ∙ ap (λ l. 1 ∷ l) (append-nil w)

pub putMid_overwritten : (at k : ℕ) (bytes row : List ℕ) → length row ≡ k → put_mid at k bytes row ≡ overwritten bytes at row
putMid_overwritten at k bytes row long =
    ap (λ l. take at bytes ++ (row ++ l)) (drop-drop k at bytes ∙ ap (λ n. drop (at + n) bytes) (sym long))

pub length_overwritten : (bytes : List ℕ) (at : ℕ) (row : List ℕ) → at + length row ≤ length bytes → length (overwritten bytes at row) ≡ length bytes
length_overwritten bytes at row fits =
    let front = length-take-le at bytes (omega arith) in
    let rest = length-drop (at + length row) bytes in
    let inner = length-append row (drop (at + length row) bytes) in
    let outer = length-append (take at bytes) (row ++ drop (at + length row) bytes) in
    omega arith

-- the record of a lower slot ends where that of a higher one begins, or before
pub apart : (i j w : ℕ) → i < j → i * w + w ≤ j * w
apart i j w less =
    let most : suc i * w ≤ j * w = mul-le-mul_right w (omega arith) in
    let more = suc-mul i w in
    omega arith

module _ {V : Type 0} (G : Group V) (c : Codec 256 V) where
  pub length_record : (what : Option V) → length (packed_record c what) ≡ width c
  length_record (Some v) = let sized = c.sized v in omega arith
  length_record None = length-replicate (width c) 0

  module _ (bytes : List ℕ) (slot : ℕ) (row : List ℕ) (long : length row ≡ width c) (fits : slot * width c + width c ≤ length bytes) where
    pub here : record_bytes c (overwritten bytes (slot * width c) row) slot ≡ row
    here =
        let at = slot * width c in
        let front = length-take-le at bytes (omega arith) in
        ap (take (width c)) (drop_at (take at bytes) (row ++ drop (at + length row) bytes) at front) ∙ take_at row _ (width c) long

    pub elsewhere : (i : ℕ) → (i ≡ slot → ⊥) → record_bytes c (overwritten bytes (slot * width c) row) i ≡ record_bytes c bytes i
    elsewhere i other =
        let at = slot * width c in
        let p = i * width c in
        let mid = putMid_overwritten at (width c) bytes row long in
        let below : at ≤ length bytes = omega arith in
        let end : p + width c - p ≡ width c = omega arith in
        ap (λ l. take (width c) (drop p l)) (sym mid)
        ∙ ⊎_elim
        (λ same. absurd (other same))
        (⊎_elim
        (λ less.
        let before = apart i slot (width c) less in
        ap (λ n. take n (drop p (put_mid at (width c) bytes row))) (sym end)
        ∙ between_is (put_mid at (width c) bytes row) p (p + width c)
        ∙ ap (drop p) (take-put_mid_below at (width c) bytes row (p + width c) (omega arith) below)
        ∙ sym (between_is bytes p (p + width c))
        ∙ ap (λ n. take n (drop p bytes)) end)
        (λ more.
        let after = apart slot i (width c) more in
        ap (take (width c)) (drop-put_mid at (width c) bytes row p (omega arith) below long)))
        (cases_order i slot)

    -- bytes past the record stay
    pub past : (p : ℕ) → slot * width c + width c ≤ p → drop p (overwritten bytes (slot * width c) row) ≡ drop p bytes
    past p after =
        let at = slot * width c in
        let below : at ≤ length bytes = omega arith in
        ap (drop p) (sym (putMid_overwritten at (width c) bytes row long)) ∙ drop-put_mid at (width c) bytes row p after below long

  lost_mark : (o : Option V) (byte : ℕ) → byte ≡ 0 → mark_with o byte ≡ mark.Lost
  lost_mark None byte e = refl
  lost_mark (Some v) byte e = ap (mark_with (Some v)) e

  -- the record of a slot tells what the slot was packed as
  tells : (what : Option V) (bytes : List ℕ) (slot : ℕ) → record_bytes c bytes slot ≡ packed_record c what → Packed (packed_log G c bytes) slot what
  tells (Some v) bytes slot e =
      (ap (record_mark c) e ∙ ap (λ o. mark_with o 1) (c.back v), ap (record_reading G c) e ∙ ap (λ o. unwrap_or o G.zero) (c.back v))
  tells None bytes slot e =
      ap (record_mark c) e ∙ lost_mark _ _ (get_or-replicate (width c) 0 0 0 (omega arith))

  pub reads_back : (bytes : List ℕ) (slot : ℕ) (what : Option V) → slot < length bytes / width c → ReadsBack (packed_log G c bytes) (packed_log G c (overwritten bytes (slot * width c) (packed_record c what))) slot what
  reads_back bytes slot what within =
      let row = packed_record c what in
      let long = length_record what in
      let fits = record_fits slot (length bytes) (width c) within in
      record {
        slots = ap (λ n. n / width c) (length_overwritten bytes (slot * width c) row (omega arith));
        here = tells what _ slot (here bytes slot row long fits);
        others = λ i other.
            let same = elsewhere bytes slot row long fits i other in
            (ap (record_mark c) same, ap (record_reading G c) same);
      }
