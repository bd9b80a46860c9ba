use Rattle.std.specs.Option.{option_map}
use Rattle.std.proofs.Common.{◌≡◌, ◌-◌, ◌<◌, length, take, drop, set, sym, ap, ◌∙◌, arith, length-drop, length-set, length-take, false-eqb}
use borrow.Rule.Slice.PartMut.{put_mid}
use Rattle.std.proofs.lemmas.Bool.{eq-eqb, cond-true}
use Rattle.stores.specs.Packing.{packed_record}
use Rattle.stores.proofs.Overwrites.{marked_row}
use Rattle.stores.proofs.packing.write_record.Goals as goal

pub returns-else-is_empty : goal.returns-else-is_empty
returns-else-is_empty g c = λ long.
    let row = c.args.row.now in
    let codec = g.K.Kind.bytes in
    let some : 0 < length row = omega (arith, false-eqb (length row) 0 c.if-is_empty.ensures) in
    let whole = length-set row 0 1 in
    let rest = length-drop 1 (set row 0 1) in
    let part : length (take (length (set row 0 1) - 1) (drop 1 (set row 0 1))) ≡ codec.size =
    omega (arith, length-take (length (set row 0 1) - 1) (drop 1 (set row 0 1))) in
    let written = c.write_bytes.ensures.after ∙ cond-true _ _ _ (eq-eqb _ codec.size part) in
    ap (put_mid 1 (length (set row 0 1) - 1) (set row 0 1)) written
    ∙ marked_row row (codec.write (g.K.Kind.meaning c.in-Some.value)) some
    ∙ sym (ap (λ what. packed_record codec (option_map g.K.Kind.meaning what)) c.in-Some.is)
