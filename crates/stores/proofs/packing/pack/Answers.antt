use Rattle.std.proofs.Common.{◌≡◌, ◌+◌, ◌-◌, ◌*◌, length, take, drop, sym, ◌∙◌, subst, arith, length-drop, length-take}
use borrow.Rule.Slice.PartMut.{put_mid}
use Rattle.std.specs.Option.{option_map}
use Rattle.stores.specs.Packing.{packed_record, overwritten, ReadsBack}
use Rattle.stores.specs.Stores.{packed_log, width}
use Rattle.stores.proofs.Overwrites.{length_record, putMid_overwritten, reads_back}
use Rattle.stores.proofs.Records.{begins}
use Rattle.stores.proofs.packing.pack.Goals as goal

pub returns-clause-back : goal.returns-clause-back
returns-clause-back g c =
    let codec = g.K.Kind.bytes in
    let bytes = c.args.bytes.now in
    let slot = c.args.slot in
    let at = c.in-Some.at in
    let end = at + c.width.result - at in
    let what = option_map g.K.Kind.meaning c.args.what in
    let found = c.in-Some.ensures in
    let wide = c.width.ensures.value in
    let long : end ≡ width codec = omega (arith, wide) in
    let part : length (take end (drop at bytes)) ≡ width codec =
    omega (arith, wide, length-take end (drop at bytes), length-drop at bytes, found.within.0) in
    let start : at ≡ slot * width codec = begins at slot _ _ found.within.1 found.value in
    let row : c.write_record.new.row ≡ packed_record codec what = c.write_record.ensures part in
    let whole : put_mid at end bytes c.write_record.new.row ≡ overwritten bytes (slot * width codec) (packed_record codec what) =
    (λ i. put_mid (start i) (long i) bytes (row i)) ∙ putMid_overwritten (slot * width codec) (width codec) bytes _ (length_record g.K.Kind.group codec what) in
    subst (λ new. ReadsBack (packed_log g.K.Kind.group codec bytes) (packed_log g.K.Kind.group codec new) slot what) (sym whole) (reads_back g.K.Kind.group codec bytes slot what found.within.1)
