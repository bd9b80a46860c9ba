use Rattle.std.specs.Option.{option_map}
use Rattle.std.proofs.Common.{◌≡◌, ◌+◌, ◌/◌, ◌<◌, length, sym, ap, ◌∙◌, subst, arith}
use Rattle.stores.specs.Log.{answer}
use Rattle.stores.specs.Packing.{slot_of}
use Rattle.stores.specs.Stores.{packed_log, width}
use Rattle.stores.proofs.Repacks.{Sofar, sofar_more, slot_of_valued, repacked}
use Rattle.stores.proofs.packing.repack.Goals as goal

pub loop-slot-preserved : goal.loop-slot-preserved
loop-slot-preserved g c =
    let group = g.K.Kind.group in
    let codec = g.K.Kind.bytes in
    let meaning = g.K.Kind.meaning in
    let old = c.args.from.now in
    let slot = c.loop-slot.slot in
    let read-from = c.new-packed.ensures.bytes in
    let count = ap (λ bytes. length bytes / width codec) read-from in
    let within : slot < length old / width codec = omega (arith, count) in
    let is : option_map meaning c.as_read.result ≡ slot_of (answer (packed_log group codec old) slot) =
    ap (option_map meaning) c.as_read.ensures ∙ slot_of_valued meaning c.read.result ∙ ap slot_of (c.read.ensures.value ∙ ap (λ bytes. answer (packed_log group codec bytes) slot) read-from) in (
      omega arith,
      subst (λ new. Sofar group codec old c.args.to.now new (slot + 1)) (sym c.pack.ensures.after) (sofar_more group codec old c.args.to.now c.loop-slot.to slot _ c.loop-slot.invariant.1 within is),
    )

pub returns : goal.returns
returns g c =
    let group = g.K.Kind.group in
    let codec = g.K.Kind.bytes in
    let old = c.args.from.now in
    let count = ap (λ bytes. length bytes / width codec) c.new-packed.ensures.bytes in
    let all : c.loop-slot.slot ≡ length old / width codec = omega (arith, c.loop-slot.invariant.0, count) in
    repacked group codec old c.args.to.now c.loop-slot.to (λ k _. (c.type_inv.from k).fits) (subst (Sofar group codec old c.args.to.now c.loop-slot.to) all c.loop-slot.invariant.1)
