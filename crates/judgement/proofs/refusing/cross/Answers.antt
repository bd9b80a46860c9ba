-- The two chains and the step between them fit, and are written one after another.
use Rattle.std.proofs.Common.{◌≡◌, ◌+◌, ◌-◌, ◌≤◌, length, set, arith}
use Rattle.std.proofs.lemmas.List.{length-set}
use Rattle.judgement.proofs.Crossing.{fits, crossed}
use Rattle.judgement.proofs.refusing.cross.Goals as goal

pub bounds-table-before : goal.bounds-table-before
bounds-table-before c =
    let one = c.in_ok-before.ensures.cases in
    let two = c.in_ok-after.ensures.cases in
    let f = fits c.args.links.now c.args.crossing.near.index c.args.crossing.far.index c.args.from.index c.args.to.index c.args.crossing.step
    c.args.from.below c.args.crossing.far.below c.requires c.in_ok-before.before c.in_ok-after.after _ c.chain-2.new.table _ c.chain.new.table one two in
    let room = one.room in
    let long = one.long in
    omega arith

pub slice_bounds-copy_from_slice-end : goal.slice_bounds-copy_from_slice-end
slice_bounds-copy_from_slice-end c =
    let one = c.in_ok-before.ensures.cases in
    let two = c.in_ok-after.ensures.cases in
    let f = fits c.args.links.now c.args.crossing.near.index c.args.crossing.far.index c.args.from.index c.args.to.index c.args.crossing.step
    c.args.from.below c.args.crossing.far.below c.requires c.in_ok-before.before c.in_ok-after.after _ c.chain-2.new.table _ c.chain.new.table one two in
    let room = one.room in
    let long = one.long in
    let kept = length-set c.chain-2.new.table c.in_ok-before.before c.args.crossing.step in
    let z : (c.in_ok-before.before + 1) + c.in_ok-after.after ≤ length (set c.chain-2.new.table c.in_ok-before.before c.args.crossing.step) = omega arith in
    z

pub returns : goal.returns
returns c =
    let one = c.in_ok-before.ensures.cases in
    let two = c.in_ok-after.ensures.cases in
    crossed c.args.links.now c.args.crossing.near.index c.args.crossing.far.index c.args.from.index c.args.to.index c.args.crossing.step
    c.args.from.below c.args.crossing.far.below c.requires c.in_ok-before.before c.in_ok-after.after _ c.chain-2.new.table _ c.chain.new.table one two
    (((c.in_ok-before.before + 1) + c.in_ok-after.after) - (c.in_ok-before.before + 1)) c.copy_from_slice.new.self
    c.copy_from_slice.ensures.after
    (let z : ((c.in_ok-before.before + 1) + c.in_ok-after.after) - (c.in_ok-before.before + 1) ≡ c.in_ok-after.after = omega arith in z)
