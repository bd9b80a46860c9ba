-- The way starts with nothing behind it, grows by an entry at each step up, and ends at the leader.
use Rattle.std.proofs.Common.{map, sym, ◌∙◌}
use Rattle.distances.proofs.Walking.{walk_on, walk_ends}
use Rattle.distances.proofs.distances.Distances.find.Goals as goal

pub loop-up-preserved : goal.loop-up-preserved
loop-up-preserved g c =
    let table = map g.K.Kind.meaning c.args.self.now.table.now in
    let up = c.in-Some.ensures in (
      up.same ∙ c.loop-up.invariant.0,
      walk_on g.K.Kind.group c.args.links.now table c.args.b.index c.loop-up.at.index c.in-Some.up.index _ _ _ up
          c.loop-up.invariant.1 c.at.ensures c.plus-far.ensures,
    )

pub returns : goal.returns
returns g c =
    let table = map g.K.Kind.meaning c.args.self.now.table.now in
    let top = c.in_default.ensures in
    record {
      leader = sym top.leader ∙ c.loop-up.invariant.0;
      value =
          walk_ends g.K.Kind.group c.args.links.now table c.args.b.index c.loop-up.at.index _ top
          c.loop-up.invariant.1;
    }
