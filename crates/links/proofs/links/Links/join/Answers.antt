-- Both ways of a join: the low end's leader is hung by a step up, the high end's by a step down.
use Rattle.std.proofs.Common.{rules}
use Rattle.links.proofs.Making.{joins_up, joins_down, made_up, made_down}
use Rattle.links.proofs.links.Links.join.Goals as goal

pub hang-requires : goal.hang-requires
hang-requires c =
    joins_up c.args.self.now c.args.range.low.index c.args.range.high.index c.index-low.result c.index-high.result
    c.leader-x.result.index c.leader-y.result.index c.index-low.ensures.value c.index-high.ensures.value
    c.leader-x.ensures.value c.leader-y.ensures.value c.leader-x.result.below c.leader-y.result.below
    (search rules) c.if-high-low.false
    c.index-high.ensures.below

pub hang-requires-else-yields : goal.hang-requires-else-yields
hang-requires-else-yields c =
    joins_down c.args.self.now c.args.range.low.index c.args.range.high.index c.index-low.result c.index-high.result
    c.leader-x.result.index c.leader-y.result.index c.index-low.ensures.value c.index-high.ensures.value
    c.leader-x.ensures.value c.leader-y.ensures.value c.leader-x.result.below c.leader-y.result.below
    (search rules) c.if-high-low.false
    c.index-high.ensures.below

pub returns-then-yields : goal.returns-then-yields
returns-then-yields c =
    made_up c.args.self.now c.args.range.low.index c.args.range.high.index c.index-low.result c.index-high.result
    c.leader-x.result.index c.leader-y.result.index c.index-low.ensures.value c.index-high.ensures.value
    c.leader-x.ensures.value c.leader-y.ensures.value c.leader-x.result.below c.leader-y.result.below
    (search rules) c.if-high-low.false
    c.index-high.ensures.below c.hang.new.self c.hang.ensures.joins c.hang.ensures.rows
    c.if-yields.ensures

pub returns-else-yields : goal.returns-else-yields
returns-else-yields c =
    made_down c.args.self.now c.args.range.low.index c.args.range.high.index c.index-low.result c.index-high.result
    c.leader-x.result.index c.leader-y.result.index c.index-low.ensures.value c.index-high.ensures.value
    c.leader-x.ensures.value c.leader-y.ensures.value c.leader-x.result.below c.leader-y.result.below
    (search rules) c.if-high-low.false
    c.index-high.ensures.below c.hang-else-yields.new.self c.hang-else-yields.ensures.joins
    c.hang-else-yields.ensures.rows c.if-yields.ensures
