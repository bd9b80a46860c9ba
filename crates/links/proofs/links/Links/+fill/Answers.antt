-- The way before the step, the step, and the way after it are written one after another.
use Rattle.std.proofs.Common.{rules, ◌≡◌, ◌<◌, ◌≤◌, [], length, sym, ap, ◌∙◌, arith}
use Rattle.links.specs.Rows.{hung, over, out, way_at}
use Rattle.links.specs.Written.{put}
use Rattle.links.proofs.Ways.{way_none}
use Rattle.links.proofs.Crossed.{cut_length, filled}
use Rattle.links.proofs.Putting.{put_none}
use Rattle.links.proofs.links.Links.+fill.Goals as goal

pub returns-then-eq : goal.returns-then-eq
returns-then-eq t c =
    let rows = c.args.self.now.rows in
    let same : c.args.x.index ≡ c.args.y.index = search rules in
    let none : way_at rows c.args.below c.args.x.index c.args.y.index ≡ [] =
    way_none (hung rows) (over rows) (out rows) c.args.below c.args.x.index c.args.y.index same in
    let short = ap length none in
    record {
      value = omega arith;
      after =
          sym
          (ap (put c.args.table.now c.args.from) none
          ∙ put_none c.args.table.now c.args.from
          (let fits = c.requires.fits in let room = c.requires.room in let z : c.args.from ≤ length c.args.table.now = omega arith in z));
    }

pub returns-clause-after : goal.returns-clause-after
returns-clause-after t c =
    let join = c.crossing-join.result in
    let l =
    cut_length c.args.self.now.rows c.args.below c.args.x.index c.args.y.index join.older join.near.index join.far.index join.step
    c.crossing-join.ensures in
    let fits = c.requires.fits in
    let room = c.requires.room in
    let at = c.fill-at.ensures.value in
    filled c.args.self.now.rows c.args.below c.args.x.index c.args.y.index join.older join.near.index join.far.index join.step
    c.crossing-join.ensures c.args.table.now c.fill-at.new.table c.fill.new.table c.args.from c.fill-at.result at
    (let z : c.fill-at.result < length c.args.table.now = omega arith in z) c.fill-at.ensures.after c.fill.ensures.after
