-- A hung row's parent is in the same set with a higher join number, and a row without an edge is a leader's.
use Rattle.std.proofs.Common.{◌<◌, ◌≤◌, ap, ◌∙◌, arith}
use Rattle.links.specs.Rows.{number_at, leader_at}
use Rattle.links.proofs.Invariant.{sound, leader_own, leader_up}
use Rattle.links.proofs.links.Links.above.Goals as goal

pub returns-then-number-lt1024 : goal.returns-then-number-lt1024
returns-then-number-lt1024 c =
    let links = c.args.self.now in
    let hung : number_at links.rows c.args.b.index < 1024 = omega arith in
    let up = links.rising c.args.b.index (links.numbered c.args.b.index hung) in
    let e = ap (number_at links.rows) c.parent.ensures in
    record {
      parent = c.parent.ensures;
      same =
          ap (leader_at links.rows links.joins) c.parent.ensures
          ∙ leader_up links.rows links.joins (sound links) c.args.b.index hung;
      nearer = omega arith;
    }

pub returns-else-number-lt1024 : goal.returns-else-number-lt1024
returns-else-number-lt1024 c =
    let links = c.args.self.now in
    let free : 1024 ≤ number_at links.rows c.args.b.index = omega arith in
    record {
      leader = leader_own links.rows links.joins (sound links) c.args.b.index free;
      own = links.own c.args.b.index c.args.b.below free;
    }
