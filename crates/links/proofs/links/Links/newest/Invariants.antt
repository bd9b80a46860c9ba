-- The two climbs lead sets that are still apart, and each step up raises a join number.
use Rattle.std.proofs.Common.{◌+◌, ◌-◌}
use Rattle.links.specs.Rows.{number_at}
use Rattle.links.proofs.Climbing.{Apart}
use Rattle.links.proofs.links.Links.newest.Given as goal

abbrev pub invariant-loop-p : goal.invariant-loop-p
invariant-loop-p l = Apart l.self.rows l.self.joins l.initial.p.index l.initial.q.index l.p.index l.q.index

abbrev pub decreases-loop-p : goal.decreases-loop-p
decreases-loop-p l = (1024 - number_at l.self.rows l.p.index) + (1024 - number_at l.self.rows l.q.index)
