-- Every boundary on the way up has the same leader, and comes nearer to it.
use Rattle.std.proofs.Common.{◌≡◌}
use Rattle.links.specs.Joined.{leader_of, climb_left}
use Rattle.links.proofs.links.Links.leader.Given as goal

abbrev pub invariant-loop-up : goal.invariant-loop-up
invariant-loop-up l = leader_of l.self l.at.index ≡ leader_of l.self l.initial.at.index

abbrev pub decreases-loop-up : goal.decreases-loop-up
decreases-loop-up l = climb_left l.self l.at.index
