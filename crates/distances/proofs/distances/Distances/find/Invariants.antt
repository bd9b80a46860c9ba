-- Every boundary on the way up has the same leader, and what is left of the way makes up the distance.
use Rattle.std.proofs.Common.{◌≡◌, map}
use Rattle.links.specs.Joined.{leader_of, climb_left}
use Rattle.distances.specs.Distance.{distance}
use Rattle.distances.proofs.distances.Distances.find.Given as goal

abbrev pub invariant-loop-up : goal.invariant-loop-up
invariant-loop-up g l =
    (leader_of l.links l.at.index ≡ leader_of l.links l.initial.at.index)
    × (g.K.Kind.group.plus (g.K.Kind.meaning l.far)
    (distance g.K.Kind.group l.links (map g.K.Kind.meaning l.self.table.now) l.at.index)
    ≡ distance g.K.Kind.group l.links (map g.K.Kind.meaning l.self.table.now) l.initial.at.index)

abbrev pub decreases-loop-up : goal.decreases-loop-up
decreases-loop-up g l = climb_left l.links l.at.index
