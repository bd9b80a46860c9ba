-- What the oldest joins hung is left, and the other boundaries have their leaders.
use Rattle.links.proofs.Tables.{Led}
use Rattle.links.proofs.links.Links.leaders.Given as goal

abbrev pub invariant-loop-b : goal.invariant-loop-b
invariant-loop-b l = Led l.self l.b-iterator.iter.rest.now l.leaders
