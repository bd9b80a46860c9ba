-- What is found so far and what is left are all the places.
use Rattle.std.proofs.Common.{◌≡◌, ◌≤◌, ◌++◌, length, drop}
use Rattle.judgement.specs.Search.{places}
use Rattle.judgement.proofs.search.members.Given as goal

abbrev pub invariant-loop-i : goal.invariant-loop-i
invariant-loop-i l =
    (length l.members.items ≤ l.i)
    × (l.members.items ++ places l.leader (drop l.i l.leaders) l.i ≡ places l.leader l.leaders 0)
