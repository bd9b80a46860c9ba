-- The lists are what is left of the two sets, and hold the answer.
use Rattle.std.proofs.Common.{◌≡◌, drop}
use Rattle.judgement.specs.Search.{places, pair_across}
use Rattle.judgement.proofs.search.across.Given as goal

abbrev pub invariant-loop-i : goal.invariant-loop-i
invariant-loop-i g l =
    (l.ours ≡ places l.x (drop l.i l.leaders) l.i)
    × (l.theirs ≡ places l.y (drop l.i l.leaders) l.i)
    × (pair_across (g.R.Rule.protects l.rule) l.x l.y (drop l.i l.leaders) l.i ≡ pair_across (g.R.Rule.protects l.rule) l.x l.y l.leaders 0)
