use Rattle.std.proofs.Common.{◌≡◌, map, take, drop}
use Rattle.links.specs.Joined.{joined}
use Rattle.ledger.specs.Tries.{try_of}
use Rattle.ledger.proofs.Attempts.{Reaches}
use Rattle.ledger.proofs.ledger.Ledger.rehearse.Given as goal

-- so many tries are made, their answers stand in the table's first places, and the guard holds what it saved
abbrev pub invariant-loop-i : goal.invariant-loop-i
invariant-loop-i g l =
    Reaches (joined l.initial.links.links.now) (map (try_of g.R.Rule.protects g.R.Rule.ordered) (take l.i (take l.made l.tries))) (take l.i l.trials) (joined l.links.links.now)
    × (drop l.i l.trials ≡ drop l.i l.initial.trials)
    × (l.links.saved ≡ l.initial.links.saved)
    × (l.links.links.ghost_name ≡ l.initial.links.links.ghost_name)
