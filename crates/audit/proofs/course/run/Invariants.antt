use Rattle.std.proofs.Common.{◌≡◌, map, length}
use Rattle.stores.specs.Log.{meant}
use Rattle.ledger.specs.State.{rule_of, state_of}
use Rattle.audit.proofs.Courses.{IsSoFar}
use Rattle.audit.proofs.course.run.Given as goal

-- the calls so far drew replies, which the listener was told, and left the ledger and the table as they are
abbrev pub invariant-loop-call : goal.invariant-loop-call
invariant-loop-call g l =
    IsSoFar g.K.Kind.group g.K.Kind.meaning (meant g.K.Kind.meaning (g.S.Store.log l.store)) (rule_of (g.R.Rule.protects l.rule) (g.R.Rule.ordered l.rule)) g.L.Listener.hears g.T.Rule.protects g.T.Rule.ordered (length l.initial.trials) l.calls
    (state_of g.K.Kind.group l.initial.ledger.links (map g.K.Kind.meaning l.initial.amounts.distances.table.now) l.initial.ledger.counts) l.initial.steps l.initial.listener
    l.call-index (state_of g.K.Kind.group l.ledger.links (map g.K.Kind.meaning l.amounts.distances.table.now) l.ledger.counts) l.steps l.listener
    × (l.amounts.distances.table.ghost_name ≡ l.initial.amounts.distances.table.ghost_name)
