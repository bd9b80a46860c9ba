use Rattle.std.proofs.Common.{◌≡◌, ℕ, List, map, length, take, refl, ap, ◌∙◌, subst}
use native.Mathlib.Nat.{sub-zero}
use Rattle.links.specs.declared.step.Step.{Step}
use Rattle.links.specs.Joined.{joined}
use Rattle.stores.specs.Log.{meant}
use Rattle.ledger.specs.declared.ledger.Ledger.{Ledger}
use Rattle.ledger.specs.declared.trying.Try.{Try}
use Rattle.ledger.specs.Machine.{Rehearsed}
use Rattle.ledger.specs.State.{rule_of}
use Rattle.ledger.specs.Tries.{try_of}
use Rattle.audit.specs.Course.{call_made}
use Rattle.audit.specs.Runs.{Call, Reply}
use Rattle.audit.proofs.Courses.{performed_query, performed_rehearsal, take_min}
use Rattle.audit.proofs.course.perform.Goals as goal

pub returns-in-Query : goal.returns-in-Query
returns-in-Query g c =
    let made : List Step → Call = λ table. call_made g.T.Rule.protects g.T.Rule.ordered (length c.args.trials.now) table c.args.call.now in
    record {
      performed = performed_query g.K.Kind.group g.K.Kind.meaning (meant g.K.Kind.meaning (g.S.Store.log c.args.store.now)) (rule_of (g.R.Rule.protects c.args.rule.now) (g.R.Rule.ordered c.args.rule.now)) g.L.Listener.hears made c.args.ledger.now.links c.query-answer.new.self.links c.args.ledger.now.counts c.query-answer.new.self.counts c.counts.result c.args.listener.now c.answered.new.self
          (map g.K.Kind.meaning c.args.amounts.now.distances.table.now) (map g.K.Kind.meaning c.query-answer.new.amounts.distances.table.now) c.args.steps.now c.query-answer.new.chain c.in-Query.range.low c.in-Query.range.high c.query-answer.result
          (ap (λ x. call_made g.T.Rule.protects g.T.Rule.ordered (length c.args.trials.now) c.args.steps.now x) c.in-Query.is) c.counts.ensures c.query-answer.ensures.asked c.answered.ensures;
      stays = c.query-answer.ensures.stays;
    }

pub returns-in-Rehearsal : goal.returns-in-Rehearsal
returns-in-Rehearsal g c =
    let made : List Step → Call = λ table. call_made g.T.Rule.protects g.T.Rule.ordered (length c.args.trials.now) table c.args.call.now in
    let f = try_of g.T.Rule.protects g.T.Rule.ordered in
    let n = c.rehearse-made.result in
    let tries = c.in-Rehearsal.tries.now in
    let same = c.rehearse-made.ensures.same in
    let many : take n tries ≡ take (length c.args.trials.now) tries = ap (λ (k : ℕ). take k tries) c.rehearse-made.ensures.many ∙ take_min tries (length c.args.trials.now) in
    record {
      performed = performed_rehearsal g.K.Kind.group g.K.Kind.meaning (meant g.K.Kind.meaning (g.S.Store.log c.args.store.now)) (rule_of (g.R.Rule.protects c.args.rule.now) (g.R.Rule.ordered c.args.rule.now)) g.L.Listener.hears made c.args.ledger.now.links c.rehearse-made.new.self.links c.args.ledger.now.counts c.rehearse-made.new.self.counts c.counts-in-Rehearsal.result c.args.listener.now c.rehearsed.new.self
          (map g.K.Kind.meaning c.args.amounts.now.distances.table.now) c.args.steps.now (map f (take (length c.args.trials.now) tries)) (take n c.rehearse-made.new.trials)
          (ap (λ x. call_made g.T.Rule.protects g.T.Rule.ordered (length c.args.trials.now) c.args.steps.now x) c.in-Rehearsal.is)
          (ap (λ (l : Ledger). l.links) same) (ap (λ (l : Ledger). l.counts) same) c.counts-in-Rehearsal.ensures
          (subst (λ (ts : List (Try g.row.T.Denot)). Rehearsed (joined c.args.ledger.now.links) (map f ts) (take n c.rehearse-made.new.trials)) many c.rehearse-made.ensures.tried)
          (subst (λ (k : ℕ). g.L.Listener.hears c.args.listener.now (Reply.Tried (take k c.rehearse-made.new.trials) c.counts-in-Rehearsal.result) c.rehearsed.new.self) (sub-zero n) c.rehearsed.ensures);
      stays = refl;
    }
