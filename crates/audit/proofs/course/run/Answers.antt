use Rattle.std.proofs.Common.{◌≡◌, ℕ, map, length, refl, ◌∙◌, subst, arith}
use Rattle.stores.specs.Log.{meant}
use Rattle.ledger.specs.State.{rule_of, state_of}
use Rattle.audit.specs.Course.{call_made, Performed}
use Rattle.audit.proofs.Counting.{counts_within}
use Rattle.audit.proofs.Courses.{far_none, far_next, far_all}
use Rattle.audit.proofs.Drawn.{readings_unseen, one_run, every_place, rehearsals_idle}
use Rattle.audit.proofs.Facts.{sums_true, chains_true, no_ring}
use Rattle.audit.proofs.Laws.{withheld_exactly, any_value}
use Rattle.audit.proofs.course.run.Goals as goal

pub loop-call-init : goal.loop-call-init
loop-call-init g c = (
  far_none g.K.Kind.group g.K.Kind.meaning (meant g.K.Kind.meaning (g.S.Store.log c.args.store.now)) (rule_of (g.R.Rule.protects c.args.rule.now) (g.R.Rule.ordered c.args.rule.now)) g.L.Listener.hears g.T.Rule.protects g.T.Rule.ordered (length c.args.trials.now) c.args.calls.now
      (state_of g.K.Kind.group c.open-amounts.result.0.links (map g.K.Kind.meaning c.open-amounts.result.1.distances.table.now) c.open-amounts.result.0.counts) c.args.steps.now c.args.listener.now,
  refl,
)

pub loop-call-preserved : goal.loop-call-preserved
loop-call-preserved g c =
    let G = g.K.Kind.group in
    let f = g.K.Kind.meaning in
    let log = meant f (g.S.Store.log c.args.store.now) in
    let rule = rule_of (g.R.Rule.protects c.args.rule.now) (g.R.Rule.ordered c.args.rule.now) in
    let before = state_of G c.loop-call.ledger.links (map f c.loop-call.amounts.distances.table.now) c.loop-call.ledger.counts in
    let after = state_of G c.perform.new.ledger.links (map f c.perform.new.amounts.distances.table.now) c.perform.new.ledger.counts in
    let performed = subst (λ (room : ℕ). Performed G f log rule g.L.Listener.hears (λ x. call_made g.T.Rule.protects g.T.Rule.ordered room x c.call-item.result) before after c.loop-call.steps c.perform.new.steps c.loop-call.listener c.perform.new.listener) c.loop-call.auto.trials c.perform.ensures.performed in (
      far_next G f log rule g.L.Listener.hears g.T.Rule.protects g.T.Rule.ordered (length c.args.trials.now) c.args.calls.now
          (state_of G c.open-amounts.result.0.links (map f c.open-amounts.result.1.distances.table.now) c.open-amounts.result.0.counts) c.args.steps.now c.args.listener.now
          c.loop-call.call-index c.call-item.result before after c.loop-call.steps c.perform.new.steps c.loop-call.listener c.perform.new.listener c.loop-call-test.true c.call-item.is c.loop-call.invariant.0 performed,
      c.perform.ensures.stays ∙ c.loop-call.invariant.1,
    )

pub returns : goal.returns
returns g c =
    let G = g.K.Kind.group in
    let f = g.K.Kind.meaning in
    let all : c.loop-call.call-index ≡ length c.args.calls.now = let end = c.loop-call.auto.call-index-end in omega arith in
    record {
      ran = far_all G f (meant f (g.S.Store.log c.args.store.now)) (rule_of (g.R.Rule.protects c.args.rule.now) (g.R.Rule.ordered c.args.rule.now)) g.L.Listener.hears g.T.Rule.protects g.T.Rule.ordered (length c.args.trials.now) c.args.calls.now
          (state_of G c.open-amounts.result.0.links (map f c.open-amounts.result.1.distances.table.now) c.open-amounts.result.0.counts) c.args.steps.now c.args.listener.now
          (length c.args.table.now) c.close-2.result (state_of G c.loop-call.ledger.links (map f c.loop-call.amounts.distances.table.now) c.loop-call.ledger.counts) c.loop-call.steps c.loop-call.listener c.loop-call.call-index
          c.open-amounts.ensures.opened all c.close-2.ensures c.loop-call.invariant.0;
      withheld = withheld_exactly G;
      values = any_value G;
      unseen = readings_unseen G;
      sums = sums_true G;
      chains = chains_true G;
      rings = no_ring G;
      counts = counts_within G;
      one = one_run G;
      place = every_place G;
      idle = rehearsals_idle G;
    }
