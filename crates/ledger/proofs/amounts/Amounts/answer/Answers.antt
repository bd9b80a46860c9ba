use Rattle.std.proofs.Common.{◌≡◌, map, length, Some, sym, refl, ◌∙◌, inl}
use lib.ListN.{length-map}
use Rattle.stores.specs.Log.{meant}
use Rattle.ledger.specs.Machine.{range_fault}
use Rattle.ledger.specs.State.{rule_of}
use Rattle.ledger.proofs.Responding.{responds_refused}
use Rattle.ledger.proofs.amounts.Amounts.answer.Goals as goal

pub returns-in-Err : goal.returns-in-Err
returns-in-Err g c =
    let log = meant g.K.Kind.meaning (g.S.Store.log c.args.store.now) in
    let rule = rule_of (g.R.Rule.protects c.args.rule.now) (g.R.Rule.ordered c.args.rule.now) in
    let table = c.args.self.now.distances.table.now in
    let slots : c.slots.result ≡ log.slots = c.slots.ensures in
    let many : c.len.result ≡ length (map g.K.Kind.meaning table) = c.len.ensures ∙ sym (length-map table g.K.Kind.meaning) in
    let some : range_fault log.slots (length (map g.K.Kind.meaning table)) (length c.args.chain.now) c.args.range.low c.args.range.high ≡ Some c.in-Err.fault =
    (λ i. range_fault (sym slots i) (sym many i) (length c.args.chain.now) c.args.range.low c.args.range.high) ∙ c.in-Err.ensures.fault in
    record {
      responds = responds_refused g.K.Kind.group log rule c.args.links.now (map g.K.Kind.meaning table) c.args.chain.now c.args.range.low c.args.range.high c.in-Err.fault some;
      others = inl (refl, refl);
      unfull = λ e. c.in-Err.ensures.sound (cc);
      stays = refl;
    }
