use Rattle.std.proofs.Common.{map, refl, arith}
use Rattle.stores.specs.Log.{meant}
use Rattle.ledger.specs.State.{rule_of, valued_answer, state_of}
use Rattle.script.proofs.Modesty.{answer_modest}
use Rattle.script.proofs.asking.ask.Goals as goal

pub print-requires : goal.print-requires
print-requires g c =
    let log = meant g.K.Kind.meaning (g.T.Store.log c.args.store.now) in
    let rule = rule_of (g.R.Rule.protects c.args.rule.now) (g.R.Rule.ordered c.args.rule.now) in
    let long = c.requires.steps in
    answer_modest g.K.Kind.group log rule g.K.Kind.meaning (state_of g.K.Kind.group c.args.ledger.now.links (map g.K.Kind.meaning c.args.amounts.now.distances.table.now) c.args.ledger.now.counts) _ _ c.query-answer.result c.requires.faithful c.query-answer.ensures.asked (omega arith) refl

pub returns : goal.returns
returns g c = record {
  faithful = (c.query-answer.ensures.faithful c.requires.faithful).0;
  asked = record { answer = valued_answer g.K.Kind.meaning c.query-answer.result; queried = c.query-answer.ensures.asked; put = c.print.ensures.put };
  stays = c.query-answer.ensures.stays;
  told = c.print.ensures.stays;
}
