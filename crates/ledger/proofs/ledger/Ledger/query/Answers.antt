use Rattle.std.proofs.Common.{◌≡◌, map, length, sym, refl, ◌∙◌, inl, arith}
use lib.ListN.{length-map}
use Rattle.links.proofs.Chained.{acyclic}
use Rattle.stores.specs.Log.{meant}
use Rattle.ledger.specs.State.{rule_of, valued_answer}
use Rattle.ledger.proofs.Outcomes.{one_outcome}
use Rattle.ledger.proofs.Truth.{stays_true}
use Rattle.ledger.proofs.Releases.{same_or_joined_long}
use Rattle.ledger.proofs.Responding.{queried, queried_full, count_valued}
use Rattle.ledger.proofs.ledger.Ledger.query.Goals as goal

pub returns-then-total-ge-MOST : goal.returns-then-total-ge-MOST
returns-then-total-ge-MOST g c =
    let self = c.args.self.now in
    let log = meant g.K.Kind.meaning (g.S.Store.log c.args.store.now) in
    let rule = rule_of (g.R.Rule.protects c.args.rule.now) (g.R.Rule.ordered c.args.rule.now) in
    let asked = queried_full g.K.Kind.group log rule self.links (map g.K.Kind.meaning c.args.amounts.now.distances.table.now) c.args.chain.now c.args.range.low c.args.range.high self.counts (omega arith) self.within in
    record {
      asked = asked;
      faithful = stays_true g.K.Kind.group log rule _ _ _ asked;
      exact = one_outcome g.K.Kind.group;
      acyclic = acyclic self.links;
      others = inl (refl, refl);
      stays = refl;
    }

pub returns : goal.returns
returns g c =
    let self = c.args.self.now in
    let log = meant g.K.Kind.meaning (g.S.Store.log c.args.store.now) in
    let rule = rule_of (g.R.Rule.protects c.args.rule.now) (g.R.Rule.ordered c.args.rule.now) in
    let table = c.args.amounts.now.distances.table.now in
    let table' = c.answer-answer.new.self.distances.table.now in
    let r = c.answer-answer.result in
    let told = c.answer-answer.ensures in
    let long : length (map g.K.Kind.meaning table') ≡ length (map g.K.Kind.meaning table) =
    length-map table' g.K.Kind.meaning ∙ same_or_joined_long g.K.Kind.group g.K.Kind.meaning self.links c.answer-answer.new.links table table' c.args.range.low c.args.range.high told.others ∙ sym (length-map table g.K.Kind.meaning) in
    let tallied = c.add-self.ensures told.unfull ∙ sym (count_valued g.K.Kind.meaning r self.counts) in
    let asked = queried g.K.Kind.group log rule self.links c.answer-answer.new.links (map g.K.Kind.meaning table) (map g.K.Kind.meaning table') c.args.chain.now c.answer-answer.new.chain c.args.range.low c.args.range.high (valued_answer g.K.Kind.meaning r) self.counts c.add-self.result (λ e. omega arith) tallied long told.responds in
    record {
      asked = asked;
      faithful = stays_true g.K.Kind.group log rule _ _ _ asked;
      exact = one_outcome g.K.Kind.group;
      acyclic = acyclic self.links;
      others = told.others;
      stays = told.stays;
    }
