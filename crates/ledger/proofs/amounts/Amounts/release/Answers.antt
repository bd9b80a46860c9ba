use Rattle.std.proofs.Common.{◌∙◌, inr, arith}
use Rattle.stores.specs.Log.{meant}
use Rattle.stores.specs.Sums.{range_sum}
use Rattle.ledger.proofs.Releases.{laid_by}
use Rattle.ledger.proofs.amounts.Amounts.release.Goals as goal

pub returns-in-Ok : goal.returns-in-Ok
returns-in-Ok g c =
    let found = c.in-Ok.ensures in
    let laid = laid_by g.K.Kind.group g.K.Kind.meaning c.args.links.now c.join.new.links c.args.self.now.distances.table.now c.join.new.self.table.now c.args.ends.low.index c.args.ends.high.index c.join.result (g.K.Kind.meaning c.in-Ok.value) c.join.ensures.cases c.requires.room c.requires.range c.requires.apart in
    let low = c.from.ensures ∙ c.index.ensures.value in
    let high = c.from-2.ensures ∙ c.index-2.ensures.value in
    let log = meant g.K.Kind.meaning (g.S.Store.log c.args.store.now) in
    record {
      freed = (λ i from to. found.1 i (omega arith) (omega arith), found.2 ∙ (λ i. range_sum g.K.Kind.group log.reading (low i) (high i)), laid.0);
      others = inr laid.1;
      stays = c.join.ensures.stays;
    }
