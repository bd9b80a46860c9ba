use Rattle.std.proofs.Common.{◌≡◌, ℕ, map, refl, inl, arith}
use Rattle.stores.specs.Log.{meant}
use Rattle.ledger.specs.Machine.{Query}
use Rattle.ledger.specs.State.{rule_of, valued_answer}
use Rattle.ledger.proofs.Settling.{settled_between, settled_withheld, settled_free, between_unfull, freed_unfull}
use Rattle.ledger.proofs.amounts.Amounts.settle.Goals as goal

pub returns-in-Linked : goal.returns-in-Linked
returns-in-Linked g c =
    let links = c.args.links.now in
    let table = map g.K.Kind.meaning c.args.self.now.distances.table.now in
    let q : Query = record { low = c.args.ends.low.index; high = c.args.ends.high.index; table = c.args.chain.now } in
    record {
      settles = λ counts well. settled_between g.K.Kind.group (meant g.K.Kind.meaning (g.S.Store.log c.args.store.now)) (rule_of (g.R.Rule.protects c.args.rule.now) (g.R.Rule.ordered c.args.rule.now)) links table counts q well (valued_answer g.K.Kind.meaning c.known.result) c.known.ensures;
      others = inl (refl, refl);
      unfull = between_unfull g.K.Kind.group g.K.Kind.meaning links table c.args.ends.low.index c.args.ends.high.index c.known.result c.known.ensures;
      stays = refl;
    }

pub returns-in-Withheld : goal.returns-in-Withheld
returns-in-Withheld g c =
    let links = c.args.links.now in
    let table = map g.K.Kind.meaning c.args.self.now.distances.table.now in
    let q : Query = record { low = c.args.ends.low.index; high = c.args.ends.high.index; table = c.args.chain.now } in
    record {
      settles = λ counts well. settled_withheld g.K.Kind.group (meant g.K.Kind.meaning (g.S.Store.log c.args.store.now)) (rule_of (g.R.Rule.protects c.args.rule.now) (g.R.Rule.ordered c.args.rule.now)) links table counts q well c.in-Withheld.pair c.withhold.result c.withhold.new.chain c.in-Withheld.ensures.0 c.in-Withheld.ensures.1 c.withhold.ensures;
      others = inl (refl, refl);
      unfull = λ e. let z : ◌≡◌ {A = ℕ} 0 1 = cc in omega arith;
      stays = refl;
    }

pub returns-in-Free : goal.returns-in-Free
returns-in-Free g c =
    let links = c.args.links.now in
    let table = map g.K.Kind.meaning c.args.self.now.distances.table.now in
    let links' = c.release.new.links in
    let table' = map g.K.Kind.meaning c.release.new.self.distances.table.now in
    let log = meant g.K.Kind.meaning (g.S.Store.log c.args.store.now) in
    let q : Query = record { low = c.args.ends.low.index; high = c.args.ends.high.index; table = c.args.chain.now } in
    record {
      settles = λ counts well. settled_free g.K.Kind.group log (rule_of (g.R.Rule.protects c.args.rule.now) (g.R.Rule.ordered c.args.rule.now)) links table counts q well links' table' (valued_answer g.K.Kind.meaning c.release.result) c.in-Free.ensures.0 c.in-Free.ensures.1 c.release.ensures.freed;
      others = c.release.ensures.others;
      unfull = freed_unfull g.K.Kind.group g.K.Kind.meaning log links links' table table' c.args.ends.low.index c.args.ends.high.index c.release.result c.release.ensures.freed;
      stays = c.release.ensures.stays;
    }
