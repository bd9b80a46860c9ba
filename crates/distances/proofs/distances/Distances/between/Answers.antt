-- Leaders tell which boundaries are linked, and the difference of two distances is every chain's sum.
use Rattle.std.proofs.Common.{rules, ◌≡◌, map, sym, ◌∙◌}
use Rattle.links.proofs.Invariant.{leaders_tell}
use Rattle.distances.specs.Distance.{distance, apart}
use Rattle.distances.proofs.Telescoped.{telescoped}
use Rattle.distances.proofs.distances.Distances.between.Goals as goal

pub returns : goal.returns
returns g c =
    let G = g.K.Kind.group in
    let links = c.args.links.now in
    let table = map g.K.Kind.meaning c.args.self.now.table.now in
    let a = c.args.a.index in
    let b = c.args.b.index in
    let value : g.K.Kind.meaning c.plus.result ≡ apart G links table a b =
    c.plus.ensures
    ∙ (λ i. G.plus (c.find-far.ensures.value i) ((c.inverse.ensures ∙ (λ j. G.inverse (c.find-near.ensures.value j))) i)) in
    let one : c.find-near.result.0.index ≡ c.find-far.result.0.index = search rules in
    record {
      linked =
          (leaders_tell links a b).0
          (sym c.find-near.ensures.leader ∙ (one ∙ c.find-far.ensures.leader));
      value = value;
      chains = λ ss l. telescoped G (distance G links table) ss a b l ∙ sym value;
    }

pub returns-then-ne : goal.returns-then-ne
returns-then-ne g c linked =
    let two : c.find-near.result.0.index ≡ c.find-far.result.0.index → ⊥ = search rules in
    two
    (c.find-near.ensures.leader
    ∙ ((leaders_tell c.args.links.now c.args.a.index c.args.b.index).1 linked ∙ sym c.find-far.ensures.leader))
