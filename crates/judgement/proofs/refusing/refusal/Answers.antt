-- The side of the pair's low end says which way the step goes.
use Rattle.std.proofs.Common.{rules, ◌≤◌, refl, inr, ap, ◌∙◌, arith}
use Rattle.std.proofs.lemmas.Bool.Decides.{not_from_Decides}
use Rattle.links.specs.Joined.{joined}
use Rattle.links.specs.declared.step.Sign.TheVariants.{Plus}
use Rattle.links.specs.declared.step.Origin.TheVariants.{New}
use Rattle.links.specs.declared.step.Step.{Step}
use Rattle.links.specs.Chains.{range_of, start, end}
use Rattle.links.proofs.Labels.{linked_sym}
use Rattle.judgement.proofs.Refused.{linked_none, only_inside, refused_up, refused_down}
use Rattle.judgement.proofs.refusing.refusal.Goals as goal

pub returns-in_err-from : goal.returns-in_err-from
returns-in_err-from c =
    rw c.from_residual.ensures
    record {
      reason =
          inr (λ o.
          let i = (only_inside c.args.links.now (record { low = c.args.ends.low.index; high = c.args.ends.high.index }) c.args.pair.low c.args.pair.high
          c.args.ends.low.below c.args.ends.high.below o).0 in
          let past : 1024 ≤ c.args.pair.low = search rules in omega arith);
      same = refl;
    }

pub returns-in_err-to : goal.returns-in_err-to
returns-in_err-to c =
    rw c.from_residual-in_err-to.ensures
    record {
      reason =
          inr (λ o.
          let j = (only_inside c.args.links.now (record { low = c.args.ends.low.index; high = c.args.ends.high.index }) c.args.pair.low c.args.pair.high
          c.args.ends.low.below c.args.ends.high.below o).1 in
          let past : 1024 ≤ c.args.pair.high = search rules in omega arith);
      same = refl;
    }

pub returns-then-linked : goal.returns-then-linked
returns-then-linked c =
    record {
      reason =
          inr (linked_none (joined c.args.links.now) (record { low = c.args.ends.low.index; high = c.args.ends.high.index }) c.args.pair.low c.args.pair.high
          (c.linked.ensures.0 c.if-linked.true));
      same = refl;
    }

pub cross-requires-else-linked-2 : goal.cross-requires-else-linked-2
cross-requires-else-linked-2 c =
    record {
      apart = λ l. not_from_Decides c.linked.result c.linked.ensures c.if-linked.false (linked_sym l);
      new = ap (λ (s : Step). s.origin) c.reversed.ensures;
      starts = ap start c.reversed.ensures ∙ c.index-2.ensures.value;
      ends = ap end c.reversed.ensures ∙ c.index.ensures.value;
    }

pub returns-then-linked-2 : goal.returns-then-linked-2
returns-then-linked-2 c =
    refused_up (joined c.args.links.now) (record { low = c.args.ends.low.index; high = c.args.ends.high.index }) c.args.pair
    (not_from_Decides c.linked.result c.linked.ensures c.if-linked.false)
    (record { low = c.index.result; high = c.index-2.result; sign = Plus; origin = New })
    (λ x. record { low = c.index.ensures.value x; high = c.index-2.ensures.value x }) c.in_ok-from.from.index c.in_ok-to.to.index
    (search rules) (search rules) c.args.table.now c.cross.new.table c.cross.result
    (c.linked-2.ensures.0 c.if-linked-2.true) c.cross.ensures

pub returns-else-linked-2 : goal.returns-else-linked-2
returns-else-linked-2 c =
    refused_down (joined c.args.links.now) (record { low = c.args.ends.low.index; high = c.args.ends.high.index }) c.args.pair
    (not_from_Decides c.linked.result c.linked.ensures c.if-linked.false)
    c.reversed.result
    (ap range_of c.reversed.ensures ∙ λ x. record { low = c.index.ensures.value x; high = c.index-2.ensures.value x }) c.in_ok-from.from.index c.in_ok-to.to.index
    (search rules) (search rules) c.args.table.now c.cross-else-linked-2.new.table c.cross-else-linked-2.result
    (not_from_Decides c.linked-2.result c.linked-2.ensures c.if-linked-2.false) c.cross-else-linked-2.ensures
