-- The whole way is written into a table with room, and nothing where there is none.
use Rattle.std.proofs.Common.{refl, inl, inr, arith}
use Rattle.std.proofs.lemmas.Bool.Decides.{not_from_Decides}
use Rattle.links.proofs.Invariant.{leaders_tell}
use Rattle.links.proofs.Chained.{acyclic, way_short, written}
use Rattle.links.proofs.links.Links.chain.Goals as goal

pub returns-then-table-lt1023 : goal.returns-then-table-lt1023
returns-then-table-lt1023 c =
    record { cases = record { reason = inl c.if-table-lt1023.true; same = refl }; acyclic = acyclic c.args.self.now }

pub returns-then-not-linked : goal.returns-then-not-linked
returns-then-not-linked c =
    record {
      cases = record { reason = inr (not_from_Decides _ c.linked.ensures c.if-not-linked.true); same = refl };
      acyclic = acyclic c.args.self.now;
    }

pub fill-requires : goal.fill-requires
fill-requires c =
    let links = c.args.self.now in
    let one = (leaders_tell links c.args.from.index c.args.to.index).1 (c.linked.ensures.0 c.if-not-linked.false) in
    let short = way_short links c.args.from.index c.args.to.index c.args.from.below one in
    record { older = omega arith; one = one; room = omega arith; fits = omega arith }

pub returns : goal.returns
returns c =
    let links = c.args.self.now in
    let one = (leaders_tell links c.args.from.index c.args.to.index).1 (c.linked.ensures.0 c.if-not-linked.false) in
    record {
      cases =
          written links c.args.from.index c.args.to.index c.fill.result c.args.table.now c.fill.new.table
          c.args.from.below one c.if-table-lt1023.false c.fill.ensures.value c.fill.ensures.after;
      acyclic = acyclic links;
    }
