use Rattle.std.proofs.Common.{◌≡◌, ℕ, ◌<◌, ◌≤◌, List, length, take, refl, ◌∙◌, arith}
use Rattle.std.proofs.lemmas.List.{length-take-le}
use Rattle.links.proofs.Chained.{acyclic}
use Rattle.ledger.specs.Tries.{try_of}
use Rattle.ledger.proofs.Attempts.{Reaches, reaches_next, all_reached, rehearsed_from, drop_past}
use Rattle.ledger.proofs.Outcomes.{one_rehearsal}
use Rattle.ledger.proofs.ledger.Ledger.rehearse.Goals as goal

-- a loop over the first n of a list ends at n
made_all : {X : Type 0} (n i : ℕ) (xs : List X) → n ≤ length xs → length (take n xs) ≤ i → i ≤ length (take n xs) → i ≡ n
made_all n i xs within past until = let long = length-take-le n xs within in omega arith

pub loop-i-init : goal.loop-i-init
loop-i-init g c = (Reaches.none, refl, refl, refl)

pub loop-i-preserved : goal.loop-i-preserved
loop-i-preserved g c =
    let inv = c.loop-i.invariant in
    let kept = c.loop-i.auto.trials in
    let many = c.min-made.ensures in
    let long = length-take-le c.min-made.result c.args.tries.now (omega arith) in
    let here : c.loop-i.i < length c.loop-i.trials = omega (arith, c.loop-i-test.true) in (
      reaches_next (try_of g.R.Rule.protects g.R.Rule.ordered) (take c.min-made.result c.args.tries.now) c.loop-i.trials c.loop-i.i c.tried-item.result c.attempt.result c.loop-i-test.true here c.tried-item.is inv.0 c.attempt.ensures.tried,
      drop_past c.loop-i.trials c.args.trials.now c.loop-i.i c.attempt.result inv.1,
      c.attempt.ensures.saved ∙ inv.2,
      c.attempt.ensures.stays ∙ inv.3,
    )

pub returns-clause-tried : goal.returns-clause-tried
returns-clause-tried g c =
    let end = made_all c.min-made.result c.loop-i.i c.args.tries.now (omega (arith, c.min-made.ensures)) c.loop-i-test.false c.loop-i.auto.i-end in
    rehearsed_from c.over-links.result.links.now c.args.self.now.links c.over-links.ensures.same
    (all_reached _ c.args.tries.now c.loop-i.trials c.min-made.result c.loop-i.i c.loop-i-test.false end c.loop-i.invariant.0)

pub returns-clause-exact : goal.returns-clause-exact
returns-clause-exact g c = one_rehearsal

pub returns-clause-acyclic : goal.returns-clause-acyclic
returns-clause-acyclic g c = acyclic c.args.self.now.links
