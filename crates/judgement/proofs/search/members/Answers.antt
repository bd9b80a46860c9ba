-- A boundary of the set is put behind those below it.
use Rattle.std.proofs.Common.{◌+◌, ◌∷◌, ◌++◌, [], length, drop, ap, ◌∙◌, sym, append_assoc, append-nil, arith}
use Rattle.std.proofs.lemmas.List.{length-append}
use Rattle.judgement.specs.Search.{places}
use Rattle.judgement.proofs.Turns.{places_here, places_later, places_over}
use Rattle.judgement.proofs.search.members.Goals as goal
use Rattle.judgement.proofs.search.members.Goals.{then-other-leader, else-other-leader}

pub loop-i-preserved : goal.loop-i-preserved
loop-i-preserved c =
    let inv = c.loop-i.invariant in
    let rest = places c.args.leader (drop (c.loop-i.i + 1) c.args.leaders.now) (c.loop-i.i + 1) in
    elim c.if-other-leader.branch [
      | then-other-leader w ↦ (
        omega (arith, ap (λ m. length m.items) w.members-is, ap length w.push.ensures.items, length-append c.loop-i.members.items (c.loop-i.i ∷ []), inv.0),
        ap (λ m. m.items ++ rest) w.members-is
            ∙ (ap (λ m. m ++ rest) w.push.ensures.items
            ∙ (append_assoc c.loop-i.members.items (c.loop-i.i ∷ []) rest
            ∙ (ap (λ m. c.loop-i.members.items ++ m) (sym (places_here c.args.leader c.args.leaders.now c.loop-i.i c.loop-i-test.true w.if-other-leader.true))
            ∙ inv.1))),
      )
      | else-other-leader w ↦ (
        omega (arith, ap (λ m. length m.items) w.members-is, inv.0),
        ap (λ m. m.items ++ rest) w.members-is
            ∙ (ap (λ m. c.loop-i.members.items ++ m) (sym (places_later c.args.leader c.args.leaders.now c.loop-i.i c.loop-i-test.true w.if-other-leader.false))
            ∙ inv.1),
      )
    ]

pub returns : goal.returns
returns c =
    let none = places_over c.args.leader c.args.leaders.now c.loop-i.i c.loop-i-test.false in
    sym (append-nil c.loop-i.members.items) ∙ (ap (λ m. c.loop-i.members.items ++ m) (sym none) ∙ c.loop-i.invariant.1)
