-- The entry of the hung leader lays the new range's sum between the two sets.
use Rattle.std.proofs.Common.{rules, ◌≡◌, ◌≤◌, length, sym, refl, ap, ◌∙◌, inl, inr, arith}
use Rattle.distances.proofs.Joining.{laid}
use Rattle.distances.proofs.distances.Distances.join.Goals as goal
use Rattle.distances.proofs.distances.Distances.join.Goals.{then-eq, else-eq}

pub returns : goal.returns
returns g c =
    let G = g.K.Kind.group in
    let m = g.K.Kind.meaning in
    let room : 1024 ≤ length c.args.self.now.table.now = omega (arith, c.len.ensures, c.if-len-lt-BOUNDARIES.false) in
    record {
      cases =
          laid G m c.args.links.now c.join.new.self c.args.self.now.table.now c.put.new.table c.args.range.low.index
          c.args.range.high.index c.in_ok-hung.hung.leader.index c.in_ok-hung.hung.under.index c.index.result
          c.if-eq.entry (m c.args.sum) (m c.plus-rise.result) c.in_ok-hung.ensures room c.index.ensures.below
          c.index.ensures.value c.put.ensures
          (c.plus-rise.ensures
          ∙ (λ i.
          G.plus ((c.plus.ensures ∙ ap (G.plus (m c.args.sum)) c.find-near.ensures.value) i)
          ((c.inverse.ensures ∙ ap G.inverse c.find-far.ensures.value) i)))
          (elim c.if-eq.branch [
            | then-eq w ↦ (let one : c.in_ok-hung.hung.leader.index ≡ c.find-near.result.0.index = search rules in inl (sym c.find-near.ensures.leader ∙ sym one, ap m w.entry-is ∙ w.inverse-entry.ensures))
            | else-eq w ↦ (let two : c.in_ok-hung.hung.leader.index ≡ c.find-near.result.0.index → ⊥ = search rules in inr (λ e. two (sym (c.find-near.ensures.leader ∙ e)), ap m w.entry-is))
          ]);
      stays = refl;
    }
