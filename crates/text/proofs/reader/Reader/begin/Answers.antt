use Rattle.std.proofs.Common.{◌≡◌, ◌+◌, true, false, ◌⊎◌, [], is_ok, sym, ap, ◌∙◌, inl, inr}
use Rattle.text.specs.Script.{lines}
use Rattle.text.proofs.Advancing.{begun_line}
use Rattle.text.proofs.reader.Reader.begin.Goals as goal
use Rattle.text.proofs.reader.Reader.begin.Goals.{then-is_ok, else-is_ok}

pub returns-clause-begun : goal.returns-clause-begun
returns-clause-begun c =
    let line = c.first_line.result.0.now in
    let way : ((is_ok c.judge-judged.result ≡ true) × (c.if-is_ok.rest.now ≡ line)) ⊎ ((is_ok c.judge-judged.result ≡ false) × (c.if-is_ok.rest.now ≡ [])) =
    elim c.if-is_ok.branch [
      | then-is_ok w ↦ inl (sym c.is_ok.ensures.value ∙ w.if-is_ok.true, ap (λ r. r.now) w.rest-is)
      | else-is_ok w ↦ inr (sym c.is_ok.ensures.value ∙ w.if-is_ok.false, ap (λ r. r.now) w.rest-is)
    ] in
    record {
      line = line;
      rest = lines c.first_line.result.1.now;
      is = c.first_line.ensures.first c.requires;
      value = begun_line (c.args.self.now.line.place.line + 1) line _ _ _ c.judge-judged.ensures way;
    }
