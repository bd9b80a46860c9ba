use Rattle.std.proofs.Common.{sym, ap, ◌∙◌, arith}
use Rattle.text.specs.Found.{tokens_left}
use Rattle.text.specs.Tokens.{onto}
use Rattle.text.proofs.Finding.{blanks_passed, columns_within, token_taken}
use Rattle.text.proofs.Tokening.{tokens_none}
use Rattle.text.proofs.reader.tokens.first_token.Goals as goal

pub returns-in_err-run : goal.returns-in_err-run
returns-in_err-run c =
    rw c.from_residual.ensures (blanks_passed _ _ c.after_blanks-left.ensures ∙ tokens_none _ _ c.in_err-run.ensures.steps.0)

pub returns-in_err-token : goal.returns-in_err-token
returns-in_err-token c =
    let run = c.in_ok-run.run' in
    rw c.from_residual-in_err-token.ensures
    (token_taken _ _ _ run c.after_blanks-left.ensures c.in_ok-run.ensures.steps
    ∙ ap (λ o. onto run.place o (tokens_left c.next.new.self)) (sym c.in_err-token.ensures))

pub returns : goal.returns
returns c =
    let run = c.in_ok-run.run' in
    let past = c.after_blanks-left.ensures in
    let taken = c.in_ok-run.ensures.steps in
    record {
      within = let w = columns_within _ _ _ run past taken in omega (arith, w.0, w.1);
      is = token_taken _ _ _ run past taken ∙ ap (λ o. onto run.place o (tokens_left c.next.new.self)) (sym c.in_ok-token.ensures);
      line = ap (λ p. p.line) taken.place ∙ ap (λ p. p.line) past.place;
    }
