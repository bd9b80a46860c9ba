use Rattle.std.proofs.Common.{Bool, Err, Result, sym, refl, ap, ◌∙◌, true-eqb}
use Rattle.std.proofs.lemmas.List.{nil_from_length}
use Rattle.std.proofs.lemmas.Result.{err_from_is_err_and}
use Rattle.text.specs.Reading.{state}
use Rattle.text.specs.Script.{State, lines}
use Rattle.text.specs.declared.fault.Fault.{Fault}
use Rattle.text.proofs.Advancing.{at_end, at_fault, at_tokens, at_none}
use Rattle.text.proofs.Finding.{found_next, none_left}
use Rattle.text.proofs.Grammar.{grammar}
use Rattle.text.proofs.Splitting.{lines_none}
use Rattle.text.proofs.Tokening.{tokens_none}
use Rattle.text.proofs.reader.Reader.next_line.Goals as goal

abbrev Answer : Type 0
Answer = Result Bool Fault × State

pub loop-self-init : goal.loop-self-init
loop-self-init c = (tokens_none _ _ refl, refl)

pub returns-in_err-begin : goal.returns-in_err-begin
returns-in_err-begin c =
    let out = err_from_is_err_and c.from_residual.result c.from_residual.ensures.1 in
    let all = sym (at_fault (state c.loop-self.self) (state c.begin.new.self) _ c.in_err-begin.ensures.begun c.in_err-begin.field-0.0 refl) ∙ c.loop-self.invariant.1 in
    record {
      value = out.1 ∙ ap Err out.2 ∙ ap (λ (a : Answer). a.0) all;
      after = ap (λ (a : Answer). a.1) all;
      grammar = grammar;
    }

pub returns-then-is_some : goal.returns-then-is_some
returns-then-is_some c =
    let found = found_next _ _ (sym c.is_some.ensures ∙ c.if-is_some.true) c.first_token.ensures in
    let all = sym (at_tokens (state c.loop-self.self) (state c.begin.new.self) _ c.in_ok-begin.ensures.begun refl _ _ found.1.is) ∙ c.loop-self.invariant.1 in
    record { value = ap (λ (a : Answer). a.0) all; after = ap (λ (a : Answer). a.1) all; grammar = grammar }

pub loop-self-preserved : goal.loop-self-preserved
loop-self-preserved c =
    let none = none_left _ _ (sym c.is_some.ensures ∙ c.if-is_some.false) c.first_token.ensures in (
      none,
      at_none (state c.loop-self.self) (state c.begin.new.self) _ c.in_ok-begin.ensures.begun refl none ∙ c.loop-self.invariant.1,
    )

pub returns : goal.returns
returns c =
    let empty = nil_from_length _ (true-eqb _ 0 c.loop-self-test.ensures) in
    let all = sym (at_end (state c.loop-self.self) (ap lines empty ∙ lines_none) c.loop-self.invariant.0) ∙ c.loop-self.invariant.1 in
    record { value = ap (λ (a : Answer). a.0) all; after = ap (λ (a : Answer). a.1) all; grammar = grammar }
