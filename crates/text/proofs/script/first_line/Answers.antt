use Rattle.std.proofs.Common.{rules, ◌+◌, eqb, sym, ◌∙◌, subst, take}
use Rattle.std.proofs.lemmas.Iterator.{YieldsList-from_slice}
use Rattle.std.proofs.lemmas.Iterator.Search.{position_from_yields_List}
use Rattle.std.proofs.lemmas.List.{take_rest}
use Rattle.text.specs.Lines.{FirstLine}
use Rattle.text.proofs.Splitting.{cut_line, whole_line}
use Rattle.text.proofs.script.first_line.Goals as goal

pub returns-in-Some : goal.returns-in-Some
returns-in-Some c =
    let text = c.args.text.now in
    let at = position_from_yields_List (λ b. eqb b 10) _ _ _ c.position.ensures.ran (YieldsList-from_slice text cc) (λ x b q k. search rules) in
    subst (FirstLine text (take c.in-Some.n text)) (sym (take_rest text (c.in-Some.n + 1))) (cut_line text c.in-Some.n (sym at ∙ c.in-Some.is))

pub returns-in-None : goal.returns-in-None
returns-in-None c =
    let text = c.args.text.now in
    let at = position_from_yields_List (λ b. eqb b 10) _ _ _ c.position.ensures.ran (YieldsList-from_slice text cc) (λ x b q k. search rules) in
    whole_line text (sym at ∙ c.in-None.is)
