use Rattle.std.proofs.Common.{Err, sym, ap, ◌∙◌, arith}
use Rattle.std.proofs.lemmas.Result.{err_from_is_err_and}
use Rattle.text.specs.Judging.{depth_after, ended, judged}
use Rattle.text.specs.Runs.{runs}
use Rattle.text.specs.declared.fault.Fault.TheVariants as fault
use Rattle.text.proofs.Judged.{judged_end, judged_on, judged_stops, cut_length, depth_rises, left_open}
use Rattle.text.proofs.judge.judge.Goals as goal

pub returns-in_err-depth : goal.returns-in_err-depth
returns-in_err-depth c =
    let out = err_from_is_err_and c.from_residual.result c.from_residual.ensures.1 in
    let taken = c.in-Some.ensures.steps in
    let told = ap (λ p. depth_after p c.loop-run.depth c.in-Some.run'.class c.in-Some.run'.bytes.now) (sym taken.begins) ∙ sym c.in_err-depth.ensures in
    let stop = judged_stops c.loop-run.left.place c.loop-run.depth _ _ _ _ taken.cut c.in_err-depth.field-0.0 told in
    out.1 ∙ ap Err out.2 ∙ sym stop ∙ c.loop-run.invariant.1

pub loop-run-preserved : goal.loop-run-preserved
loop-run-preserved c =
    let i = c.loop-run.invariant in
    let taken = c.in-Some.ensures.steps in
    let parts = cut_length c.loop-run.left.place 0 _ _ _ _ taken.cut in
    let some = taken.cut.some in
    let told = ap (λ p. depth_after p c.loop-run.depth c.in-Some.run'.class c.in-Some.run'.bytes.now) (sym taken.begins) ∙ sym c.in_ok-depth.ensures in
    let rises = depth_rises c.loop-run.left.place c.loop-run.depth c.in-Some.run'.class c.in-Some.run'.bytes.now _ told in
    let on = judged_on c.loop-run.left.place c.loop-run.depth _ _ _ _ taken.cut c.in_ok-depth.depth told in
    (omega arith, ap (λ p. judged p c.in_ok-depth.depth (runs c.next.new.self.rest.now)) taken.place ∙ sym on ∙ i.1)

pub returns-then-depth-eq0 : goal.returns-then-depth-eq0
returns-then-depth-eq0 c =
    let place = c.loop-run.left.place in
    let end = judged_end place c.loop-run.depth _ c.in_default.ensures.steps.0 in
    sym (ap (ended place) c.if-depth-eq0.true) ∙ sym end ∙ c.loop-run.invariant.1

pub returns-else-depth-eq0 : goal.returns-else-depth-eq0
returns-else-depth-eq0 c =
    let place = c.loop-run.left.place in
    let end = judged_end place c.loop-run.depth _ c.in_default.ensures.steps.0 in
    ap (λ l. Err (fault.Bracket l.place)) c.in_default.ensures.steps.1
    ∙ sym (left_open place c.loop-run.depth (omega (arith, c.if-depth-eq0.false))) ∙ sym end ∙ c.loop-run.invariant.1
