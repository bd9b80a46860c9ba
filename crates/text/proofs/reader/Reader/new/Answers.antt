use Rattle.std.proofs.Common.{◌≡◌, [], Bool, true, false, is_ok, cond, Ok, Err, List, ℕ, sym, refl, ap, ◌∙◌}
use Rattle.std.proofs.lemmas.Bool.{both_ways}
use Rattle.text.specs.Script.{too_long, readable, lines}
use Rattle.text.specs.declared.fault.Fault.TheVariants.{TooLong}
use Rattle.text.proofs.Splitting.{splits}
use Rattle.text.proofs.Tokening.{tokens_none}
use Rattle.text.proofs.reader.Reader.new.Goals as goal
use Rattle.text.proofs.reader.Reader.new.Goals.{then-is_ok, else-is_ok}

whole : (long : Bool) (script : List ℕ) → is_ok (cond long (Err TooLong) (Ok (tt {0}))) ≡ true → script ≡ cond long [] script
whole true script e = absurd (both_ways false refl e)
whole false script e = refl

none : (long : Bool) (script : List ℕ) → is_ok (cond long (Err TooLong) (Ok (tt {0}))) ≡ false → [] ≡ cond long [] script
none true script e = refl
none false script e = absurd (both_ways true e refl)

pub returns-clause-value : goal.returns-clause-value
returns-clause-value c =
    let script = c.args.script.now in
    let judged = c.is_ok.ensures.value ∙ ap is_ok c.sized.ensures in
    let text : c.if-is_ok.result.now ≡ readable script =
    elim c.if-is_ok.branch [
      | then-is_ok w ↦ ap (λ r. r.now) w.result-is ∙ whole (too_long script) script (sym judged ∙ w.if-is_ok.true)
      | else-is_ok w ↦ ap (λ r. r.now) w.result-is ∙ none (too_long script) script (sym judged ∙ w.if-is_ok.false)
    ] in
    λ i. record {
      number = 0;
      left = tokens_none (record { line = 0; column = 1 }) [] refl i;
      following = lines (text i);
    }

pub returns-clause-splits : goal.returns-clause-splits
returns-clause-splits c = splits
