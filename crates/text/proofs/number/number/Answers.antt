use Rattle.std.proofs.Common.{◌≡◌, ◌+◌, ◌-◌, ◌*◌, false, get_or, drop, Some, sym, ap, ◌∙◌, ⊎_elim, arith}
use Rattle.std.proofs.lemmas.Bool.{cases_lt, and_left, and_right, le-ltb, ne_eqb}
use Rattle.text.specs.Numbers.{value_after, zero_led}
use Rattle.text.proofs.Values.{value_more, value_all, not_led, outgrown}
use Rattle.text.proofs.number.number.Goals as goal
use Rattle.text.proofs.number.number.Goals.{else-digits-gt1-via-then-digits-gt1+else-digits-eq48, else-digits-gt1-via-else-digits-gt1}

pub returns-in_err-checked_mul : goal.returns-in_err-checked_mul
returns-in_err-checked_mul c =
    let i = c.loop-digit.digit-index in
    let now = c.args.digits.now in
    c.from_residual.ensures
    ∙ sym (⊎_elim (λ h. absurd (c.in_err-checked_mul.ensures h)) (λ h. outgrown now i c.loop-digit.value c.loop-digit-test.true c.loop-digit.invariant.1 (omega arith)) (cases_lt (c.loop-digit.value * 10) 4294967296))

pub returns-in_err-value : goal.returns-in_err-value
returns-in_err-value c =
    let i = c.loop-digit.digit-index in
    let now = c.args.digits.now in
    let ten = c.in_ok-checked_mul.ensures in
    let units : c.from-units.result ≡ get_or now i 0 - 48 = omega arith in
    c.from_residual-in_err-value.ensures
    ∙ sym (⊎_elim (λ h. absurd (c.in_err-value.ensures h)) (λ h. outgrown now i c.loop-digit.value c.loop-digit-test.true c.loop-digit.invariant.1 (omega (arith, ten.1))) (cases_lt (c.in_ok-checked_mul.field-0 + c.from-units.result) 4294967296))

pub loop-digit-preserved : goal.loop-digit-preserved
loop-digit-preserved c =
    let now = c.args.digits.now in
    let ten = c.in_ok-checked_mul.ensures in
    let next = c.in_ok-value.ensures in
    let step : c.in_ok-value.value ≡ 10 * c.loop-digit.value + (get_or now c.loop-digit.digit-index 0 - 48) = omega (arith, ten.1, next.1) in (
      omega (arith, next.0, next.1),
      ap (λ n. value_after n (drop (c.loop-digit.digit-index + 1) now)) step
          ∙ sym (value_more c.loop-digit.value now c.loop-digit.digit-index c.loop-digit-test.true) ∙ c.loop-digit.invariant.1,
    )

pub returns : goal.returns
returns c =
    let now = c.args.digits.now in
    let small = c.loop-digit.invariant.0 in
    let whole : c.loop-digit.value ≡ value_after 0 now = sym (value_all c.loop-digit.value now c.loop-digit.digit-index c.loop-digit-test.false) ∙ c.loop-digit.invariant.1 in
    let led : zero_led now ≡ false =
    elim c.else-digits-gt1.branch [
      | else-digits-gt1-via-then-digits-gt1+else-digits-eq48 w ↦ and_right _ _ (ne_eqb _ _ w.if-digits-eq48.false)
      | else-digits-gt1-via-else-digits-gt1 w ↦ and_left _ _ (le-ltb _ _ w.if-digits-gt1.false)
    ] in
    ap Some whole ∙ sym (not_led now led (omega arith))
