-- Numbers and the digits that write them. Assumes nothing.
use Rattle.std.proofs.Common.{◌≡◌, ℕ, ◌+◌, ◌-◌, ◌^◌, ◌<◌, false, ltb, List, length, get_or, Some, decimal, sym, ap, ◌∙◌, ⊎_elim, mul_comm, arith}
use Rattle.std.proofs.lemmas.Fmt.{decimal-digits_value, digits_value-decimal, digits_decimal, first_decimal, decimal_digit}
use Rattle.std.proofs.lemmas.Str.Parse.{IsNumeralModel, FoldsDigits, numerals_by_fold, tells_by_index}
use Rattle.std.proofs.lemmas.Option.{cond_some, none-some}
use Rattle.std.proofs.lemmas.Bool.{both_ways, cases_lt, cond-true, cond-false, cases_Bool, cases_order, eq-eqb, ne_eqb, lt-ltb, ltb-true, and_from, and_right}
use Rattle.text.specs.Numbers.{value_after, zero_led, number_of}
use Rattle.text.specs.Spelling.{Between}
use Rattle.text.proofs.Values.{value_none, value_next, not_led}

folds : FoldsDigits value_after
folds = record {
  empty = λ n. value_none n;
  more = λ n c cs h. value_next n c cs ∙ ap (λ m. value_after (m + (c - 48)) cs) (mul_comm 10 n);
}

pub own : IsNumeralModel (Between 48 57) (value_after 0)
own = numerals_by_fold _ tells_by_index value_after folds

pub decimal_digits : (n : ℕ) → n < 2 ^ 32 → Between 48 57 (decimal n)
decimal_digits n h = digits_decimal own n (omega arith)

decimal_not_led : (n : ℕ) → n < 2 ^ 32 → zero_led (decimal n) ≡ false
decimal_not_led n h =
    ⊎_elim
    (λ e. ap (λ m. zero_led (decimal m)) e ∙ ap zero_led (decimal_digit 0 (omega arith)))
    (⊎_elim
    (λ l. absurd (omega arith))
    (λ l. let f = first_decimal n l (omega arith) in and_right _ _ (ne_eqb (get_or (decimal n) 0 0) 48 (λ e. omega arith))))
    (cases_order n 0)

-- the digits of a number read back as it
pub number_decimal : (n : ℕ) → n < 2 ^ 32 → number_of (decimal n) ≡ Some n
number_decimal n h =
    let v : value_after 0 (decimal n) ≡ n = digits_value-decimal own n (omega arith) in
    not_led (decimal n) (decimal_not_led n h) (omega arith) ∙ ap Some v

-- digits that are read as a number are the number's
pub decimal_number : (ds : List ℕ) (n : ℕ) → 0 < length ds → Between 48 57 ds → number_of ds ≡ Some n → (n < 2 ^ 32) × (ds ≡ decimal n)
decimal_number ds n some all is =
    ⊎_elim
    (λ led. absurd (none-some n (sym (cond-true _ _ _ led) ∙ is)))
    (λ led.
    let found = cond_some (ltb (value_after 0 ds) (2 ^ 32)) (value_after 0 ds) n (sym (cond-false _ _ _ led) ∙ is) in
    let same = found.1 in
    let less = ltb-true (value_after 0 ds) (2 ^ 32) found.0 in
    let first : get_or ds 0 0 ≡ 48 → length ds ≡ 1 =
    λ e. ⊎_elim
    (λ (long : 1 < length ds). absurd (both_ways _ led (and_from _ _ (lt-ltb _ _ long) (eq-eqb _ _ e))))
    (λ short. omega arith)
    (cases_lt 1 (length ds)) in
    (omega arith, sym (decimal-digits_value own ds all some first (omega arith)) ∙ ap decimal same))
    (cases_Bool (zero_led ds))
