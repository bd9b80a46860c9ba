-- The first place that passes a test, or the length where none does. Assumes nothing.
use Rattle.std.proofs.Common.{get_or, ⊎_elim, ◌<◌, ◌≡◌, ℕ, ◌+◌, ◌≤◌, nat_lt, Bool, true, false, cond, not, List, length, None, sym, refl, ◌∙◌, arith}
use Rattle.std.proofs.lemmas.Option.{none-some}
use Rattle.std.proofs.lemmas.Bool.{cond_both, cond-true, cases_Bool, ltb-false}
use Rattle.std.proofs.lemmas.List.Recursion.{is_position_or_len}
use Rattle.std.proofs.lemmas.List.Sums.{prefix_len-le-length, fails_before_first}
use Rattle.std.specs.List.{prefix_len, position, position_or_len}
use Rattle.std.specs.Option.{unwrap_or}

flipped : (b : Bool) (m n : ℕ) → cond b m n ≡ cond (not b) n m
flipped true m n = refl
flipped false m n = refl

-- the place before which all pass is the first that fails, or the length
pub first_failing : (p : ℕ → Bool) (xs : List ℕ) → unwrap_or (position (λ x. not (p x)) xs) (length xs) ≡ prefix_len p xs
first_failing p xs =
    let test : ℕ → Bool = λ x. not (p x) in
    let within : position_or_len test xs ≤ length xs = prefix_len-le-length _ xs in
    cond_both (nat_lt (position_or_len test xs) (length xs)) _ _ (λ o. unwrap_or o (length xs) ≡ position_or_len test xs)
    (λ e. refl) (λ e. let over = ltb-false _ _ e in omega arith)
    ∙ sym (is_position_or_len (prefix_len p) test refl (λ x xs. flipped (p x) (1 + prefix_len p xs) 0) xs)

-- where no place is the first, none passes
pub position-None : (p : ℕ → Bool) (xs : List ℕ) → position p xs ≡ None → (i d : ℕ) → i < length xs → p (get_or xs i d) ≡ false
position-None p xs is i d h =
    ⊎_elim
    (λ e. absurd (none-some _ (sym is ∙ cond-true _ _ _ e)))
    (λ e. let over = ltb-false _ _ e in fails_before_first p xs i d (omega arith))
    (cases_Bool (nat_lt (position_or_len p xs) (length xs)))
