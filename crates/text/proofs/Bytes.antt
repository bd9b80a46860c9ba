-- Which bytes are of which class. Assumes nothing.
use Rattle.std.proofs.Common.{◌≡◌, ℕ, true, false, ◌&&◌, eqb, leb, subst, ⊎_elim, arith}
use Rattle.std.proofs.lemmas.Bool.{cond_both, eqb-true, eqb-false, leb-true, leb-false, and_parts, and_cases}
use Rattle.std.specs.Int.{IsInRange}
use Rattle.text.specs.Alphabet.{class}
use Rattle.text.specs.Spelling.{Foreign}
use Rattle.text.specs.declared.alphabet.Class.{Class}
use Rattle.text.specs.declared.alphabet.Class.TheVariants.{Open, Close, Blank, Digit, Letter, Outside}

within : (lo hi b : ℕ) → (leb lo b && leb b hi) ≡ true → IsInRange lo hi b
within lo hi b e = let p = and_parts _ _ e in (leb-true lo b p.0, leb-true b hi p.1)

without : (lo hi b : ℕ) → (leb lo b && leb b hi) ≡ false → IsInRange lo hi b → ⊥
without lo hi b e h =
    ⊎_elim (λ f. let g = leb-false lo b f in omega arith) (λ f. let g = leb-false b hi f in omega arith) (and_cases _ _ e)

-- what is known of a byte of a class
abbrev pub Known : Class → ℕ → Type 0
Known Open b = b ≡ 40
Known Close b = b ≡ 41
Known Blank b = b ≡ 32
Known Digit b = IsInRange 48 57 b
Known Letter b = IsInRange 97 122 b
Known Outside b = Foreign b

pub known : (b : ℕ) → Known (class b) b
known b =
    cond_both (eqb b 40) _ _ (λ k. Known k b) (λ e. eqb-true b 40 e) (λ n40.
    cond_both (eqb b 41) _ _ (λ k. Known k b) (λ e. eqb-true b 41 e) (λ n41.
    cond_both (eqb b 32) _ _ (λ k. Known k b) (λ e. eqb-true b 32 e) (λ n32.
    cond_both (leb 48 b && leb b 57) _ _ (λ k. Known k b) (λ e. within 48 57 b e) (λ nd.
    cond_both (leb 97 b && leb b 122) _ _ (λ k. Known k b) (λ e. within 97 122 b e) (λ nl.
    (eqb-false b 40 n40, eqb-false b 41 n41, eqb-false b 32 n32, without 48 57 b nd, without 97 122 b nl))))))

is_digit : (j : Class) (b : ℕ) → Known j b → IsInRange 48 57 b → j ≡ Digit
is_digit Open b x h = grind arith
is_digit Close b x h = grind arith
is_digit Blank b x h = grind arith
is_digit Digit b x h = grind arith
is_digit Letter b x h = grind arith
is_digit Outside b x h = grind arith

is_letter : (j : Class) (b : ℕ) → Known j b → IsInRange 97 122 b → j ≡ Letter
is_letter Open b x h = grind arith
is_letter Close b x h = grind arith
is_letter Blank b x h = grind arith
is_letter Digit b x h = grind arith
is_letter Letter b x h = grind arith
is_letter Outside b x h = grind arith

is_outside : (j : Class) (b : ℕ) → Known j b → Foreign b → j ≡ Outside
is_outside Open b x h = grind arith
is_outside Close b x h = grind arith
is_outside Blank b x h = grind arith
is_outside Digit b x h = grind arith
is_outside Letter b x h = grind arith
is_outside Outside b x h = grind arith

pub digit_class : (b : ℕ) → IsInRange 48 57 b → class b ≡ Digit
digit_class b h = is_digit (class b) b (known b) h

pub letter_class : (b : ℕ) → IsInRange 97 122 b → class b ≡ Letter
letter_class b h = is_letter (class b) b (known b) h

pub outside_class : (b : ℕ) → Foreign b → class b ≡ Outside
outside_class b h = is_outside (class b) b (known b) h

pub class_known : (k : Class) (b : ℕ) → class b ≡ k → Known k b
class_known k b e = subst (λ j. Known j b) e (known b)
