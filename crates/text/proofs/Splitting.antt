-- How a text's lines follow one another. Assumes nothing.
use Rattle.std.proofs.Common.{drop-cons, add-one, get_or-take, take-append-drop, Some, None, ◌≡◌, ℕ, zero, suc, ◌+◌, ◌<◌, true, false, eqb, List, [], ◌∷◌, ◌++◌, length, take, drop, sym, refl, ap, ◌∙◌, subst, inl, inr, ⊎_elim, arith}
use Rattle.std.proofs.lemmas.Bool.{both_ways, cond-true, cond-false, cases_Bool, eq-eqb, ne_eqb, eqb-true, eqb-false}
use Rattle.std.proofs.lemmas.List.{length-take-le, length-drop}
use Rattle.std.proofs.lemmas.List.Quantifiers.{position-Some}
use Rattle.std.specs.List.{position}
use Rattle.text.specs.Lines.{FirstLine}
use Rattle.text.proofs.Positions.{position-None}
use Rattle.text.specs.Script.{lengthened, lines, Unbroken, Split, Splits}

pub lines_none : lines [] ≡ []
unfolding lines
lines_none = refl

lines_end : (b : ℕ) (bs : List ℕ) → eqb b 10 ≡ true → lines (b ∷ bs) ≡ [] ∷ lines bs
unfolding lines
lines_end b bs e = cond-true _ _ _ e

lines_on : (b : ℕ) (bs : List ℕ) → eqb b 10 ≡ false → lines (b ∷ bs) ≡ lengthened b (lines bs)
unfolding lines
lines_on b bs e = cond-false _ _ _ e

-- a line with its end before a text
pub lines_past : (l rest : List ℕ) → Unbroken l → lines (l ++ (10 ∷ rest)) ≡ l ∷ lines rest
lines_past [] rest u = lines_end 10 rest refl
lines_past (b ∷ l) rest u =
    lines_on b (l ++ (10 ∷ rest)) (ne_eqb b 10 (u 0 (omega arith))) ∙ ap (lengthened b) (lines_past l rest (λ i h. u (suc i) (omega arith)))

-- a line that lacks its end
lines_alone : (b : ℕ) (l : List ℕ) → Unbroken (b ∷ l) → lines (b ∷ l) ≡ (b ∷ l) ∷ []
lines_alone b [] u = lines_on b [] (ne_eqb b 10 (u 0 (omega arith))) ∙ ap (lengthened b) lines_none
lines_alone b (d ∷ l) u =
    lines_on b (d ∷ l) (ne_eqb b 10 (u 0 (omega arith))) ∙ ap (lengthened b) (lines_alone d l (λ i h. u (suc i) (omega arith)))

pub last_line : (l : List ℕ) → Unbroken l → 0 < length l → lines l ≡ l ∷ []
last_line [] u h = absurd (omega arith)
last_line (b ∷ l) u h = lines_alone b l u

split_lines : (ls : List (List ℕ)) (text : List ℕ) → Split text ls → lines text ≡ ls
split_lines [] text e = ap lines e ∙ lines_none
split_lines (l ∷ ls) text h =
    ⊎_elim
    (λ e. ap lines e.1 ∙ lines_past l e.0 h.0 ∙ ap (λ ms. l ∷ ms) (split_lines ls e.0 e.2))
    (λ e. ap lines e.0 ∙ last_line l h.0 e.1 ∙ ap (λ ms. l ∷ ms) (sym e.2))
    h.1

unbroken_more : (b : ℕ) (l : List ℕ) → (b ≡ 10 → ⊥) → Unbroken l → Unbroken (b ∷ l)
unbroken_more b l n u zero h e = n e
unbroken_more b l n u (suc i) h e = u i (omega arith) e

-- one more byte in the first line
split_more : (b : ℕ) (text : List ℕ) (ls : List (List ℕ)) → (b ≡ 10 → ⊥) → Split text ls → Split (b ∷ text) (lengthened b ls)
split_more b text [] n e = (unbroken_more b [] n (λ i h. absurd (omega arith)), inr (ap (λ t. b ∷ t) e, omega arith, refl))
split_more b text (l ∷ ls) n h = (
  unbroken_more b l n h.0,
  ⊎_elim (λ e. inl (e.0, ap (λ t. b ∷ t) e.1, e.2)) (λ e. inr (ap (λ t. b ∷ t) e.0, omega arith, e.2)) h.1,
)

lines_split : (text : List ℕ) → Split text (lines text)
lines_split [] = subst (Split []) (sym lines_none) refl
lines_split (b ∷ text) =
    ⊎_elim
    (λ e.
    subst (Split (b ∷ text)) (sym (lines_end b text e))
    (λ i h. absurd (omega arith), inl (text, ap (λ c. c ∷ text) (eqb-true b 10 e), lines_split text)))
    (λ e. subst (Split (b ∷ text)) (sym (lines_on b text e)) (split_more b text (lines text) (eqb-false b 10 e) (lines_split text)))
    (cases_Bool (eqb b 10))

pub splits : Splits
splits text ls = (λ e. subst (Split text) e (lines_split text), split_lines ls text)

-- the first byte 10 ends the first line
pub cut_line : (text : List ℕ) (n : ℕ) → position (λ b. eqb b 10) text ≡ Some n → FirstLine text (take n text) (drop (n + 1) text)
cut_line text n is =
    let at = position-Some (λ b. eqb b 10) text n 0 is in
    let line = length-take-le n text (omega (arith, at.0)) in
    let rest = length-drop (n + 1) text in
    let next = drop-cons text n 0 at.0 ∙ (λ i. eqb-true _ 10 at.1 i ∷ drop (sym (add-one n) i) text) in
    let unbroken : Unbroken (take n text) =
    λ i h e. both_ways _ (at.2 i (omega (arith, line))) (eq-eqb _ _ (sym (get_or-take n text i 0 (omega (arith, line))) ∙ e)) in
    record {
      within = omega (arith, at.0);
      shorter = λ h. omega arith;
      first = λ h. ap lines (sym (take-append-drop n text) ∙ ap (λ bs. take n text ++ bs) next) ∙ lines_past _ _ unbroken;
    }

-- a text with no byte 10 is one line
pub whole_line : (text : List ℕ) → position (λ b. eqb b 10) text ≡ None → FirstLine text text []
whole_line text is = record {
  within = omega arith;
  shorter = λ h. omega arith;
  first = λ h. last_line text (λ i l e. both_ways _ (position-None (λ b. eqb b 10) text is i 0 l) (eq-eqb _ _ e)) h ∙ ap (λ ls. text ∷ ls) (sym lines_none);
}
