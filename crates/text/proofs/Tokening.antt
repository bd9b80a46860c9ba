-- How a line's tokens follow from its runs. Assumes nothing.
use Rattle.std.proofs.Common.{◌≡◌, ℕ, List, [], ◌∷◌, length, take, drop, sym, refl, ap, ◌∙◌, ⊎_elim, add-zero, one-add, arith}
use Rattle.std.proofs.lemmas.List.{length-take-le}
use Rattle.std.proofs.lemmas.Bool.{cond-true, cond-false, cases_Bool}
use Rattle.text.specs.Alphabet.{class, same}
use Rattle.text.specs.Faults.{along}
use Rattle.text.specs.Runs.{run_length, Run, runs, CutOff}
use Rattle.text.specs.Tokens.{symbol_of, onto, tokens}
use Rattle.text.specs.declared.alphabet.Class.{Class}
use Rattle.text.specs.declared.alphabet.Class.TheVariants.{Blank}
use Rattle.text.specs.declared.fault.Place.{Place}
use Rattle.text.proofs.Classes.{same_class, class_same, class_other}
use Rattle.text.proofs.Judged.{cut_length}
use Rattle.text.proofs.Cutting.{runs_none, run_none, run_goes_on, run_off, run_within, cut_joined}

pub tokens_last : (p : Place) → tokens p [] ≡ []
unfolding tokens
tokens_last p = refl

pub tokens_none : (p : Place) (bs : List ℕ) → bs ≡ [] → tokens p (runs bs) ≡ []
tokens_none p bs e = ap (λ b. tokens p (runs b)) e ∙ ap (tokens p) runs_none ∙ tokens_last p

pub tokens_past : (p : Place) (r : Run) (rs : List Run) → r.0 ≡ Blank → tokens p (r ∷ rs) ≡ tokens (along p (length r.1)) rs
unfolding tokens
tokens_past p r rs e = cond-true _ _ _ (class_same _ _ e)

pub tokens_at : (p : Place) (r : Run) (rs : List Run) → (r.0 ≡ Blank → ⊥) → tokens p (r ∷ rs) ≡ onto p (symbol_of r.0 r.1) (tokens (along p (length r.1)) rs)
unfolding tokens
tokens_at p r rs n = cond-false _ _ _ (class_other _ _ n)

pub tokens_cut : (p : Place) (bs : List ℕ) (k : Class) (run rest : List ℕ) → CutOff bs k run rest → (k ≡ Blank → ⊥) → tokens p (runs bs) ≡ onto p (symbol_of k run) (tokens (along p (length run)) (runs rest))
tokens_cut p bs k run rest cut n = ap (tokens p) cut.first ∙ tokens_at p (k, run) (runs rest) n

pub along_none : (p : Place) → along p 0 ≡ p
along_none p = ap (λ n. record { line = p.line; column = n }) (add-zero p.column)

-- blanks in front are passed over
pub tokens_skip : (p : Place) (bs : List ℕ) → tokens p (runs bs) ≡ tokens (along p (run_length Blank bs)) (runs (drop (run_length Blank bs) bs))
tokens_skip p [] = ap (λ q. tokens q (runs [])) (sym (along_none p)) ∙ ap (λ n. tokens (along p n) (runs (drop {A = ℕ} n []))) (sym (run_none Blank))
tokens_skip p (b ∷ bs) =
    ⊎_elim
    (λ e.
    let w = run_within Blank (b ∷ bs) in
    let cut = cut_joined Blank (b ∷ bs) refl (omega arith) (same_class _ _ e) in
    ap (tokens p) cut.1 ∙ tokens_past p (Blank, take (run_length Blank (b ∷ bs)) (b ∷ bs)) _ refl
    ∙ ap (λ n. tokens (along p n) (runs (drop (run_length Blank (b ∷ bs)) (b ∷ bs)))) (length-take-le _ (b ∷ bs) w))
    (λ e.
    ap (λ q. tokens q (runs (b ∷ bs))) (sym (along_none p)) ∙ ap (λ n. tokens (along p n) (runs (drop n (b ∷ bs)))) (sym (run_off Blank b bs e)))
    (cases_Bool (same (class b) Blank))

-- a run goes on as far as it can
pub run_over : (k : Class) (bs : List ℕ) → run_length k (drop (run_length k bs) bs) ≡ 0
run_over k [] = ap (λ n. run_length k (drop {A = ℕ} n [])) (run_none k) ∙ run_none k
run_over k (b ∷ bs) =
    ⊎_elim
    (λ e. ap (λ n. run_length k (drop n (b ∷ bs))) (run_goes_on k b bs (same_class _ _ e) ∙ one-add _) ∙ run_over k bs)
    (λ e. ap (λ n. run_length k (drop n (b ∷ bs))) (run_off k b bs e) ∙ run_off k b bs e)
    (cases_Bool (same (class b) k))

-- the run after the blanks is not of blanks
pub not_blank : (bs : List ℕ) (k : Class) (run rest : List ℕ) → CutOff (drop (run_length Blank bs) bs) k run rest → k ≡ Blank → ⊥
not_blank bs k run rest cut e =
    let over = run_over Blank bs in
    let after = drop (run_length Blank bs) bs in
    let long = cut_length (record { line = 0; column = 0 }) 0 after k run rest cut in
    let some = cut.some in
    let on = cut_joined Blank after refl (omega arith) (cut.begins ∙ e) in
    omega (arith, on.0)
