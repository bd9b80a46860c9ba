-- A line means just the tokens that it spells, and has just the fault that stands in it. Assumes nothing.
use Rattle.std.proofs.Common.{◌≡◌, ℕ, List, [], ◌∷◌, ◌++◌, length, None, Ok, Err, sym, refl, ap, ◌∙◌, subst, ⊎_elim, append-nil, arith}
use Rattle.text.specs.Alphabet.{joins}
use Rattle.text.specs.Faults.{along}
use Rattle.text.specs.Judging.{closed, depth_after, judged, sound}
use Rattle.text.specs.Numbers.{number_of}
use Rattle.text.specs.Runs.{runs}
use Rattle.text.specs.Spelling.{Spelled, Faulty, AtFault, Grammar}
use Rattle.text.specs.Tokens.{Spot, line_start, meaning}
use Rattle.text.specs.declared.alphabet.Class.{Class}
use Rattle.text.specs.declared.alphabet.Class.TheVariants.{Close, Digit, Outside}
use Rattle.text.specs.declared.fault.Fault.{Fault}
use Rattle.text.specs.declared.fault.Fault.TheVariants as fault
use Rattle.text.specs.declared.fault.Place.{Place}
use Rattle.text.proofs.Advancing.{kept}
use Rattle.text.proofs.Bytes.{digit_class, class_known, outside_class}
use Rattle.text.proofs.Cutting.{runs_alone}
use Rattle.text.proofs.Decimals.{decimal_number}
use Rattle.text.proofs.Judged.{onward, judged_first, judged_end, left_open}
use Rattle.text.proofs.Leading.{leads_read, runs_of}
use Rattle.text.proofs.Outcomes.{outcome, option_ways}
use Rattle.text.proofs.Tokening.{tokens_none}

-- a run with a fault is judged by it
run_fault : (q : Place) (d : ℕ) (bs after run : List ℕ) (k : Class) (f : Fault) → runs bs ≡ (k, run) ∷ runs after → depth_after q d k run ≡ Err f → judged q d (runs bs) ≡ Err f
run_fault q d bs after run k f cut is =
    ap (judged q d) cut ∙ judged_first q d (k, run) (runs after) ∙ ap (λ r. onward r (λ e. judged (along q (length run)) e (runs after))) is

-- a fault that stands at a place is the one that is judged
fault_judged : (f : Fault) (d : ℕ) (q : Place) (rest : List ℕ) → AtFault d q rest f → judged q d (runs rest) ≡ Err f
fault_judged fault.TooLong d q rest h = absurd h
fault_judged (fault.Outside p) d q rest h =
    let is = outside_class h.1 h.4 in
    run_fault q d rest h.2 (h.1 ∷ []) Outside (fault.Outside p)
    (ap runs h.3 ∙ runs_alone h.1 h.2 (ap joins is) ∙ ap (λ k. (k, h.1 ∷ []) ∷ runs h.2) is)
    (ap (λ o. Err (fault.Outside o)) (sym h.0))
fault_judged (fault.Number p) d q rest h =
    let none : number_of h.1 ≡ None =
    ⊎_elim
    (λ e. e)
    (λ n. let is = decimal_number h.1 n.0 h.4 h.5 n.1 in absurd (h.7 n.0 is.0 is.1))
    (option_ways (number_of h.1)) in
    run_fault q d rest h.2 h.1 Digit (fault.Number p)
    (ap runs h.3 ∙ runs_of Digit h.1 h.2 refl h.4 (λ i l. digit_class _ (h.5 i l)) (λ l e. h.6 l (class_known Digit _ e)))
    (ap (sound q d) none ∙ ap (λ o. Err (fault.Number o)) (sym h.0))
fault_judged (fault.Bracket p) d q rest h =
    ⊎_elim
    (λ e. judged_end q d rest e.0 ∙ left_open q d e.1 ∙ ap (λ o. Err (fault.Bracket o)) (sym h.0))
    (λ e.
    run_fault q d rest e.0 (41 ∷ []) Close (fault.Bracket p) (ap runs e.1 ∙ runs_alone 41 e.0 refl)
    (ap (closed q) e.2 ∙ ap (λ o. Err (fault.Bracket o)) (sym h.0)))
    h.1

spelled_means : (n : ℕ) (bs : List ℕ) (ts : List Spot) → Spelled n bs ts → meaning n bs ≡ Ok ts
spelled_means n bs ts h =
    let read = leads_read ts (line_start n) bs h.0 [] 0 0 h.1 h.2 in
    ap (kept n bs) (read.0 ∙ judged_end h.0 0 [] refl)
    ∙ ap Ok (read.1 ∙ ap (λ us. ts ++ us) (tokens_none h.0 [] refl) ∙ append-nil ts)

faulty_means : (n : ℕ) (bs : List ℕ) (f : Fault) → Faulty n bs f → meaning n bs ≡ Err f
faulty_means n bs f h =
    let read = leads_read h.0 (line_start n) bs h.1 h.3 0 h.2 h.4 h.5 in
    ap (kept n bs) (read.0 ∙ fault_judged f h.2 h.1 h.3 h.6)

means_spelled : (n : ℕ) (bs : List ℕ) (ts : List Spot) → meaning n bs ≡ Ok ts → Spelled n bs ts
means_spelled n bs ts is =
    ⊎_elim
    (λ h.
    let found : Ok h.0 ≡ Ok ts = sym (spelled_means n bs h.0 (h.1, h.2, h.3)) ∙ is in
    let same : h.0 ≡ ts = cc in
    subst (Spelled n bs) same (h.1, h.2, h.3))
    (λ h.
    let found : Err h.0 ≡ Ok ts = sym (faulty_means n bs h.0 (h.1, h.2, h.3, h.4, h.5, h.6, h.7)) ∙ is in
    grind arith)
    (outcome (line_start n) 0 bs)

means_faulty : (n : ℕ) (bs : List ℕ) (f : Fault) → meaning n bs ≡ Err f → Faulty n bs f
means_faulty n bs f is =
    ⊎_elim
    (λ h.
    let found : Ok h.0 ≡ Err f = sym (spelled_means n bs h.0 (h.1, h.2, h.3)) ∙ is in
    grind arith)
    (λ h.
    let found : Err h.0 ≡ Err f = sym (faulty_means n bs h.0 (h.1, h.2, h.3, h.4, h.5, h.6, h.7)) ∙ is in
    let same : h.0 ≡ f = cc in
    subst (Faulty n bs) same (h.1, h.2, h.3, h.4, h.5, h.6, h.7))
    (outcome (line_start n) 0 bs)

pub grammar : Grammar
grammar n bs = (λ ts. (means_spelled n bs ts, spelled_means n bs ts), λ f. (means_faulty n bs f, faulty_means n bs f))
