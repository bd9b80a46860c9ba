-- How a line's runs follow one another. Assumes nothing.
use Rattle.std.proofs.Common.{◌≡◌, ℕ, suc, ◌+◌, ◌<◌, ◌≤◌, true, false, cond, ◌&&◌, List, [], ◌∷◌, length, get_or, take, drop, sym, refl, ap, ◌∙◌, ⊎_elim, one-add, arith, take-append-drop}
use Rattle.std.proofs.lemmas.List.{length-take-le}
use Rattle.std.proofs.lemmas.List.Sums.{prefix_len-le-length}
use Rattle.std.proofs.lemmas.Bool.{cond-true, cond-false, and_from, and_left, and_right, cases_Bool, cond_both}
use Rattle.text.specs.Alphabet.{class, same, joins}
use Rattle.text.specs.Runs.{run_length, Run, before, runs, CutOff}
use Rattle.text.specs.declared.alphabet.Class.{Class}
use Rattle.text.proofs.Classes.{class_same, class_other, same_class, other}

pub run_none : (k : Class) → run_length k [] ≡ 0
run_none k = refl

pub run_goes_on : (k : Class) (b : ℕ) (bs : List ℕ) → class b ≡ k → run_length k (b ∷ bs) ≡ 1 + run_length k bs
run_goes_on k b bs e = cond-true _ _ _ (class_same _ _ e)

pub run_stops : (k : Class) (b : ℕ) (bs : List ℕ) → (class b ≡ k → ⊥) → run_length k (b ∷ bs) ≡ 0
run_stops k b bs n = cond-false _ _ _ (class_other _ _ n)

pub run_off : (k : Class) (b : ℕ) (bs : List ℕ) → same (class b) k ≡ false → run_length k (b ∷ bs) ≡ 0
run_off k b bs e = cond-false _ _ _ e

pub run_within : (k : Class) (bs : List ℕ) → run_length k bs ≤ length bs
run_within k bs = prefix_len-le-length (λ b. same (class b) k) bs

-- a byte that joins no run is one by itself
alone : (k : Class) (b : ℕ) (rs : List Run) → joins k ≡ false → before k b rs ≡ (k, b ∷ []) ∷ rs
alone k b [] e = refl
alone k b (r ∷ rs) e = cond-false _ _ _ (and_left _ _ e)

-- the first run is of the first byte's class
led : (k : Class) (b : ℕ) (rs : List Run) → (ds : List ℕ) × (ts : List Run) × (before k b rs ≡ (k, ds) ∷ ts)
led k b [] = (b ∷ [], [], refl)
led k b (r ∷ rs) =
    elim (joins k && same k r.0) as (λ v. (ds : List ℕ) × (ts : List Run) × (cond v ((k, b ∷ r.1) ∷ rs) ((k, b ∷ []) ∷ r ∷ rs) ≡ (k, ds) ∷ ts)) [
      | true ↦ (b ∷ r.1, rs, refl)
      | false ↦ (b ∷ [], r ∷ rs, refl)
    ]

pub runs_none : runs [] ≡ []
unfolding runs
runs_none = refl

pub runs_next : (b : ℕ) (bs : List ℕ) → runs (b ∷ bs) ≡ before (class b) b (runs bs)
unfolding runs
runs_next b bs = refl

pub runs_alone : (b : ℕ) (bs : List ℕ) → joins (class b) ≡ false → runs (b ∷ bs) ≡ (class b, b ∷ []) ∷ runs bs
runs_alone b bs e = runs_next b bs ∙ alone (class b) b (runs bs) e

-- a run that begins with b and takes n more bytes
abbrev pub cut_at : Class → ℕ → List ℕ → ℕ → List Run
cut_at k b bs n = (k, b ∷ take n bs) ∷ runs (drop n bs)

runs_one : (k : Class) (b : ℕ) → class b ≡ k → runs (b ∷ []) ≡ cut_at k b [] (run_length k [])
unfolding runs
runs_one k b e = ap (λ j. (j, b ∷ []) ∷ []) e

pub runs_joined : (k : Class) → joins k ≡ true → (b : ℕ) (bs : List ℕ) → class b ≡ k → runs (b ∷ bs) ≡ cut_at k b bs (run_length k bs)
runs_joined k j b [] e = runs_one k b e
runs_joined k j b (d ∷ bs) e =
    ⊎_elim
    (λ s.
    let on = run_goes_on k d bs (same_class _ _ s) ∙ one-add _ in
    let next = runs_joined k j d bs (same_class _ _ s) in
    runs_next b (d ∷ bs) ∙ (λ i. before (e i) b (next i)) ∙ cond-true _ _ _ (and_from _ _ j (class_same k k refl))
    ∙ ap (cut_at k b (d ∷ bs)) (sym on))
    (λ s.
    let off = run_off k d bs s in
    let next = led (class d) d (runs bs) in
    let first = runs_next d bs ∙ next.2 in
    runs_next b (d ∷ bs) ∙ (λ i. before (e i) b (first i)) ∙ cond-false _ _ _ (and_right _ _ (other k (class d) s))
    ∙ ap (λ rs. (k, b ∷ []) ∷ rs) (sym first) ∙ ap (cut_at k b (d ∷ bs)) (sym off))
    (cases_Bool (same (class d) k))

-- the run that the first byte begins
pub cut_joined : (k : Class) (bs : List ℕ) → joins k ≡ true → 0 < length bs → class (get_or bs 0 0) ≡ k → (0 < run_length k bs) × (runs bs ≡ (k, take (run_length k bs) bs) ∷ runs (drop (run_length k bs) bs))
cut_joined k [] j h e = absurd (omega arith)
cut_joined k (b ∷ bs) j h e =
    let on = run_goes_on k b bs e in
    let more : run_length k (b ∷ bs) ≡ suc (run_length k bs) = on ∙ one-add _ in (
      omega arith,
      runs_joined k j b bs e ∙ ap (λ n. (k, take n (b ∷ bs)) ∷ runs (drop n (b ∷ bs))) (sym more),
    )

pub cut_alone : (k : Class) (bs : List ℕ) → joins k ≡ false → 0 < length bs → class (get_or bs 0 0) ≡ k → runs bs ≡ (k, take 1 bs) ∷ runs (drop 1 bs)
cut_alone k [] j h e = absurd (omega arith)
cut_alone k (b ∷ bs) j h e = runs_alone b bs (ap joins e ∙ j) ∙ ap (λ j. (j, b ∷ []) ∷ runs bs) e

-- how long the first run is, where it is of class k
abbrev pub first_length : Class → List ℕ → ℕ
first_length k bs = cond (joins k) (run_length k bs) 1

pub first_within : (k : Class) (bs : List ℕ) → 0 < length bs → first_length k bs ≤ length bs
first_within k bs h = let w = run_within k bs in cond_both (joins k) _ _ (λ n. n ≤ length bs) (λ e. w) (λ e. omega arith)

pub cut_first : (k : Class) (bs : List ℕ) → 0 < length bs → class (get_or bs 0 0) ≡ k → CutOff bs k (take (first_length k bs) bs) (drop (first_length k bs) bs)
cut_first k bs h e =
    cond_both (joins k) (run_length k bs) 1 (λ n. CutOff bs k (take n bs) (drop n bs))
    (λ j. let cut = cut_joined k bs j h e in let w = run_within k bs in record {
      whole = take-append-drop _ bs;
      some = let l = length-take-le (run_length k bs) bs w in omega (arith, cut.0);
      begins = e;
      first = cut.1;
    })
    (λ j. record {
      whole = take-append-drop 1 bs;
      some = let l = length-take-le 1 bs (omega arith) in omega arith;
      begins = e;
      first = cut_alone k bs j h e;
    })
