-- A chain without repeats has no more steps than there are boundaries to meet. Assumes nothing.
use Rattle.std.proofs.Common.{◌≡◌, ℕ, zero, suc, ◌<◌, ◌≤◌, cond, eqb, ◌⊎◌, List, [], ◌∷◌, map, length, sym, refl, ap, ◌∙◌, subst, inl, inr, arith}
use Rattle.std.proofs.lemmas.Bool.{cases_eq, eq-eqb, ne_eqb, cond-true, cond-false}
use Rattle.links.specs.declared.step.Step.{Step}
use Rattle.links.specs.Chains.{end, Absent, Distinct}

abbrev pub AllBelow : ℕ → List ℕ → Type 0
AllBelow n [] = Unit {0}
AllBelow n (x ∷ xs) = (x < n) × AllBelow n xs

without : ℕ → List ℕ → List ℕ
without k [] = []
without k (x ∷ xs) = cond (eqb x k) (without k xs) (x ∷ without k xs)

-- x goes, or stays
without_cases : (k x : ℕ) (xs : List ℕ) → ((x ≡ k) × (without k (x ∷ xs) ≡ without k xs)) ⊎ ((x ≡ k → ⊥) × (without k (x ∷ xs) ≡ x ∷ without k xs))
unfolding without
without_cases k x xs =
    elim (cases_eq x k) [
      | inl e ↦ inl (e, cond-true (eqb x k) (without k xs) (x ∷ without k xs) (eq-eqb x k e))
      | inr n ↦ inr (n, cond-false (eqb x k) (without k xs) (x ∷ without k xs) (ne_eqb x k n))
    ]

without_absent : (k : ℕ) (xs : List ℕ) → Absent k xs → without k xs ≡ xs
unfolding without
without_absent k [] a = refl
without_absent k (x ∷ xs) a = elim (without_cases k x xs) [ inl p ↦ absurd (a.0 (sym p.0)) | inr p ↦ p.1 ∙ ap (λ (ys : List ℕ). x ∷ ys) (without_absent k xs a.1) ]

without_length : (k : ℕ) (xs : List ℕ) → Distinct xs → length xs ≤ suc (length (without k xs))
unfolding without
without_length k [] d = omega arith
without_length k (x ∷ xs) d =
    elim (without_cases k x xs) [
      | inl p ↦ (let e : length (without k (x ∷ xs)) ≡ length xs = ap length (p.1 ∙ without_absent k xs (subst (λ (y : ℕ). Absent y xs) p.0 d.0)) in omega arith)
      | inr p ↦ (let e : length (without k (x ∷ xs)) ≡ suc (length (without k xs)) = ap length p.1 in let ih = without_length k xs d.1 in omega arith)
    ]

absent_without : (k i : ℕ) (xs : List ℕ) → Absent i xs → Absent i (without k xs)
unfolding without
absent_without k i [] a = tt
absent_without k i (x ∷ xs) a =
    elim (without_cases k x xs) [
      | inl p ↦ subst (Absent i) (sym p.1) (absent_without k i xs a.1)
      | inr p ↦ subst (Absent i) (sym p.1) (a.0, absent_without k i xs a.1)
    ]

distinct_without : (k : ℕ) (xs : List ℕ) → Distinct xs → Distinct (without k xs)
unfolding without
distinct_without k [] d = tt
distinct_without k (x ∷ xs) d =
    elim (without_cases k x xs) [
      | inl p ↦ subst Distinct (sym p.1) (distinct_without k xs d.1)
      | inr p ↦ subst Distinct (sym p.1) (absent_without k x xs d.0, distinct_without k xs d.1)
    ]

below_without : (n : ℕ) (xs : List ℕ) → AllBelow (suc n) xs → AllBelow n (without n xs)
unfolding without
below_without n [] b = tt
below_without n (x ∷ xs) b =
    elim (without_cases n x xs) [
      | inl p ↦ subst (AllBelow n) (sym p.1) (below_without n xs b.1)
      | inr p ↦ subst (AllBelow n) (sym p.1) (let ne : x ≡ n → ⊥ = p.0 in let lt : x < suc n = b.0 in omega arith, below_without n xs b.1)
    ]

-- distinct numbers below n are at most n
pub distinct_few : (n : ℕ) (xs : List ℕ) → Distinct xs → AllBelow n xs → length xs ≤ n
distinct_few zero [] d b = omega arith
distinct_few zero (x ∷ xs) d b = absurd (omega (arith, b.0))
distinct_few (suc n) xs d b = let few = distinct_few n (without n xs) (distinct_without n xs d) (below_without n xs b) in let l = without_length n xs d in omega arith

pub length_ends : (ss : List Step) → length (map end ss) ≡ length ss
length_ends [] = refl
length_ends (s ∷ ss) = ap suc (length_ends ss)
