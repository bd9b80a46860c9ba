-- Residues as digits to a base, the lowest first: little-endian bytes, or a single number. Assumes nothing.
use Rattle.std.specs.Prelude.{◌≡◌, ℕ, zero, suc, ◌+◌, ◌*◌, ◌/◌, ◌%◌, ◌^◌, ◌<◌, ◌≤◌, cond, ◌&&◌, List, [], ◌∷◌, length, Some, None, Option, ◌==◌, nat_lt, refl}
use Rattle.std.proofs.Common.{sym, ap, ◌∙◌, ⊎_elim, mod-lt, mod-eq_of_lt, zero-add, div-lt_iff_lt-mul, pow-suc, arith}
use Rattle.std.proofs.Math.Nat.{mod-add-div, div-eq_of_lt, pow-zero, add-mul-div_left, add-mul-mod_self_left}
use Rattle.std.proofs.lemmas.Bool.{lt-ltb, eq-eqb, ltb-true, eqb-true, and_parts, and_from, cond-true, cond-false, cases_Bool}
use Rattle.kinds.specs.Codec.{Codec, Within}
use Rattle.kinds.specs.Residues.{Residue, residue, same_residue}

-- the w lowest digits of n
abbrev pub digits : ℕ → ℕ → ℕ → List ℕ
digits base zero n = []
digits base (suc w) n = (n % base) ∷ digits base w (n / base)

-- the number that a row of digits writes
abbrev pub number : ℕ → List ℕ → ℕ
number base [] = 0
number base (d ∷ ds) = d + base * number base ds

pub length_digits : (base w n : ℕ) → length (digits base w n) ≡ w
length_digits base zero n = refl
length_digits base (suc w) n = ap suc (length_digits base w (n / base))

pub digits_within : (base w n : ℕ) → 0 < base → Within base (digits base w n)
digits_within base zero n some k h = absurd (omega arith)
digits_within base (suc w) n some zero h = mod-lt n some
digits_within base (suc w) n some (suc k) h = digits_within base w (n / base) some k (omega arith)

pub number_digits : (base w n : ℕ) → 0 < base → n < base ^ w → number base (digits base w n) ≡ n
number_digits base zero n some h = let one = pow-zero base in omega arith
number_digits base (suc w) n some h =
    let small : n < base ^ w * base = rw (← pow-suc) h in
    ap (λ x. n % base + base * x) (number_digits base w (n / base) some ((div-lt_iff_lt-mul some).1 small)) ∙ mod-add-div n base

pub digits_number : (base : ℕ) (row : List ℕ) → 0 < base → Within base row → digits base (length row) (number base row) ≡ row
digits_number base [] some h = refl
digits_number base (d ∷ ds) some h =
    let low : d < base = h 0 (omega arith) in
    let rest = digits_number base ds some (λ k lt. h (suc k) (omega arith)) in
    let first : (d + base * number base ds) % base ≡ d = add-mul-mod_self_left d base (number base ds) ∙ mod-eq_of_lt low in
    let next : (d + base * number base ds) / base ≡ number base ds = add-mul-div_left d (number base ds) some ∙ ap (λ x. x + number base ds) (div-eq_of_lt low) ∙ zero-add (number base ds) in
    rw (first, next, rest)

-- the residue that a row of w digits writes; a row of another length, or one that writes m or more, is none
abbrev pub residue_of : (base w m : ℕ) → 0 < m → List ℕ → Option (Residue m)
residue_of base w m more row =
    cond (length row == w && nat_lt (number base row) m) (Some (residue m more (number base row))) None

pub residue_of_digits : (base w m : ℕ) (more : 0 < m) → 0 < base → m ≤ base ^ w → (v : Residue m) → residue_of base w m more (digits base w v.number) ≡ Some v
residue_of_digits base w m more some wide v =
    let below = v.below in
    let same : number base (digits base w v.number) ≡ v.number = number_digits base w v.number some (omega arith) in
    let long = eq-eqb _ _ (length_digits base w v.number) in
    let small = lt-ltb _ m (rw same below) in
    cond-true _ _ _ (and_from _ _ long small) ∙ ap Some (same_residue _ v (ap (λ n. n % m) same ∙ mod-eq_of_lt below))

pub digits_of_residue : (base w m : ℕ) (more : 0 < m) → 0 < base → (row : List ℕ) (v : Residue m) → Within base row → residue_of base w m more row ≡ Some v → row ≡ digits base w v.number
digits_of_residue base w m more some row v within is =
    ⊎_elim
    (λ e.
    let long = eqb-true (length row) w (and_parts _ _ e).0 in
    let small = ltb-true (number base row) m (and_parts _ _ e).1 in
    let found : Some (residue m more (number base row)) ≡ Some v = sym (cond-true _ _ _ e) ∙ is in
    let at : residue m more (number base row) ≡ v = cc in
    let same : number base row ≡ v.number = sym (mod-eq_of_lt small) ∙ ap (λ (x : Residue m). x.number) at in
    sym (digits_number base row some within) ∙ (λ i. digits base (long i) (same i)))
    (λ e.
    let none : None ≡ Some v = sym (cond-false _ _ _ e) ∙ is in
    let apart : ◌≡◌ {A = ℕ} 0 1 = cc in
    absurd (omega arith))
    (cases_Bool (length row == w && nat_lt (number base row) m))

-- residues below m, as w digits to the base
abbrev pub placed : (base w m : ℕ) → 0 < base → 0 < m → m ≤ base ^ w → Codec base (Residue m)
placed base w m some more wide = record {
  size = w;
  write = λ v. digits base w v.number;
  read = residue_of base w m more;
  sized = λ v. length_digits base w v.number;
  fits = λ v. digits_within base w v.number some;
  back = residue_of_digits base w m more some wide;
  only = digits_of_residue base w m more some;
}
