-- Held numbers and the residues that they mean, and rows of one, two and four places. Assumes nothing.
use Rattle.std.specs.Prelude.{◌≡◌, ℕ, ◌+◌, ◌*◌, ◌%◌, ◌<◌, ◌≤◌, Bool, true, false, cond, ◌&&◌, List, [], ◌∷◌, length, Some, None, Decides, ◌==◌, nat_lt, slice_index, refl}
use Rattle.std.proofs.Common.{sym, ap, ◌∙◌, mod-eq_of_lt, mul-zero, mul_comm, arith, lit<}
use Rattle.std.proofs.Math.Nat.{mod-mod, add-mod}
use Rattle.std.specs.Option.{option_map}
use Rattle.std.proofs.lemmas.Bool.{eq-eqb, lt-ltb, le-ltb, cond-true, cond-false}
use Rattle.std.proofs.lemmas.Bool.Decides.{Decides-eqb, Decides-and, Decides-like}
use Rattle.kinds.specs.Digits.{number, residue_of}
use Rattle.kinds.specs.Kinds.{DialValue, dials_meaning, dials_eq}
use Rattle.kinds.specs.declared.dials.Dials.{Dials}
use Rattle.kinds.specs.Pairs.{both}
use Rattle.kinds.specs.Residues.{Residue, residue, same_residue}

module _ (m : ℕ) (some : 0 < m) where
  pub residue_self : (v : Residue m) → residue m some v.number ≡ v
  residue_self v = same_residue _ v (mod-eq_of_lt v.below)

  pub sum_means : (a b : ℕ) → residue m some ((a + b) % m) ≡ residue m some (a % m + b % m)
  sum_means a b = same_residue _ _ (mod-mod (a + b) m ∙ add-mod a b m)

  pub remainder_means : (n : ℕ) → residue m some (n % m) ≡ residue m some n
  remainder_means n = same_residue _ _ (mod-mod n m)

  -- two numbers mean the same residue just where their remainders are equal
  pub same_means : (r : Bool) (a b : ℕ) → Decides r (a % m ≡ b % m) → Decides r (residue m some a ≡ residue m some b)
  same_means r a b = Decides-like r (same_residue (residue m some a) (residue m some b)) (ap (λ (x : Residue m). x.number))

  -- equal remainders are one residue, and no others are
  pub residues_equal : (a b : ℕ) → Decides (a % m == b % m) (residue m some a ≡ residue m some b)
  residues_equal a b = same_means _ a b (Decides-eqb (a % m) (b % m))

  -- a row of the right length is judged by its number alone
  pub residue_of_row : (base w : ℕ) (row : List ℕ) (n : ℕ) → length row ≡ w → number base row ≡ n → residue_of base w m some row ≡ cond (nat_lt n m) (Some (residue m some n)) None
  residue_of_row base w row n long is = rw (eq-eqb (length row) w long, is)

  pub read_inside : (base w : ℕ) (row : List ℕ) (n : ℕ) → length row ≡ w → number base row ≡ n → n < m → Some (residue m some n) ≡ residue_of base w m some row
  read_inside base w row n long is small = sym (residue_of_row base w row n long is ∙ cond-true _ _ _ (lt-ltb n m small))

  pub read_beyond : (base w : ℕ) (row : List ℕ) (n : ℕ) → length row ≡ w → number base row ≡ n → m ≤ n → None ≡ residue_of base w m some row
  read_beyond base w row n long is large = sym (residue_of_row base w row n long is ∙ cond-false _ _ _ (le-ltb n m large))

pub number_one : (base : ℕ) (row : List ℕ) → length row ≡ 1 → number base row ≡ slice_index row 0
number_one base [] h = absurd (omega arith)
number_one base (a ∷ []) h = let none = mul-zero base in omega arith
number_one base (a ∷ b ∷ row) h = absurd (omega arith)

pub number_two : (base : ℕ) (row : List ℕ) → length row ≡ 2 → number base row ≡ slice_index row 0 + slice_index row 1 * base
number_two base [] h = absurd (omega arith)
number_two base (a ∷ row) h =
    ap (λ n. a + base * n) (number_one base row (omega arith)) ∙ ap (λ n. a + n) (mul_comm base (slice_index row 0))

pub number_four : (row : List ℕ) → length row ≡ 4 → number 256 row ≡ slice_index row 0 + slice_index row 1 * 256 + slice_index row 2 * 65536 + slice_index row 3 * 16777216
number_four [] h = absurd (omega arith)
number_four (a ∷ []) h = absurd (omega arith)
number_four (a ∷ b ∷ row) h =
    let rest = number_two 256 row (omega arith) in
    omega arith

-- dials are equal just where both numbers leave the same remainders
pub dials_equal : (a b : Dials) → Decides (dials_eq a b) (dials_meaning a ≡ dials_meaning b)
dials_equal a b =
    Decides-like
    _
    (λ e i. (e.0 i, e.1 i))
    (λ e. (ap (λ (v : DialValue). v.0) e, ap (λ (v : DialValue). v.1) e))
    (Decides-and _ _ (residues_equal 10000 (lit< tt) a.litres b.litres) (residues_equal 1000 (lit< tt) a.starts b.starts))

pub both_judged : {H U V : Type 0} (f : H → U × V) (t u : Bool) (x : H) → option_map f (cond (t && u) (Some x) None) ≡ both (cond t (Some (f x).0) None) (cond u (Some (f x).1) None)
both_judged f true true x = refl
both_judged f true false x = refl
both_judged f false u x = refl

-- two rows of w places are read as a pair of dials just where each number lies within its end
pub dials_read : (base w : ℕ) (front back : List ℕ) (l s : ℕ) → length front ≡ w → length back ≡ w → number base front ≡ l → number base back ≡ s → option_map dials_meaning (cond (nat_lt l 10000 && nat_lt s 1000) (Some (record { litres = l; starts = s })) None) ≡ both (residue_of base w 10000 (lit< tt) front) (residue_of base w 1000 (lit< tt) back)
dials_read base w front back l s long-front long-back is-l is-s =
    both_judged dials_meaning (nat_lt l 10000) (nat_lt s 1000) (record { litres = l; starts = s })
    ∙ sym (λ i. both (residue_of_row 10000 (lit< tt) base w front l long-front is-l i) (residue_of_row 1000 (lit< tt) base w back s long-back is-s i))
