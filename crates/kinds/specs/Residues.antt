-- The numbers below m: a group by addition modulo m, and, of k bits, by exclusive or. Assumes nothing.
use Rattle.std.specs.Prelude.{◌≡◌, ℕ, ◌+◌, ◌-◌, ◌%◌, ◌^◌, ◌<◌, bit_xor}
use Rattle.std.proofs.Common.{sym, ap, ◌∙◌, add_assoc, add_comm, add-zero, mod-lt, mod-eq_of_lt, arith}
use mathlib.Core.HLevel.{is_prop→PathP}
use Rattle.std.proofs.Math.Bridge.{le_prop}
use Rattle.std.proofs.Math.Nat.{zero-mod, mod-add-mod, add-mod-mod, mod_self}
use Rattle.std.proofs.lemmas.Nat.{xor_lt, xor_comm}
use Rattle.std.specs.Int.Bits.{xor_assoc, xor_zero_r, xor_self}
use Rattle.kinds.specs.Group.{Group}

-- a number below m
pub record Residue (m : ℕ) : Type 0 where
  pub number : ℕ
  pub below : number < m

-- residues of one number are the same
pub same_residue : {m : ℕ} (x y : Residue m) → x.number ≡ y.number → x ≡ y
same_residue {m} x y e = λ i. record {
  number = e i;
  below = is_prop→PathP (λ j. e j < m) (λ j. le_prop) x.below y.below i;
}

-- what n leaves when divided by m
abbrev pub residue : (m : ℕ) → 0 < m → ℕ → Residue m
residue m some n = record { number = n % m; below = mod-lt n some }

-- addition modulo m
abbrev pub modular : (m : ℕ) → 0 < m → 1 < m → Group (Residue m)
modular m some more =
    record {
      zero = residue m some 0;
      plus = λ x y. residue m some (x.number + y.number);
      inverse = λ x. residue m some (m - x.number);
      unit = residue m some 1;
      assoc = λ x y z. same_residue _ _ (mod-add-mod (x.number + y.number) m z.number ∙ ap (λ n. n % m) (add_assoc x.number y.number z.number) ∙ sym (add-mod-mod x.number (y.number + z.number) m));
      comm = λ x y. same_residue _ _ (ap (λ n. n % m) (add_comm x.number y.number));
      zero_right = λ x. same_residue _ _ (add-mod-mod x.number 0 m ∙ ap (λ n. n % m) (add-zero x.number) ∙ mod-eq_of_lt x.below);
      cancels = λ x.
          let below = x.below in
          let whole : x.number + (m - x.number) ≡ m = omega arith in
          same_residue _ _ (add-mod-mod x.number (m - x.number) m ∙ ap (λ n. n % m) whole ∙ mod_self m ∙ sym (zero-mod m));
      proper = λ e.
          let apart : 1 ≡ 0 = sym (mod-eq_of_lt more) ∙ ap (λ (x : Residue m). x.number) e ∙ zero-mod m in
          omega arith;
    }

-- exclusive or of the masks of k bits
abbrev pub masks : (k : ℕ) → 0 < 2 ^ k → 1 < 2 ^ k → Group (Residue (2 ^ k))
masks k some more = record {
  zero = record { number = 0; below = some };
  plus = λ x y. record { number = bit_xor x.number y.number; below = xor_lt k x.number y.number x.below y.below };
  inverse = λ x. x;
  unit = record { number = 1; below = more };
  assoc = λ x y z. same_residue _ _ (xor_assoc x.number y.number z.number);
  comm = λ x y. same_residue _ _ (xor_comm x.number y.number);
  zero_right = λ x. same_residue _ _ (xor_zero_r x.number);
  cancels = λ x. same_residue _ _ (xor_self x.number);
  proper = λ e.
      let apart : 1 ≡ 0 = ap (λ (x : Residue (2 ^ k)). x.number) e in
      omega arith;
}
