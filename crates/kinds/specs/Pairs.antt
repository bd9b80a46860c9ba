-- Two rows one after the other: how a pair is written when each half has a codec. Assumes nothing.
use Rattle.std.specs.Prelude.{◌≡◌, ℕ, ◌+◌, ◌-◌, List, ◌++◌, length, take, drop, Some, None, Option, refl}
use Rattle.std.proofs.Common.{sym, ap, ◌∙◌, ⊎_elim, arith, length-append, length-take, length-drop, take-append-drop}
use Rattle.std.proofs.lemmas.List.{take_at, drop_at, get_or_append_left, get_or-append_right, get_or-take, get_or-drop}
use Rattle.std.proofs.lemmas.Bool.{cases_lt}
use Rattle.kinds.specs.Codec.{Codec, Within}

-- two values, where there are both
abbrev pub both : {U V : Type 0} → Option U → Option V → Option (U × V)
both None o = None
both (Some u) None = None
both (Some u) (Some v) = Some (u, v)

pub both_parts : {U V : Type 0} (o : Option U) (p : Option V) (u : U) (v : V) → both o p ≡ Some (u, v) → (o ≡ Some u) × (p ≡ Some v)
both_parts None p u v e = let z : ◌≡◌ {A = ℕ} 0 1 = cc in absurd (omega arith)
both_parts (Some x) None u v e = let z : ◌≡◌ {A = ℕ} 0 1 = cc in absurd (omega arith)
both_parts {U} {V} (Some x) (Some y) u v e =
    let same : ◌≡◌ {A = U × V} (x, y) (u, v) = cc in
    (ap (λ p. Some p.0) same, ap (λ p. Some p.1) same)

pub within_append : (limit : ℕ) (xs ys : List ℕ) → Within limit xs → Within limit ys → Within limit (xs ++ ys)
within_append limit xs ys hx hy k h =
    let long = length-append xs ys in
    ⊎_elim
    (λ inside. rw (get_or_append_left xs ys 0 k inside) (hx k inside))
    (λ past. rw (get_or-append_right xs ys (length xs) k 0 refl past) (hy (k - length xs) (omega arith)))
    (cases_lt k (length xs))

within_take : (limit n : ℕ) (xs : List ℕ) → Within limit xs → Within limit (take n xs)
within_take limit n xs hx k h =
    let long = length-take n xs in
    rw (get_or-take n xs k 0 (omega arith)) (hx k (omega arith))

within_drop : (limit n : ℕ) (xs : List ℕ) → Within limit xs → Within limit (drop n xs)
within_drop limit n xs hx k h =
    let long = length-drop n xs in
    rw (get_or-drop n xs k 0) (hx (n + k) (omega arith))

pub only_beside : {limit : ℕ} {U V : Type 0} (c : Codec limit U) (d : Codec limit V) (row : List ℕ) (x : U × V) → Within limit row → both (c.read (take c.size row)) (d.read (drop c.size row)) ≡ Some x → row ≡ c.write x.0 ++ d.write x.1
only_beside {limit} c d row x within is =
    let parts = both_parts _ _ x.0 x.1 is in
    let front = c.only _ x.0 (within_take limit c.size row within) parts.0 in
    let rest = d.only _ x.1 (within_drop limit c.size row within) parts.1 in
    sym (take-append-drop c.size row) ∙ (λ i. front i ++ rest i)

-- the first half's row, then the second's
abbrev pub beside : {limit : ℕ} {U V : Type 0} → Codec limit U → Codec limit V → Codec limit (U × V)
beside {limit} c d = record {
  size = c.size + d.size;
  write = λ x. c.write x.0 ++ d.write x.1;
  read = λ row. both (c.read (take c.size row)) (d.read (drop c.size row));
  sized = λ x. length-append (c.write x.0) (d.write x.1) ∙ (λ i. c.sized x.0 i + d.sized x.1 i);
  fits = λ x. within_append limit (c.write x.0) (d.write x.1) (c.fits x.0) (d.fits x.1);
  back = λ x.
      let front = take_at (c.write x.0) (d.write x.1) c.size (c.sized x.0) in
      let rest = drop_at (c.write x.0) (d.write x.1) c.size (c.sized x.0) in
      (λ i. both (c.read (front i)) (d.read (rest i))) ∙ (λ i. both (c.back x.0 i) (d.back x.1 i));
  only = only_beside c d;
}
