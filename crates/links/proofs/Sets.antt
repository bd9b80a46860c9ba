-- How large the sets of a forest are, join by join, and how many joins there can be.
use Rattle.std.proofs.Common.{◌≡◌, ℕ, zero, suc, ◌+◌, ◌<◌, ◌≤◌, eqb, ltb, sym, ap, ◌∙◌, ⊎_elim, arith}
use Rattle.std.proofs.lemmas.Bool.{cases_eq, cases_lt, eq-eqb, ne_eqb, lt-ltb, le-ltb}
use Rattle.links.specs.Forest.{leader, count, members}
use Rattle.links.proofs.History.{leader_zero, leader_moved, leader_stayed, leader_cong, Grown}
use Rattle.links.proofs.Counts.{bit, count_sum, count_cong, count_le, count_one, count_some, count_short, count_none, count_apart, bit_le}

-- histories that agree up to t have the same sets after t joins
pub members_cong : (u o u' o' : ℕ → ℕ) (n t v : ℕ) → ((s : ℕ) → s < t → u' s ≡ u s) → ((s : ℕ) → s < t → o' s ≡ o s)
    → members u' o' n t v ≡ members u o n t v
unfolding members
members_cong u o u' o' n t v eu eo =
    count_cong _ _ n (λ i l. ap (λ x. eqb x v) (leader_cong u o u' o' t i eu eo))

module _ (under over : ℕ → ℕ) (n t : ℕ) (apart : under t ≡ over t → ⊥) where
  -- the newest join's leader has the members of both sets
  pub members_joined : members under over n (suc t) (over t) ≡ members under over n t (under t) + members under over n t (over t)
  unfolding members
  members_joined = count_sum _ _ _ n at
    where
      at : (i : ℕ) → i < n → bit (eqb (leader under over (suc t) i) (over t))
          ≡ bit (eqb (leader under over t i) (under t)) + bit (eqb (leader under over t i) (over t))
      at i l =
          ⊎_elim
          (λ (e : leader under over t i ≡ under t).
          let a = ap bit (eq-eqb _ _ (leader_moved under over t i e)) in
          let b = ap bit (eq-eqb _ _ e) in
          let c = ap bit (ne_eqb (leader under over t i) (over t) (λ q. apart (sym e ∙ q))) in
          omega arith)
          (λ (ne : leader under over t i ≡ under t → ⊥).
          let a = ap (λ x. bit (eqb x (over t))) (leader_stayed under over t i ne) in
          let b = ap bit (ne_eqb (leader under over t i) (under t) ne) in
          omega arith)
          (cases_eq (leader under over t i) (under t))

  -- every other set stays as it was
  pub members_kept : (v : ℕ) → (v ≡ under t → ⊥) → (v ≡ over t → ⊥) → members under over n (suc t) v ≡ members under over n t v
  unfolding members
  members_kept v nu no' = count_cong _ _ n at
    where
      at : (i : ℕ) → i < n → eqb (leader under over (suc t) i) v ≡ eqb (leader under over t i) v
      at i l =
          ⊎_elim
          (λ (e : leader under over t i ≡ under t).
          ne_eqb _ _ (λ q. no' (sym q ∙ leader_moved under over t i e)) ∙ sym (ne_eqb _ _ (λ q. nu (sym q ∙ e))))
          (λ (ne : leader under over t i ≡ under t → ⊥). ap (λ x. eqb x v) (leader_stayed under over t i ne))
          (cases_eq (leader under over t i) (under t))

pub members_le : (under over : ℕ → ℕ) (n t v : ℕ) → members under over n t v ≤ n
unfolding members
members_le under over n t v = count_le _ n

-- before any join each boundary is a set of its own
pub members_one : (under over : ℕ → ℕ) (n v : ℕ) → v < n → members under over n 0 v ≡ 1
unfolding members
members_one under over n v l =
    count_cong _ _ n (λ i h. ap (λ x. eqb x v) (leader_zero under over i)) ∙ count_one v n l

-- a boundary is a member of its own set
pub members_some : (under over : ℕ → ℕ) (n t x v : ℕ) → x < n → leader under over t x ≡ v → 0 < members under over n t v
unfolding members
members_some under over n t x v l e = count_some _ x n l (eq-eqb _ _ e)

-- two sets have no more members than there are boundaries
pub members_two : (under over : ℕ → ℕ) (n t v w : ℕ) → (v ≡ w → ⊥) → members under over n t v + members under over n t w ≤ n
unfolding members
members_two under over n t v w ne = count_apart _ _ n at
  where
    at : (i : ℕ) → i < n → bit (eqb (leader under over t i) v) + bit (eqb (leader under over t i) w) ≤ 1
    at i l =
        ⊎_elim
        (λ (e : leader under over t i ≡ v).
        let a = ap bit (ne_eqb (leader under over t i) w (λ q. ne (sym e ∙ q))) in
        let b = bit_le (eqb (leader under over t i) v) in
        omega arith)
        (λ (nv : leader under over t i ≡ v → ⊥).
        let a = ap bit (ne_eqb (leader under over t i) v nv) in
        let b = bit_le (eqb (leader under over t i) w) in
        omega arith)
        (cases_eq (leader under over t i) v)

-- as many rows are hung as there were joins
pub hung_count : (parent number under : ℕ → ℕ) (k n t : ℕ) → Grown parent number under k → ((s : ℕ) → s < k → under s < n) → t ≤ k
    → count n (λ i. ltb (number i) t) ≡ t
hung_count parent number under k n zero g b h = count_none _ n (λ i l. le-ltb (number i) 0 (omega arith))
hung_count parent number under k n (suc t) g b h =
    let ih = hung_count parent number under k n t g b (omega arith) in
    let one = count_one (under t) n (b t h) in
    let s = count_sum (λ i. ltb (number i) t) (λ i. eqb i (under t)) (λ i. ltb (number i) (suc t)) n at in
    omega arith
  where
    at : (i : ℕ) → i < n → bit (ltb (number i) (suc t)) ≡ bit (ltb (number i) t) + bit (eqb i (under t))
    at i l =
        ⊎_elim
        (λ (e : i ≡ under t).
        let m = ap number e in
        let f = g.found t h in
        let a = ap bit (lt-ltb (number i) (suc t) (omega arith)) in
        let c = ap bit (le-ltb (number i) t (omega arith)) in
        let d = ap bit (eq-eqb i (under t) e) in
        omega arith)
        (λ (ne : i ≡ under t → ⊥).
        let d = ap bit (ne_eqb i (under t) ne) in
        ⊎_elim
        (λ (q : number i < t).
        let a = ap bit (lt-ltb (number i) (suc t) (omega arith)) in
        let c = ap bit (lt-ltb (number i) t q) in
        omega arith)
        (λ (q : t ≤ number i).
        let other : number i ≡ t → ⊥ = λ e. ne (sym (g.once i (omega arith)) ∙ ap under e) in
        let a = ap bit (le-ltb (number i) (suc t) (omega arith)) in
        let c = ap bit (le-ltb (number i) t q) in
        omega arith)
        (cases_lt (number i) t))
        (cases_eq i (under t))

-- with a leader left, there were fewer joins than boundaries
pub joins_few : (parent number under : ℕ → ℕ) (k n i : ℕ) → Grown parent number under k → ((s : ℕ) → s < k → under s < n)
    → i < n → k ≤ number i → k < n
joins_few parent number under k n i g b l h =
    let c = hung_count parent number under k n k g b (omega arith) in
    let s = count_short (λ i. ltb (number i) k) i n l (le-ltb (number i) k h) in
    omega arith
