-- Counting and picking below a bound, for any test.
use Rattle.std.proofs.Common.{◌≡◌, ℕ, zero, suc, ◌+◌, ◌<◌, ◌≤◌, Bool, true, false, cond, eqb, sym, refl, ap, ◌∙◌, ⊎_elim, arith}
use Rattle.std.proofs.lemmas.Bool.{cases_eq, cases_lt, cases_Bool, eq-eqb, ne_eqb}
use Rattle.links.specs.Forest.{pick, count}

abbrev pub bit : Bool → ℕ
bit b = cond b 1 0

pub bit_le : (b : Bool) → bit b ≤ 1
bit_le true = omega arith
bit_le false = omega arith

-- a test passed by just those that pass one of two others
pub count_sum : (p q r : ℕ → Bool) (n : ℕ) → ((i : ℕ) → i < n → bit (r i) ≡ bit (p i) + bit (q i))
    → count n r ≡ count n p + count n q
unfolding count
count_sum p q r zero h = refl
count_sum p q r (suc n) h =
    let ih = count_sum p q r n (λ i l. h i (omega arith)) in
    let e = h n (let z : n < suc n = omega arith in z) in
    omega arith

pub count_cong : (p q : ℕ → Bool) (n : ℕ) → ((i : ℕ) → i < n → p i ≡ q i) → count n p ≡ count n q
unfolding count
count_cong p q zero h = refl
count_cong p q (suc n) h =
    let ih = count_cong p q n (λ i l. h i (omega arith)) in
    let e = ap bit (h n (let z : n < suc n = omega arith in z)) in
    omega arith

pub count_le : (p : ℕ → Bool) (n : ℕ) → count n p ≤ n
unfolding count
count_le p zero = omega arith
count_le p (suc n) = let ih = count_le p n in let b = bit_le (p n) in omega arith

-- two tests that no number passes both
pub count_apart : (p q : ℕ → Bool) (n : ℕ) → ((i : ℕ) → i < n → bit (p i) + bit (q i) ≤ 1) → count n p + count n q ≤ n
unfolding count
count_apart p q zero h = omega arith
count_apart p q (suc n) h =
    let ih = count_apart p q n (λ i l. h i (omega arith)) in
    let e = h n (let z : n < suc n = omega arith in z) in
    omega arith

pub count_none : (p : ℕ → Bool) (n : ℕ) → ((i : ℕ) → i < n → p i ≡ false) → count n p ≡ 0
unfolding count
count_none p zero h = refl
count_none p (suc n) h =
    let ih = count_none p n (λ i l. h i (omega arith)) in
    let e = ap bit (h n (let z : n < suc n = omega arith in z)) in
    omega arith

-- just one number is i
pub count_one : (i n : ℕ) → i < n → count n (λ x. eqb x i) ≡ 1
unfolding count
count_one i zero l = absurd (omega arith)
count_one i (suc n) l =
    ⊎_elim
    (λ (e : n ≡ i).
    let b = ap bit (eq-eqb n i e) in
    let z = count_none (λ x. eqb x i) n (λ x h. ne_eqb x i (λ q. omega arith)) in
    omega arith)
    (λ (ne : n ≡ i → ⊥). let b = ap bit (ne_eqb n i ne) in let ih = count_one i n (omega arith) in omega arith)
    (cases_eq n i)

-- one that passes is counted
pub count_some : (p : ℕ → Bool) (i n : ℕ) → i < n → p i ≡ true → 0 < count n p
unfolding count
count_some p i zero l e = absurd (omega arith)
count_some p i (suc n) l e =
    ⊎_elim
    (λ (q : n ≡ i). let b = ap bit (ap p q ∙ e) in omega arith)
    (λ (ne : n ≡ i → ⊥). let ih = count_some p i n (omega arith) e in omega arith)
    (cases_eq n i)

-- one that does not pass leaves the count below the bound
pub count_short : (p : ℕ → Bool) (i n : ℕ) → i < n → p i ≡ false → count n p < n
unfolding count
count_short p i zero l e = absurd (omega arith)
count_short p i (suc n) l e =
    ⊎_elim
    (λ (q : n ≡ i). let b = ap bit (ap p q ∙ e) in let c = count_le p n in omega arith)
    (λ (ne : n ≡ i → ⊥). let ih = count_short p i n (omega arith) e in let b = bit_le (p n) in omega arith)
    (cases_eq n i)

pub pick_hit : (p : ℕ → Bool) (n : ℕ) → p n ≡ true → pick (suc n) p ≡ n
unfolding pick
pick_hit p n e = ap (λ b. cond b n (pick n p)) e

pub pick_miss : (p : ℕ → Bool) (n : ℕ) → p n ≡ false → pick (suc n) p ≡ pick n p
unfolding pick
pick_miss p n e = ap (λ b. cond b n (pick n p)) e

-- where just one number passes, that one is picked
pub pick_only : (p : ℕ → Bool) (i n : ℕ) → i < n → p i ≡ true → ((j : ℕ) → p j ≡ true → j ≡ i) → pick n p ≡ i
pick_only p i zero l e u = absurd (omega arith)
pick_only p i (suc n) l e u =
    ⊎_elim
    (λ (b : p n ≡ true). pick_hit p n b ∙ u n b)
    (λ (b : p n ≡ false).
    ⊎_elim
    (λ (h : i < n). pick_miss p n b ∙ pick_only p i n h e u)
    (λ (h : n ≤ i).
    let q : n ≡ i = omega arith in
    let z = ap bit (sym b ∙ (ap p q ∙ e)) in
    absurd (omega arith))
    (cases_lt i n))
    (cases_Bool (p n))

-- a pick from at least one lies below the bound
pub pick_below : (p : ℕ → Bool) (n : ℕ) → pick (suc n) p < suc n
unfolding pick
pick_below p zero =
    ⊎_elim
    (λ (b : p 0 ≡ true). let e = ap (λ b. cond b zero zero) b in omega arith)
    (λ (b : p 0 ≡ false). let e = ap (λ b. cond b zero zero) b in omega arith)
    (cases_Bool (p 0))
pick_below p (suc n) =
    let ih = pick_below p n in
    ⊎_elim
    (λ (b : p (suc n) ≡ true). let e = ap (λ b. cond b (suc n) (pick (suc n) p)) b in omega arith)
    (λ (b : p (suc n) ≡ false). let e = ap (λ b. cond b (suc n) (pick (suc n) p)) b in omega arith)
    (cases_Bool (p (suc n)))
