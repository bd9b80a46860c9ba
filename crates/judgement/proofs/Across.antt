-- The search across two sets finds the first protected pair, or there is none. Assumes nothing.
use Rattle.std.proofs.Common.{◌≡◌, ℕ, zero, suc, ◌+◌, ◌<◌, ◌≤◌, Bool, true, false, cond, eqb, ◌⊎◌, List, [], ◌∷◌, length, get_or, Some, None, Option, sym, refl, ◌∙◌, subst, inl, inr, arith}
use Rattle.std.proofs.lemmas.Bool.{cases_eq, cases_Bool, eq-eqb, ne_eqb, cond-true, cond-false, both_ways}
use Rattle.links.specs.Ranges.{Range}
use Rattle.std.specs.List.{find}
use Rattle.judgement.specs.Search.{places, with_low, pair_across}

-- the list holds x at i, its places counted from n on
abbrev pub Holds : ℕ → List ℕ → ℕ → ℕ → Type 0
Holds x [] n i = ⊥
Holds x (l ∷ ls) n i = ((n ≡ i) × (l ≡ x)) ⊎ Holds x ls (suc n) i

holds_from : (x : ℕ) (ls : List ℕ) (n i : ℕ) → Holds x ls n i → n ≤ i
holds_from x [] n i h = absurd h
holds_from x (l ∷ ls) n i (inl h) = omega (arith, h.0)
holds_from x (l ∷ ls) n i (inr h) = let le = holds_from x ls (suc n) i h in omega arith

pub getD_holds : (x : ℕ) (ls : List ℕ) (n k : ℕ) → k < length ls → get_or ls k 0 ≡ x → Holds x ls n (n + k)
getD_holds x [] n k h e = absurd (omega arith)
getD_holds x (l ∷ ls) n zero h e = inl (omega arith, e)
getD_holds x (l ∷ ls) n (suc k) h e =
    inr (subst (Holds x ls (suc n)) (let z : suc n + k ≡ n + suc k = omega arith in z) (getD_holds x ls (suc n) k (omega arith) e))

pub holds_getD : (x : ℕ) (ls : List ℕ) (n i : ℕ) → Holds x ls n i → (k : ℕ) × (i ≡ n + k) × (k < length ls) × (get_or ls k 0 ≡ x)
holds_getD x [] n i h = absurd h
holds_getD x (l ∷ ls) n i (inl h) = (0, (let e = h.0 in omega arith), omega arith, h.1)
holds_getD x (l ∷ ls) n i (inr h) =
    let k = holds_getD x ls (suc n) i h in
    (suc k.0, (let e = k.1 in omega arith), (let l = k.2 in omega arith), k.3)

-- what is found of the places that hold x: no yes, or the first yes
abbrev First : (ℕ → Bool) → ℕ → List ℕ → ℕ → Option ℕ → Type 0
First says x ls n None = (j : ℕ) → Holds x ls n j → says j ≡ false
First says x ls n (Some j) = Holds x ls n j × (says j ≡ true) × ((k : ℕ) → Holds x ls n k → says k ≡ true → j ≤ k)

first_lift : (says : ℕ → Bool) (x l : ℕ) (ls : List ℕ) (n : ℕ) (o : Option ℕ) → (l ≡ x → says n ≡ false) → First says x ls (suc n) o → First says x (l ∷ ls) n o
first_lift says x l ls n None never f = by
  where
    by : (j : ℕ) → Holds x (l ∷ ls) n j → says j ≡ false
    by j (inl h) = subst (λ m. says m ≡ false) h.0 (never h.1)
    by j (inr h) = f j h
first_lift says x l ls n (Some j) never f = (inr f.0, f.1, by)
  where
    by : (k : ℕ) → Holds x (l ∷ ls) n k → says k ≡ true → j ≤ k
    by k (inl h) e = absurd (both_ways (says k) (subst (λ m. says m ≡ false) h.0 (never h.1)) e)
    by k (inr h) e = f.2 k h e

first_found : (says : ℕ → Bool) (x : ℕ) (ls : List ℕ) (n : ℕ) → First says x ls n (find says (places x ls n))
unfolding places
first_found says x [] n = λ j h. absurd h
first_found says x (l ∷ ls) n =
    by (cases_eq l x) (cases_Bool (says n)) (first_found says x ls (suc n))
  where
    Goal : List ℕ → Type 0
    Goal js = First says x (l ∷ ls) n (find says js)

    by : (l ≡ x) ⊎ (l ≡ x → ⊥) → (says n ≡ true) ⊎ (says n ≡ false) → First says x ls (suc n) (find says (places x ls (suc n)))
        → Goal (cond (eqb l x) (n ∷ places x ls (suc n)) (places x ls (suc n)))
    by (inl e) (inl y) f =
        subst Goal (sym (cond-true (eqb l x) _ _ (eq-eqb l x e)))
        (subst (First says x (l ∷ ls) n) (sym (cond-true (says n) (Some n) (find says (places x ls (suc n))) y))
        (inl (refl, e), y, (λ k h _. holds_from x (l ∷ ls) n k h)))
    by (inl e) (inr o) f =
        subst Goal (sym (cond-true (eqb l x) _ _ (eq-eqb l x e)))
        (subst (First says x (l ∷ ls) n) (sym (cond-false (says n) (Some n) (find says (places x ls (suc n))) o))
        (first_lift says x l ls n (find says (places x ls (suc n))) (λ _. o) f))
    by (inr ne) _ f =
        subst Goal (sym (cond-false (eqb l x) _ _ (ne_eqb l x ne)))
        (first_lift says x l ls n (find says (places x ls (suc n))) (λ e. absurd (ne e)) f)

-- one of i and j is a place of x, the other a place of y
abbrev pub Across : ℕ → ℕ → List ℕ → ℕ → ℕ → ℕ → Type 0
Across x y ls n i j = (Holds x ls n i × Holds y ls n j) ⊎ (Holds y ls n i × Holds x ls n j)

-- what is found of the pairs across: no yes, or the pair with a yes that has the smallest low end, then the smallest high end
abbrev pub Pair : (ℕ → ℕ → Bool) → ℕ → ℕ → List ℕ → ℕ → Option Range → Type 0
Pair says x y ls n None = (i j : ℕ) → i < j → Across x y ls n i j → says i j ≡ false
Pair says x y ls n (Some p) =
    (p.low < p.high) × Across x y ls n p.low p.high × (says p.low p.high ≡ true)
    × ((i j : ℕ) → i < j → Across x y ls n i j → says i j ≡ true → (p.low < i) ⊎ ((p.low ≡ i) × (p.high ≤ j)))

across_swap : (x y : ℕ) (ls : List ℕ) (n i j : ℕ) → Across x y ls n i j → Across y x ls n i j
across_swap x y ls n i j (inl a) = inr a
across_swap x y ls n i j (inr a) = inl a

pair_swap : (says : ℕ → ℕ → Bool) (x y : ℕ) (ls : List ℕ) (n : ℕ) (o : Option Range) → Pair says x y ls n o → Pair says y x ls n o
pair_swap says x y ls n None p = λ i j l a. p i j l (across_swap y x ls n i j a)
pair_swap says x y ls n (Some r) p =
    (p.0, across_swap x y ls n r.low r.high p.1, p.2, (λ i j l a. p.3 i j l (across_swap y x ls n i j a)))

-- a pair across has its low end at the head, or both ends behind it
behind : (x y l : ℕ) (ls : List ℕ) (n i j : ℕ) → i < j → Across x y (l ∷ ls) n i j → (n ≡ i) ⊎ Across x y ls (suc n) i j
behind x y l ls n i j lt (inl (inl h, b)) = inl h.0
behind x y l ls n i j lt (inr (inl h, b)) = inl h.0
behind x y l ls n i j lt (inl (inr a, inr b)) = inr (inl (a, b))
behind x y l ls n i j lt (inr (inr a, inr b)) = inr (inr (a, b))
behind x y l ls n i j lt (inl (inr a, inl b)) = let le = holds_from x ls (suc n) i a in let e = b.0 in absurd (omega arith)
behind x y l ls n i j lt (inr (inr a, inl b)) = let le = holds_from y ls (suc n) i a in let e = b.0 in absurd (omega arith)

more : (x y l : ℕ) (ls : List ℕ) (n i j : ℕ) → Across x y ls (suc n) i j → Across x y (l ∷ ls) n i j
more x y l ls n i j (inl a) = inl (inr a.0, inr a.1)
more x y l ls n i j (inr a) = inr (inr a.0, inr a.1)

-- where the head's pairs have no yes
pair_lift : (says : ℕ → ℕ → Bool) (x y l : ℕ) (ls : List ℕ) (n : ℕ) (o : Option Range)
    → ((j : ℕ) → n < j → Across x y (l ∷ ls) n n j → says n j ≡ false) → Pair says x y ls (suc n) o → Pair says x y (l ∷ ls) n o
pair_lift says x y l ls n None never p = λ i j lt a. by i j lt a (behind x y l ls n i j lt a)
  where
    by : (i j : ℕ) → i < j → Across x y (l ∷ ls) n i j → (n ≡ i) ⊎ Across x y ls (suc n) i j → says i j ≡ false
    by i j lt a (inl e) = subst (λ m. m < j → Across x y (l ∷ ls) n m j → says m j ≡ false) e (never j) lt a
    by i j lt a (inr b) = p i j lt b
pair_lift says x y l ls n (Some r) never p =
    (p.0, more x y l ls n r.low r.high p.1, p.2, (λ i j lt a e. by i j lt a e (behind x y l ls n i j lt a)))
  where
    by : (i j : ℕ) → i < j → Across x y (l ∷ ls) n i j → says i j ≡ true → (n ≡ i) ⊎ Across x y ls (suc n) i j
        → (r.low < i) ⊎ ((r.low ≡ i) × (r.high ≤ j))
    by i j lt a t (inl e) =
        absurd (both_ways (says i j) (subst (λ m. m < j → Across x y (l ∷ ls) n m j → says m j ≡ false) e (never j) lt a) t)
    by i j lt a t (inr b) = p.3 i j lt b t

-- the head's pairs are with the places of the other set behind it
other : (x y l : ℕ) (ls : List ℕ) (n j : ℕ) → (x ≡ y → ⊥) → l ≡ x → n < j → Across x y (l ∷ ls) n n j → Holds y ls (suc n) j
other x y l ls n j ne e lt (inl (a, inr b)) = b
other x y l ls n j ne e lt (inl (a, inl b)) = let z = b.0 in absurd (omega arith)
other x y l ls n j ne e lt (inr (inl a, b)) = absurd (ne (sym e ∙ a.1))
other x y l ls n j ne e lt (inr (inr a, b)) = let le = holds_from y ls (suc n) n a in absurd (omega arith)

head_found : (says : ℕ → ℕ → Bool) (x y l : ℕ) (ls : List ℕ) (n : ℕ) (o : Option ℕ) (rest : Option Range) → (x ≡ y → ⊥) → l ≡ x
    → First (says n) y ls (suc n) o → Pair says x y ls (suc n) rest → Pair says x y (l ∷ ls) n (with_low n o rest)
head_found says x y l ls n None rest ne e f p = pair_lift says x y l ls n rest (λ j lt a. f j (other x y l ls n j ne e lt a)) p
head_found says x y l ls n (Some j) rest ne e f p =
    (holds_from y ls (suc n) j f.0, inl (inl (refl, e), inr f.0), f.1, (λ i k lt a t. by i k lt a t (behind x y l ls n i k lt a)))
  where
    by : (i k : ℕ) → i < k → Across x y (l ∷ ls) n i k → says i k ≡ true → (n ≡ i) ⊎ Across x y ls (suc n) i k → (n < i) ⊎ ((n ≡ i) × (j ≤ k))
    by i k lt a t (inl q) =
        inr (
          q,
          f.2 k (other x y l ls n k ne e (subst (λ m. m < k) (sym q) lt) (subst (λ m. Across x y (l ∷ ls) n m k) (sym q) a))
              (subst (λ m. says m k ≡ true) (sym q) t),
        )
    by i k lt a t (inr (inl b)) = inl (holds_from x ls (suc n) i b.0)
    by i k lt a t (inr (inr b)) = inl (holds_from y ls (suc n) i b.0)

-- the search finds the first pair
pub pair_found : (says : ℕ → ℕ → Bool) (x y : ℕ) → (x ≡ y → ⊥) → (ls : List ℕ) (n : ℕ) → Pair says x y ls n (pair_across says x y ls n)
unfolding pair_across
pair_found says x y ne [] n = λ i j lt a. none a
  where
    none : {i j : ℕ} → (⊥ × ⊥) ⊎ (⊥ × ⊥) → says i j ≡ false
    none (inl a) = absurd a.0
    none (inr a) = absurd a.0
pair_found says x y ne (l ∷ ls) n = by (cases_eq l x) (cases_eq l y) (pair_found says x y ne ls (suc n))
  where
    Rest : Option Range
    Rest = pair_across says x y ls (suc n)

    Beside : ℕ → Option Range
    Beside z = with_low n (find (says n) (places z ls (suc n))) Rest

    away : (j : ℕ) → (l ≡ x → ⊥) → (l ≡ y → ⊥) → n < j → Across x y (l ∷ ls) n n j → says n j ≡ false
    away j p q lt (inl (inl a, b)) = absurd (p a.1)
    away j p q lt (inl (inr a, b)) = let le = holds_from x ls (suc n) n a in absurd (omega arith)
    away j p q lt (inr (inl a, b)) = absurd (q a.1)
    away j p q lt (inr (inr a, b)) = let le = holds_from y ls (suc n) n a in absurd (omega arith)

    by : (l ≡ x) ⊎ (l ≡ x → ⊥) → (l ≡ y) ⊎ (l ≡ y → ⊥) → Pair says x y ls (suc n) Rest
        → Pair says x y (l ∷ ls) n (cond (eqb l x) (Beside y) (cond (eqb l y) (Beside x) Rest))
    by (inl e) _ p =
        subst (Pair says x y (l ∷ ls) n) (sym (cond-true (eqb l x) _ _ (eq-eqb l x e)))
        (head_found says x y l ls n (find (says n) (places y ls (suc n))) Rest ne e (first_found (says n) y ls (suc n)) p)
    by (inr a) (inl e) p =
        subst (Pair says x y (l ∷ ls) n)
        (sym (cond-false (eqb l x) (Beside y) _ (ne_eqb l x a) ∙ cond-true (eqb l y) (Beside x) Rest (eq-eqb l y e)))
        (pair_swap says y x (l ∷ ls) n (Beside x)
        (head_found says y x l ls n (find (says n) (places x ls (suc n))) Rest (λ z. ne (sym z)) e (first_found (says n) x ls (suc n)) (pair_swap says x y ls (suc n) Rest p)))
    by (inr a) (inr b) p =
        subst (Pair says x y (l ∷ ls) n)
        (sym (cond-false (eqb l x) (Beside y) _ (ne_eqb l x a) ∙ cond-false (eqb l y) (Beside x) Rest (ne_eqb l y b)))
        (pair_lift says x y l ls n Rest (λ j. away j a b) p)
