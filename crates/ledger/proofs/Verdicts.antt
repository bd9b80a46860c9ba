-- A range has just one verdict, whatever the rule, where the joined ranges close no ring. Assumes nothing.
use Rattle.std.proofs.Common.{◌≡◌, ℕ, zero, suc, ◌<◌, ◌≤◌, max, Bool, true, false, cond, not, ◌&&◌, ltb, ◌⊎◌, List, [], ◌∷◌, Some, None, Option, refl, ap, ◌∙◌, subst, inl, inr, arith}
use Rattle.std.proofs.lemmas.Bool.{cases_lt, cases_Bool, both_ways, and_parts, and_from, ltb-true, lt-ltb, not-true, not_from_false, cond_both}
use Rattle.links.specs.Ranges.{Range}
use Rattle.links.specs.Linked.{Listed, Linked}
use Rattle.links.specs.Chains.{Chain}
use Rattle.links.specs.Rings.{Ringless}
use Rattle.links.proofs.Labels.{linked_sym, linked?, linked_true, linked_false, true_linked}
use Rattle.links.proofs.Paths.{released, with_new, path, chain_path, chain_only, earlier_path, earlier_only}
use Rattle.ledger.specs.Rules.{Rule}
use Rattle.judgement.specs.Judgement.{Newly, Named}
use Rattle.ledger.specs.Judgement.{Verdict, Judged}

-- the earlier find, or n where P holds of it
abbrev pub find_next : Option ℕ → Bool → ℕ → Option ℕ
find_next (Some k) b n = Some k
find_next None true n = Some n
find_next None false n = None

-- the least number below n with P
unfoldable pub find : (ℕ → Bool) → ℕ → Option ℕ
find P zero = None
find P (suc n) = find_next (find P n) (P n) n

-- what a search below n has found
data Found (P : ℕ → Bool) (n : ℕ) : Option ℕ → Type 0 where
  some : {k : ℕ} → P k ≡ true → ((m : ℕ) → m < k → P m ≡ false) → Found P n (Some k)
  none : ((m : ℕ) → m < n → P m ≡ false) → Found P n None

found_next : (P : ℕ → Bool) (n : ℕ) (x : Option ℕ) (b : Bool) → Found P n x → P n ≡ b → Found P (suc n) (find_next x b n)
found_next P n x b (Found.some y m) e = Found.some y m
found_next P n x true (Found.none m) e = Found.some e m
found_next P n x false (Found.none m) e = Found.none (λ k h. elim (cases_lt k n) [ inl lt ↦ m k lt | inr ge ↦ let same : n ≡ k = omega arith in subst (λ (z : ℕ). P z ≡ false) same e ])

found : (P : ℕ → Bool) (n : ℕ) → Found P n (find P n)
unfolding find
found P zero = Found.none (λ m h. absurd (omega arith))
found P (suc n) = found_next P n (find P n) (P n) (found P n) refl

abbrev pub is_some : Option ℕ → Bool
is_some (Some k) = true
is_some None = false

abbrev pub pair_with : ℕ → Option ℕ → Option Range
pair_with i (Some j) = Some (record { low = i; high = j })
pair_with i None = None

abbrev pub pair_of : (ℕ → ℕ → Bool) → ℕ → Option ℕ → Option Range
pair_of P n (Some i) = pair_with i (find (P i) n)
pair_of P n None = None

-- the pair with the smallest i, then the smallest j, below n
unfoldable pub find_pair : (ℕ → ℕ → Bool) → ℕ → Option Range
find_pair P n = pair_of P n (find (λ i. is_some (find (P i) n)) n)

-- what a search for a pair has found
data FoundPair (P : ℕ → ℕ → Bool) (n : ℕ) : Option Range → Type 0 where
  some : {p : Range} → P p.low p.high ≡ true → ((m : ℕ) → m < p.high → P p.low m ≡ false) → ((i m : ℕ) → i < p.low → m < n → P i m ≡ false) → FoundPair P n (Some p)
  none : ((i m : ℕ) → i < n → m < n → P i m ≡ false) → FoundPair P n None

row_clear : (P : ℕ → Bool) (n : ℕ) (x : Option ℕ) → Found P n x → is_some x ≡ false → (m : ℕ) → m < n → P m ≡ false
row_clear P n x (Found.some y l) e m h = absurd (both_ways true e refl)
row_clear P n x (Found.none l) e m h = l m h

found_row : (P : ℕ → ℕ → Bool) (n i : ℕ) (x : Option ℕ) → Found (P i) n x → is_some x ≡ true → ((k m : ℕ) → k < i → m < n → P k m ≡ false) → FoundPair P n (pair_with i x)
found_row P n i x (Found.some y l) e below = FoundPair.some y l below
found_row P n i x (Found.none l) e below = absurd (both_ways false refl e)

found_pair : (P : ℕ → ℕ → Bool) (n : ℕ) → FoundPair P n (find_pair P n)
unfolding find_pair
found_pair P n = by (find (λ i. is_some (find (P i) n)) n) (found (λ i. is_some (find (P i) n)) n)
  where
    by : (x : Option ℕ) → Found (λ i. is_some (find (P i) n)) n x → FoundPair P n (pair_of P n x)
    by x (Found.some {k = i} y l) = found_row P n i (find (P i) n) (found (P i) n) y (λ k m h below. row_clear (P k) n (find (P k) n) (found (P k) n) (l k h) m below)
    by x (Found.none l) = FoundPair.none (λ i m h below. row_clear (P i) n (find (P i) n) (found (P i) n) (l i h) m below)

-- an end of a listed range is at most this
unfoldable pub highest : List Range → ℕ
highest [] = 0
highest (r ∷ js) = max (max r.low r.high) (highest js)

highest_listed : (js : List Range) (r : Range) → Listed r js → (r.low ≤ highest js) × (r.high ≤ highest js)
unfolding highest
highest_listed [] r m = absurd m
highest_listed (s ∷ js) r (inl e) = let l : r.low ≡ s.low = ap (λ (x : Range). x.low) e in let h : r.high ≡ s.high = ap (λ (x : Range). x.high) e in (omega arith, omega arith)
highest_listed (s ∷ js) r (inr m) = let b = highest_listed js r m in (omega arith, omega arith)

linked_high : {js : List Range} {i j : ℕ} → Linked js i j → (i ≡ j) ⊎ (i ≤ highest js)
linked_high Linked.here = inl refl
linked_high {js} (Linked.onward r m (inl e) p) = let b = highest_listed js r m in inr (omega arith)
linked_high {js} (Linked.onward r m (inr e) p) = let b = highest_listed js r m in inr (omega arith)

-- whether (i, j) is newly linked, with a yes
unfoldable pub against : List Range → Rule → Range → ℕ → ℕ → Bool
against js rule q i j = ltb i j && (linked? (q ∷ js) i j && (not (linked? js i j) && rule.says i j))

abbrev pub hidden_or_free : List Range → Range → Option Range → Verdict
hidden_or_free js q (Some p) = Verdict.Hidden p (path (with_new q js) p.low p.high)
hidden_or_free js q None = Verdict.Free

-- the verdict on q, found by a search over the pairs up to the highest end
unfoldable pub verdict : List Range → Rule → Range → Verdict
verdict js rule q = cond (linked? js q.low q.high) (Verdict.Known (path (released js) q.low q.high)) (hidden_or_free js q (find_pair (against js rule q) (suc (highest (q ∷ js)))))

module _ (js : List Range) (rule : Rule) (q : Range) where
  against_true : (i j : ℕ) → against js rule q i j ≡ true → Newly js q i j × (rule.says i j ≡ true)
  unfolding against
  against_true i j e =
      let a = and_parts (ltb i j) (linked? (q ∷ js) i j && (not (linked? js i j) && rule.says i j)) e in
      let b = and_parts (linked? (q ∷ js) i j) (not (linked? js i j) && rule.says i j) a.1 in
      let c = and_parts (not (linked? js i j)) (rule.says i j) b.1 in
      (record { ordered = ltb-true i j a.0; linked = true_linked (q ∷ js) i j b.0; apart = λ l. both_ways (linked? js i j) (not-true (linked? js i j) c.0) (linked_true js i j l) }, c.1)

  against_from : (i j : ℕ) → Newly js q i j → rule.says i j ≡ true → against js rule q i j ≡ true
  unfolding against
  against_from i j w y =
      and_from (ltb i j) (linked? (q ∷ js) i j && (not (linked? js i j) && rule.says i j)) (lt-ltb i j w.ordered)
      (and_from (linked? (q ∷ js) i j) (not (linked? js i j) && rule.says i j) (linked_true (q ∷ js) i j w.linked)
      (and_from (not (linked? js i j)) (rule.says i j) (not_from_false (linked? js i j) (linked_false js i j w.apart)) y))

  newly_high : (i j : ℕ) → Newly js q i j → j < suc (highest (q ∷ js))
  newly_high i j w = elim (linked_high (linked_sym w.linked)) [ inl e ↦ absurd (omega (arith, w.ordered)) | inr h ↦ omega arith ]

  named : (p : Range) → FoundPair (against js rule q) (suc (highest (q ∷ js))) (Some p) → Named js rule.says q p
  named p (FoundPair.some y row rows) =
      record {
        newly = (against_true p.low p.high y).0;
        said = (against_true p.low p.high y).1;
        first = λ a b w z. elim (cases_lt a p.low) [
          | inl lt ↦ absurd (both_ways (against js rule q a b) (rows a b lt (newly_high a b w)) (against_from a b w z))
          | inr ge ↦ elim (cases_lt p.low a) [
            | inl more ↦ inl more
            | inr le ↦ inr (
              omega arith,
              elim (cases_lt b p.high) [
                | inl below ↦ (let same : a ≡ p.low = omega arith in absurd (both_ways (against js rule q p.low b) (row b below) (subst (λ (x : ℕ). against js rule q x b ≡ true) same (against_from a b w z))))
                | inr above ↦ above
              ],
            )
          ]
        ];
      }

  none_named : FoundPair (against js rule q) (suc (highest (q ∷ js))) None → (i j : ℕ) → Newly js q i j → rule.says i j ≡ false
  none_named (FoundPair.none all) i j w = elim (cases_Bool (rule.says i j)) [ inl y ↦ absurd (both_ways (against js rule q i j) (all i j (let h = newly_high i j w in omega (arith, w.ordered)) (newly_high i j w)) (against_from i j w y)) | inr n ↦ n ]

  pub verdict_judged : Ringless js → Judged js rule q (verdict js rule q)
  unfolding verdict
  verdict_judged ring = cond_both (linked? js q.low q.high) (Verdict.Known (path (released js) q.low q.high)) (hidden_or_free js q (find_pair (against js rule q) (suc (highest (q ∷ js))))) (Judged js rule q)
      (λ e. let l = true_linked js q.low q.high e in let c = earlier_path js q ring q.low q.high l in Judged.known l c.0 c.1)
      (λ e. by (λ l. both_ways (linked? js q.low q.high) e (linked_true js q.low q.high l)) (find_pair (against js rule q) (suc (highest (q ∷ js)))) (found_pair (against js rule q) (suc (highest (q ∷ js)))))
    where
      by : (Linked js q.low q.high → ⊥) → (x : Option Range) → FoundPair (against js rule q) (suc (highest (q ∷ js))) x → Judged js rule q (hidden_or_free js q x)
      by n (Some p) f = let m = named p f in Judged.hidden n m (chain_path js q (n, ring) p.low p.high m.newly.linked)
      by n None f = Judged.free n (none_named f)

  same_pair : (p p' : Range) → Named js rule.says q p → Named js rule.says q p' → p ≡ p'
  same_pair p p' n n' =
      let a = n.first p'.low p'.high n'.newly n'.said in
      let b = n'.first p.low p.high n.newly n.said in
      let l : p.low ≡ p'.low = omega arith in
      let h : p.high ≡ p'.high = omega arith in
      λ i. record { low = l i; high = h i }

  pub verdict_only : Ringless js → (v v' : Verdict) → Judged js rule q v → Judged js rule q v' → v ≡ v'
  verdict_only f v v' (Judged.known {ss = ss} l c e) (Judged.known {ss = zs} l' c' e') = ap Verdict.Known (earlier_only js q f q.low q.high ss zs c e c' e')
  verdict_only f v v' (Judged.known l c e) (Judged.hidden n m c') = absurd (n l)
  verdict_only f v v' (Judged.known l c e) (Judged.free n w) = absurd (n l)
  verdict_only f v v' (Judged.hidden n m c) (Judged.known l c' e) = absurd (n l)
  verdict_only f v v' (Judged.hidden {p = p} {ss = ss} n m c) (Judged.hidden {p = p'} {ss = zs} n' m' c') =
      let e : p ≡ p' = same_pair p p' m m' in
      ap (λ (x : Range). Verdict.Hidden x ss) e ∙ ap (Verdict.Hidden p') (chain_only js q (n, f) p'.low p'.high ss zs (subst (λ (x : Range). Chain js q x.low x.high ss) e c) c')
  verdict_only f v v' (Judged.hidden {p = p} n m c) (Judged.free n' w) = absurd (both_ways (rule.says p.low p.high) (w p.low p.high m.newly) m.said)
  verdict_only f v v' (Judged.free n w) (Judged.known l c e) = absurd (n l)
  verdict_only f v v' (Judged.free n w) (Judged.hidden {p = p} n' m c) = absurd (both_ways (rule.says p.low p.high) (w p.low p.high m.newly) m.said)
  verdict_only f v v' (Judged.free n w) (Judged.free n' w') = refl
