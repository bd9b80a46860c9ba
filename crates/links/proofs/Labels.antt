-- Linked boundaries: an equivalence, decided by labels, and what one more range adds. Assumes nothing.
use Rattle.std.proofs.Common.{◌≡◌, ℕ, Bool, true, false, cond, eqb, ◌⊎◌, List, [], ◌∷◌, sym, refl, ap, ◌∙◌, subst, inl, inr}
use Rattle.std.proofs.lemmas.Bool.{eqb-true, eq-eqb, ne_eqb, cases_eq, cond-true, cond-false}
use Rattle.links.specs.Ranges.{Range}
use Rattle.links.specs.Linked.{Listed, Ends, Linked}

pub linked_trans : {js : List Range} {i j k : ℕ} → Linked js i j → Linked js j k → Linked js i k
linked_trans Linked.here q = q
linked_trans (Linked.onward r m e p) q = Linked.onward r m e (linked_trans p q)

ends_swap : (r : Range) (i j : ℕ) → Ends r i j → Ends r j i
ends_swap r i j (inl e) = inr e
ends_swap r i j (inr e) = inl e

pub linked_sym : {js : List Range} {i j : ℕ} → Linked js i j → Linked js j i
linked_sym Linked.here = Linked.here
linked_sym (Linked.onward {i = i} {j = j} r m e p) = linked_trans (linked_sym p) (Linked.onward r m (ends_swap r i j e) Linked.here)

pub linked_more : {js : List Range} {i j : ℕ} (r : Range) → Linked js i j → Linked (r ∷ js) i j
linked_more r Linked.here = Linked.here
linked_more r (Linked.onward s m e p) = Linked.onward s (inr m) e (linked_more r p)

pub linked_same : {js : List Range} {i j : ℕ} → i ≡ j → Linked js i j
linked_same {js} {i} e = subst (λ (x : ℕ). Linked js i x) e Linked.here

-- the two ends of a listed range
pub linked_range : {js : List Range} (r : Range) → Listed r js → Linked js r.low r.high
linked_range r m = Linked.onward r m (inl (refl, refl)) Linked.here

-- the label t after the class of hi took the label lo
unfoldable pub relabel : ℕ → ℕ → ℕ → ℕ
relabel lo hi t = cond (eqb t hi) lo t

relabel_cases : (lo hi t : ℕ) → ((t ≡ hi) × (relabel lo hi t ≡ lo)) ⊎ ((t ≡ hi → ⊥) × (relabel lo hi t ≡ t))
unfolding relabel
relabel_cases lo hi t =
    elim (cases_eq t hi) [
      | inl e ↦ inl (e, cond-true (eqb t hi) lo t (eq-eqb t hi e))
      | inr n ↦ inr (n, cond-false (eqb t hi) lo t (ne_eqb t hi n))
    ]

relabel_ends : (lo hi : ℕ) → relabel lo hi lo ≡ relabel lo hi hi
relabel_ends lo hi = go (relabel_cases lo hi lo) (relabel_cases lo hi hi)
  where
    go : ((lo ≡ hi) × (relabel lo hi lo ≡ lo)) ⊎ ((lo ≡ hi → ⊥) × (relabel lo hi lo ≡ lo)) → ((hi ≡ hi) × (relabel lo hi hi ≡ lo)) ⊎ ((hi ≡ hi → ⊥) × (relabel lo hi hi ≡ hi)) → relabel lo hi lo ≡ relabel lo hi hi
    go (inl p) (inl q) = p.1 ∙ sym q.1
    go (inr p) (inl q) = p.1 ∙ sym q.1
    go (inl p) (inr q) = absurd (q.0 refl)
    go (inr p) (inr q) = absurd (q.0 refl)

-- equal for linked boundaries, and for them alone
unfoldable pub label : List Range → ℕ → ℕ
label [] i = i
label (r ∷ js) i = relabel (label js r.low) (label js r.high) (label js i)

label_listed : (js : List Range) (r : Range) → Listed r js → label js r.low ≡ label js r.high
unfolding label
label_listed [] r m = absurd m
label_listed (s ∷ js) r (inl e) = subst (λ (x : Range). label (s ∷ js) x.low ≡ label (s ∷ js) x.high) (sym e) (relabel_ends (label js s.low) (label js s.high))
label_listed (s ∷ js) r (inr m) = ap (relabel (label js s.low) (label js s.high)) (label_listed js r m)

pub labels_agree : {js : List Range} {i j : ℕ} → Linked js i j → label js i ≡ label js j
labels_agree Linked.here = refl
labels_agree {js} (Linked.onward r m (inl e) p) = ap (label js) (sym e.0) ∙ label_listed js r m ∙ ap (label js) e.1 ∙ labels_agree p
labels_agree {js} (Linked.onward r m (inr e) p) = ap (label js) (sym e.1) ∙ sym (label_listed js r m) ∙ ap (label js) e.0 ∙ labels_agree p

-- The ways in which r and the ranges before it link i and j: without r, or once over r, up or down.
abbrev pub Ways : List Range → Range → ℕ → ℕ → Type 0
Ways js r i j = Linked js i j ⊎ ((Linked js i r.low × Linked js r.high j) ⊎ (Linked js i r.high × Linked js r.low j))

pub from_ways : (js : List Range) (r : Range) (i j : ℕ) → Ways js r i j → Linked (r ∷ js) i j
from_ways js r i j (inl p) = linked_more r p
from_ways js r i j (inr (inl p)) = linked_trans (linked_more r p.0) (linked_trans (linked_range r (inl refl)) (linked_more r p.1))
from_ways js r i j (inr (inr p)) = linked_trans (linked_more r p.0) (linked_trans (linked_sym (linked_range r (inl refl))) (linked_more r p.1))

abbrev Same : List Range → ℕ → ℕ → Type 0
Same js i j = label js i ≡ label js j

label_ways : (js : List Range) (r : Range) (i j : ℕ) → Same (r ∷ js) i j → Same js i j ⊎ ((Same js i r.low × Same js r.high j) ⊎ (Same js i r.high × Same js r.low j))
unfolding label
label_ways js r i j e = go (relabel_cases (label js r.low) (label js r.high) (label js i)) (relabel_cases (label js r.low) (label js r.high) (label js j))
  where
    lo : ℕ
    lo = label js r.low

    hi : ℕ
    hi = label js r.high

    go : ((label js i ≡ label js r.high) × (relabel lo hi (label js i) ≡ label js r.low)) ⊎ ((label js i ≡ label js r.high → ⊥) × (relabel lo hi (label js i) ≡ label js i)) → ((label js j ≡ label js r.high) × (relabel lo hi (label js j) ≡ label js r.low)) ⊎ ((label js j ≡ label js r.high → ⊥) × (relabel lo hi (label js j) ≡ label js j)) → Same js i j ⊎ ((Same js i r.low × Same js r.high j) ⊎ (Same js i r.high × Same js r.low j))
    go (inl p) (inl q) = inl (p.0 ∙ sym q.0)
    go (inl p) (inr q) = inr (inr (p.0, sym p.1 ∙ e ∙ q.1))
    go (inr p) (inl q) = inr (inl (sym p.1 ∙ e ∙ q.1, sym q.0))
    go (inr p) (inr q) = inl (sym p.1 ∙ e ∙ q.1)

pub labels_link : (js : List Range) (i j : ℕ) → label js i ≡ label js j → Linked js i j
unfolding label
labels_link [] i j e = linked_same e
labels_link (r ∷ js) i j e =
    from_ways js r i j (elim (label_ways js r i j e) [
      | inl p ↦ inl (labels_link js i j p)
      | inr (inl p) ↦ inr (inl (labels_link js i r.low p.0, labels_link js r.high j p.1))
      | inr (inr p) ↦ inr (inr (labels_link js i r.high p.0, labels_link js r.low j p.1))
    ])

pub linked_ways : (js : List Range) (r : Range) (i j : ℕ) → Linked (r ∷ js) i j → Ways js r i j
linked_ways js r i j p =
    elim (label_ways js r i j (labels_agree p)) [
      | inl q ↦ inl (labels_link js i j q)
      | inr (inl q) ↦ inr (inl (labels_link js i r.low q.0, labels_link js r.high j q.1))
      | inr (inr q) ↦ inr (inr (labels_link js i r.high q.0, labels_link js r.low j q.1))
    ]

-- whether i and j are linked, as a test
unfoldable pub linked? : List Range → ℕ → ℕ → Bool
linked? js i j = eqb (label js i) (label js j)

pub linked_true : (js : List Range) (i j : ℕ) → Linked js i j → linked? js i j ≡ true
unfolding linked?
linked_true js i j p = eq-eqb (label js i) (label js j) (labels_agree p)

pub true_linked : (js : List Range) (i j : ℕ) → linked? js i j ≡ true → Linked js i j
unfolding linked?
true_linked js i j e = labels_link js i j (eqb-true (label js i) (label js j) e)

pub linked_false : (js : List Range) (i j : ℕ) → (Linked js i j → ⊥) → linked? js i j ≡ false
unfolding linked?
linked_false js i j n = ne_eqb (label js i) (label js j) (λ e. n (labels_link js i j e))

pub linked_cases : (js : List Range) (i j : ℕ) → Linked js i j ⊎ (Linked js i j → ⊥)
linked_cases js i j = elim (cases_eq (label js i) (label js j)) [ inl e ↦ inl (labels_link js i j e) | inr n ↦ inr (λ p. n (labels_agree p)) ]
