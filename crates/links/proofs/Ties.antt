-- Two boundaries have one leader exactly when the joined ranges link them.
use Rattle.std.proofs.Common.{◌≡◌, ℕ, zero, suc, ◌<◌, ◌≤◌, List, [], ◌∷◌, sym, refl, ap, ◌∙◌, subst, inl, ⊎_elim, arith}
use Rattle.std.proofs.lemmas.Bool.{cases_eq}
use Rattle.links.specs.Ranges.{Range}
use Rattle.links.specs.declared.step.Step.{Step}
use Rattle.links.specs.Linked.{Listed, Ends, Linked, here, onward}
use Rattle.links.specs.Chains.{range_of, start, end}
use Rattle.links.specs.Forest.{leader, ranges}
use Rattle.links.proofs.History.{leader_zero, leader_moved, leader_stayed, leader_same_suc}
use Rattle.links.proofs.Linking.{linked_more, linked_trans, linked_sym, linked_at, ends_of}

-- each join went over a step from the set of the one leader into the set of another
pub record Tied (under over : ℕ → ℕ) (out : ℕ → Step) (k : ℕ) : Type 0 where
  pub near : (t : ℕ) → t < k → leader under over t (start (out t)) ≡ under t
  pub far : (t : ℕ) → t < k → leader under over t (end (out t)) ≡ over t
  pub apart : (t : ℕ) → t < k → under t ≡ over t → ⊥

-- one leader before the newest join is one leader after it, and so are the leaders of its two ends
pub ends_same : (under over : ℕ → ℕ) (t : ℕ) (r : Range) (i j : ℕ) → Ends r i j
    → leader under over t r.low ≡ leader under over t r.high → leader under over t i ≡ leader under over t j
ends_same under over t r i j e h =
    ⊎_elim
    (λ (p : (r.low ≡ i) × (r.high ≡ j)). ap (leader under over t) (sym p.0) ∙ (h ∙ ap (leader under over t) p.1))
    (λ (p : (r.low ≡ j) × (r.high ≡ i)). ap (leader under over t) (sym p.1) ∙ (sym h ∙ ap (leader under over t) p.0))
    e

pub ends_same_back : (under over : ℕ → ℕ) (t : ℕ) (r : Range) (i j : ℕ) → Ends r i j
    → leader under over t i ≡ leader under over t j → leader under over t r.low ≡ leader under over t r.high
ends_same_back under over t r i j e h =
    ⊎_elim
    (λ (p : (r.low ≡ i) × (r.high ≡ j)). ap (leader under over t) p.0 ∙ (h ∙ ap (leader under over t) (sym p.1)))
    (λ (p : (r.low ≡ j) × (r.high ≡ i)). ap (leader under over t) p.0 ∙ (sym h ∙ ap (leader under over t) (sym p.1)))
    e

module _ (under over : ℕ → ℕ) (out : ℕ → Step) (k : ℕ) (g : Tied under over out k) where
  -- the newest join brings its two ends under one leader
  pub joins_ends : (t : ℕ) → t < k → leader under over (suc t) (start (out t)) ≡ leader under over (suc t) (end (out t))
  joins_ends t h =
      leader_moved under over t (start (out t)) (g.near t h)
      ∙ sym (leader_stayed under over t (end (out t)) (λ e. g.apart t h (sym e ∙ g.far t h)) ∙ g.far t h)

  pub listed_same : (t : ℕ) → t ≤ k → (r : Range) → Listed r (ranges out t)
      → leader under over t r.low ≡ leader under over t r.high
  unfolding ranges
  listed_same zero h r l = absurd l
  listed_same (suc t) h r l =
      ⊎_elim
      (λ (e : r ≡ range_of (out t)).
      subst (λ (q : Range). leader under over (suc t) q.low ≡ leader under over (suc t) q.high) (sym e)
      (ends_same_back under over (suc t) (range_of (out t)) (start (out t)) (end (out t)) (ends_of (out t)) (joins_ends t h)))
      (λ (l : Listed r (ranges out t)). leader_same_suc under over t _ _ (listed_same t (omega arith) r l))
      l

  pub linked_same : (t : ℕ) → t ≤ k → {i j : ℕ} → Linked (ranges out t) i j → leader under over t i ≡ leader under over t j
  linked_same t h here = refl
  linked_same t h (onward {i = i} {j = j} r l e rest) =
      ends_same under over t r i j e (listed_same t h r l) ∙ linked_same t h rest

  -- the ranges of the first t joins lead from each boundary to its leader
  pub to_leader : (t : ℕ) → t ≤ k → (x : ℕ) → Linked (ranges out t) x (leader under over t x)
  unfolding ranges
  to_leader zero h x = linked_at [] refl (sym (leader_zero under over x)) here
  to_leader (suc t) h x =
      let js : List Range = range_of (out t) ∷ ranges out t in
      let up : (y : ℕ) → Linked js y (leader under over t y) = λ y. linked_more (to_leader t (omega arith) y) in
      ⊎_elim
      (λ (e : leader under over t x ≡ under t).
      linked_at js refl (g.far t h ∙ sym (leader_moved under over t x e))
      (linked_trans (up x)
      (linked_trans (linked_at js (g.near t h ∙ sym e) refl (linked_sym (up (start (out t)))))
      (onward (range_of (out t)) (inl refl) (ends_of (out t)) (up (end (out t)))))))
      (λ (ne : leader under over t x ≡ under t → ⊥). linked_at js refl (sym (leader_stayed under over t x ne)) (up x))
      (cases_eq (leader under over t x) (under t))

  pub same_linked : (t : ℕ) → t ≤ k → (x y : ℕ) → leader under over t x ≡ leader under over t y → Linked (ranges out t) x y
  same_linked t h x y e =
      linked_trans (to_leader t h x) (linked_at (ranges out t) (sym e) refl (linked_sym (to_leader t h y)))
