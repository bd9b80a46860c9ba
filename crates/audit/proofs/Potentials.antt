-- Readings made from a potential: what is alike between linked boundaries, and any sum between unlinked ones. Assumes nothing.
use Rattle.std.proofs.Common.{◌≡◌, ℕ, zero, suc, ◌+◌, ◌-◌, ◌≤◌, cond, List, sym, refl, ap, ◌∙◌, inl, inr, add-zero, add-suc, arith}
use Rattle.std.proofs.lemmas.Bool.{cond-true, cond-false}
use Rattle.links.specs.Ranges.{Range}
use Rattle.links.specs.Linked.{Listed, Linked}
use Rattle.links.proofs.Labels.{linked_trans, linked_sym, linked_range, linked?, linked_true, linked_false, linked_cases}
use Rattle.kinds.specs.Group.{Group}
use Rattle.stores.specs.Sums.{total, range_sum}
use Rattle.ledger.proofs.Sums.{Upward, zero_left, undo, cancel, potential, sum_potential}
use Rattle.audit.specs.Laws.{Alike}

module _ {V : Type 0} (G : Group V) where
  exchange : (a b c d : V) → G.plus (G.plus a b) (G.plus c d) ≡ G.plus (G.plus a c) (G.plus b d)
  exchange a b c d =
      G.assoc a b (G.plus c d)
      ∙ ap (G.plus a) (sym (G.assoc b c d) ∙ ap (λ (z : V). G.plus z d) (G.comm b c) ∙ G.assoc c b d)
      ∙ sym (G.assoc a c (G.plus b d))

  inverse_plus : (x y : V) → G.inverse (G.plus x y) ≡ G.plus (G.inverse x) (G.inverse y)
  inverse_plus x y =
      cancel G (G.plus x y) (G.inverse (G.plus x y)) (G.plus (G.inverse x) (G.inverse y))
      (G.cancels (G.plus x y) ∙ sym (exchange x y (G.inverse x) (G.inverse y) ∙ ap (λ (z : V). G.plus z (G.plus y (G.inverse y))) (G.cancels x) ∙ zero_left G (G.plus y (G.inverse y)) ∙ G.cancels y))

  -- x less y
  abbrev pub less : V → V → V
  less x y = G.plus x (G.inverse y)

  less_plus : (x y s t : V) → less (G.plus x s) (G.plus y t) ≡ G.plus (less x y) (less s t)
  less_plus x y s t = ap (G.plus (G.plus x s)) (inverse_plus y t) ∙ exchange x s (G.inverse y) (G.inverse t)

  less_zero : (s t : V) → G.zero ≡ less s t → t ≡ s
  less_zero s t e =
      sym (zero_left G t) ∙ ap (λ (z : V). G.plus z t) e ∙ G.assoc s (G.inverse t) t ∙ ap (G.plus s) (G.comm (G.inverse t) t ∙ G.cancels t) ∙ G.zero_right s

  rise : (a x s y : V) → G.plus (G.inverse (G.plus a x)) (G.plus (G.plus a s) y) ≡ G.plus s (less y x)
  rise a x s y =
      ap (λ (z : V). G.plus z (G.plus (G.plus a s) y)) (inverse_plus a x)
      ∙ exchange (G.inverse a) (G.inverse x) (G.plus a s) y
      ∙ ap (λ (z : V). G.plus z (G.plus (G.inverse x) y)) (undo G a s)
      ∙ ap (G.plus s) (G.comm (G.inverse x) y)

  -- readings with the given potential G, but for a constant
  abbrev pub readings : (ℕ → V) → ℕ → V
  readings p k = G.plus (G.inverse (p k)) (p (suc k))

  total_readings : (p : ℕ → V) (a c : ℕ) → total G (readings p) a c ≡ G.plus (G.inverse (p a)) (p (a + c))
  total_readings p a zero = sym (ap (λ (k : ℕ). G.plus (G.inverse (p a)) (p k)) (add-zero a) ∙ G.comm (G.inverse (p a)) (p a) ∙ G.cancels (p a))
  total_readings p a (suc c) =
      ap (λ (z : V). G.plus z (readings p (a + c))) (total_readings p a c)
      ∙ G.assoc (G.inverse (p a)) (p (a + c)) (readings p (a + c))
      ∙ ap (G.plus (G.inverse (p a))) (sym (G.assoc (p (a + c)) (G.inverse (p (a + c))) (p (suc (a + c)))) ∙ ap (λ (z : V). G.plus z (p (suc (a + c)))) (G.cancels (p (a + c))) ∙ zero_left G (p (suc (a + c))))
      ∙ ap (λ (k : ℕ). G.plus (G.inverse (p a)) (p k)) (sym (add-suc a c))

  pub sum_readings : (p : ℕ → V) (a b : ℕ) → a ≤ b → range_sum G (readings p) a b ≡ G.plus (G.inverse (p a)) (p b)
  sum_readings p a b h = total_readings p a (b - a) ∙ ap (λ (k : ℕ). G.plus (G.inverse (p a)) (p k)) (omega arith)

  -- by how much the potentials of two sets of readings differ at a boundary
  abbrev drift : (ℕ → V) → (ℕ → V) → ℕ → V
  drift r r' k = less (potential G r k) (potential G r' k)

  drift_sums : (r r' : ℕ → V) (a b : ℕ) → a ≤ b → drift r r' b ≡ G.plus (drift r r' a) (less (range_sum G r a b) (range_sum G r' a b))
  drift_sums r r' a b h = sym (ap (λ (z : V). less z (potential G r' b)) (sum_potential G r a b h)) ∙ sym (ap (less (G.plus (potential G r a) (range_sum G r a b))) (sum_potential G r' a b h)) ∙ less_plus (potential G r a) (potential G r' a) (range_sum G r a b) (range_sum G r' a b)

  alike_drift : (r r' : ℕ → V) (a b : ℕ) → a ≤ b → Alike G r r' a b → drift r r' a ≡ drift r r' b
  alike_drift r r' a b h e = sym (drift_sums r r' a b h ∙ ap (λ (z : V). G.plus (drift r r' a) (less z (range_sum G r' a b))) e ∙ ap (G.plus (drift r r' a)) (G.cancels (range_sum G r' a b)) ∙ G.zero_right (drift r r' a))

  drift_alike : (r r' : ℕ → V) (a b : ℕ) → a ≤ b → drift r r' a ≡ drift r r' b → Alike G r r' a b
  drift_alike r r' a b h e = sym (less_zero (range_sum G r a b) (range_sum G r' a b) (cancel G (drift r r' a) G.zero (less (range_sum G r a b) (range_sum G r' a b)) (G.zero_right (drift r r' a) ∙ e ∙ drift_sums r r' a b h)))

  linked_drift : (js : List Range) → Upward js → (r r' : ℕ → V) → ((x : Range) → Listed x js → Alike G r r' x.low x.high) → {i j : ℕ} → Linked js i j → drift r r' i ≡ drift r r' j
  linked_drift js u r r' alike Linked.here = refl
  linked_drift js u r r' alike (Linked.onward x m (inl e) p) =
      ap (drift r r') (sym e.0) ∙ alike_drift r r' x.low x.high (u x m) (alike x m) ∙ ap (drift r r') e.1 ∙ linked_drift js u r r' alike p
  linked_drift js u r r' alike (Linked.onward x m (inr e) p) =
      ap (drift r r') (sym e.1) ∙ sym (alike_drift r r' x.low x.high (u x m) (alike x m)) ∙ ap (drift r r') e.0 ∙ linked_drift js u r r' alike p

  -- readings alike in some ranges are alike between all boundaries that these link
  pub linked_alike : (js : List Range) → Upward js → (r r' : ℕ → V) → ((x : Range) → Listed x js → Alike G r r' x.low x.high) → (i j : ℕ) → i ≤ j → Linked js i j → Alike G r r' i j
  linked_alike js u r r' alike i j h p = drift_alike r r' i j h (linked_drift js u r r' alike p)

  -- the sum over (a, b) when the potential G of r is raised by x at a and by y at b
  raised : (r : ℕ → V) (up : ℕ → V) (a b : ℕ) → a ≤ b → range_sum G (readings (λ k. G.plus (potential G r k) (up k))) a b ≡ G.plus (range_sum G r a b) (less (up b) (up a))
  raised r up a b h =
      sum_readings (λ k. G.plus (potential G r k) (up k)) a b h
      ∙ ap (λ (z : V). G.plus (G.inverse (G.plus (potential G r a) (up a))) (G.plus z (up b))) (sym (sum_potential G r a b h))
      ∙ rise (potential G r a) (up a) (range_sum G r a b) (up b)

  -- the potential G is raised by v at the boundaries that js links with j, and nowhere else
  lift : List Range → ℕ → V → ℕ → V
  lift js j v k = cond (linked? js k j) v G.zero

  lift_in : (js : List Range) (j : ℕ) (v : V) (k : ℕ) → Linked js k j → lift js j v k ≡ v
  unfolding lift
  lift_in js j v k p = cond-true (linked? js k j) v G.zero (linked_true js k j p)

  lift_out : (js : List Range) (j : ℕ) (v : V) (k : ℕ) → (Linked js k j → ⊥) → lift js j v k ≡ G.zero
  unfolding lift
  lift_out js j v k n = cond-false (linked? js k j) v G.zero (linked_false js k j n)

  lift_same : (js : List Range) (j : ℕ) (v : V) (a b : ℕ) → Linked js a b → lift js j v a ≡ lift js j v b
  lift_same js j v a b p =
      elim (linked_cases js a j) [
        | inl q ↦ lift_in js j v a q ∙ sym (lift_in js j v b (linked_trans (linked_sym p) q))
        | inr n ↦ lift_out js j v a n ∙ sym (lift_out js j v b (λ q. n (linked_trans p q)))
      ]

  -- where i and j are not linked, some readings alike in all the ranges sum to any value over (i, j)
  pub any_sum : (js : List Range) → Upward js → (i j : ℕ) → i ≤ j → (Linked js i j → ⊥) → (r : ℕ → V) (v : V) → (r' : ℕ → V) × ((x : Range) → Listed x js → Alike G r r' x.low x.high) × (range_sum G r' i j ≡ v)
  any_sum js u i j h n r v =
      let w : V = G.plus (G.inverse (range_sum G r i j)) v in (
        readings (λ k. G.plus (potential G r k) (lift js j w k)),
        (λ x m. sym (raised r (lift js j w) x.low x.high (u x m)
            ∙ ap (λ (z : V). G.plus (range_sum G r x.low x.high) (less z (lift js j w x.low))) (sym (lift_same js j w x.low x.high (linked_range x m)))
            ∙ ap (G.plus (range_sum G r x.low x.high)) (G.cancels (lift js j w x.low))
            ∙ G.zero_right (range_sum G r x.low x.high))),
        raised r (lift js j w) i j h
            ∙ ap (λ (z : V). G.plus (range_sum G r i j) (less z (lift js j w i))) (lift_in js j w j Linked.here)
            ∙ ap (λ (z : V). G.plus (range_sum G r i j) (G.plus w (G.inverse z))) (lift_out js j w i n)
            ∙ sym (G.assoc (range_sum G r i j) w (G.inverse G.zero))
            ∙ ap (λ (z : V). G.plus z (G.inverse G.zero)) (sym (G.assoc (range_sum G r i j) (G.inverse (range_sum G r i j)) v) ∙ ap (λ (z : V). G.plus z v) (G.cancels (range_sum G r i j)) ∙ zero_left G v)
            ∙ ap (G.plus v) (sym (zero_left G (G.inverse G.zero)) ∙ G.cancels G.zero)
            ∙ G.zero_right v,
      )
