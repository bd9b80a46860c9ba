-- Distances in a forest that grew by joins: join by join, and one step up.
use Rattle.std.proofs.Common.{◌≡◌, ℕ, zero, suc, ◌<◌, ◌≤◌, cond, eqb, sym, refl, ap, ◌∙◌, ⊎_elim, arith}
use Rattle.std.proofs.lemmas.Bool.{cases_eq, cases_lt, eq-eqb, ne_eqb}
use Rattle.kinds.specs.Group.{Group}
use Rattle.links.specs.Forest.{leader}
use Rattle.links.proofs.History.{leader_cong, Grown, stays, climbs}
use Rattle.distances.specs.Distance.{minus, distance_after}
use Rattle.distances.proofs.Groups.{swap, minus_shift}

module _ {V : Type 0} (G : Group V) (under over : ℕ → ℕ) (entry : ℕ → V) (t x : ℕ) where
  pub far_moved : leader under over t x ≡ under t
      → distance_after G under over entry (suc t) x ≡ G.plus (entry (under t)) (distance_after G under over entry t x)
  unfolding distance_after
  far_moved e = rw (eq-eqb _ _ e) refl

  pub far_stayed : (leader under over t x ≡ under t → ⊥)
      → distance_after G under over entry (suc t) x ≡ distance_after G under over entry t x
  unfolding distance_after
  far_stayed ne = rw (ne_eqb _ _ ne) refl

-- the next join moves the boundaries of one set alike
pub far_alike : {V : Type 0} (G : Group V) (under over : ℕ → ℕ) (entry : ℕ → V) (t x y : ℕ)
    → leader under over t x ≡ leader under over t y
    → minus G (distance_after G under over entry (suc t) x) (distance_after G under over entry (suc t) y)
    ≡ minus G (distance_after G under over entry t x) (distance_after G under over entry t y)
far_alike G under over entry t x y e =
    let D = distance_after G under over entry in
    ⊎_elim
    (λ (h : leader under over t x ≡ under t).
    (λ i. minus G (far_moved G under over entry t x h i) (far_moved G under over entry t y (sym e ∙ h) i))
    ∙ minus_shift G (entry (under t)) (D t x) (D t y))
    (λ (n : leader under over t x ≡ under t → ⊥).
    λ i. minus G (far_stayed G under over entry t x n i) (far_stayed G under over entry t y (λ h. n (e ∙ h)) i))
    (cases_eq (leader under over t x) (under t))

-- histories and tables that agree up to t have the same distances after t joins
pub far_cong : {V : Type 0} (G : Group V) (u o u' o' : ℕ → ℕ) (f f' : ℕ → V) (t x : ℕ) → ((s : ℕ) → s < t → u' s ≡ u s)
    → ((s : ℕ) → s < t → o' s ≡ o s) → ((s : ℕ) → s < t → f' (u s) ≡ f (u s))
    → distance_after G u' o' f' t x ≡ distance_after G u o f t x
unfolding distance_after
far_cong G u o u' o' f f' zero x eu eo ef = refl
far_cong G u o u' o' f f' (suc t) x eu eo ef =
    let l : t < suc t = omega arith in
    let ih = far_cong G u o u' o' f f' t x (λ s h. eu s (omega arith)) (λ s h. eo s (omega arith)) (λ s h. ef s (omega arith)) in
    let lead = leader_cong u o u' o' t x (λ s h. eu s (omega arith)) (λ s h. eo s (omega arith)) in
    let here = ap f' (eu t l) ∙ ef t l in
    λ i. cond (eqb (lead i) (eu t l i)) (G.plus (here i) (ih i)) (ih i)

module _ {V : Type 0} (G : Group V) (entry : ℕ → V) (parent number under : ℕ → ℕ) (k : ℕ) (g : Grown parent number under k) where
  -- a boundary is at no distance until its row is hung
  pub far_none : (t x : ℕ) → t ≤ k → t ≤ number x → distance_after G under (λ s. parent (under s)) entry t x ≡ G.zero
  unfolding distance_after
  far_none zero x h l = refl
  far_none (suc t) x h l =
      far_stayed G under _ entry t x
      (λ e.
      let own = stays parent number under k g t x (omega arith) (omega arith) in
      let n = g.found t (omega arith) in
      let m = ap number (sym own ∙ e) in
      omega arith)
      ∙ far_none t x (omega arith) (omega arith)

  -- a hung boundary is its entry further than its parent
  pub far_up : (t x : ℕ) → t ≤ k → number x < t
      → distance_after G under (λ s. parent (under s)) entry t x
      ≡ G.plus (entry x) (distance_after G under (λ s. parent (under s)) entry t (parent x))
  far_up zero x h l = absurd (omega arith)
  far_up (suc t) x h l =
      let over : ℕ → ℕ = λ s. parent (under s) in
      let D = distance_after G under (λ s. parent (under s)) entry in
      ⊎_elim
      (λ (b : number x < t).
      let ih = far_up t x (omega arith) b in
      let up = climbs parent number under k g t x (omega arith) b in
      ⊎_elim
      (λ (m : leader under (λ s. parent (under s)) t x ≡ under t).
      far_moved G under (λ s. parent (under s)) entry t x m
      ∙ (ap (λ v. G.plus (entry (under t)) v) ih
      ∙ (swap G (entry (under t)) (entry x) (D t (parent x))
      ∙ ap (λ v. G.plus (entry x) v) (sym (far_moved G under (λ s. parent (under s)) entry t (parent x) (sym up ∙ m))))))
      (λ (n : leader under (λ s. parent (under s)) t x ≡ under t → ⊥).
      far_stayed G under (λ s. parent (under s)) entry t x n
      ∙ (ih
      ∙ ap (λ v. G.plus (entry x) v) (sym (far_stayed G under (λ s. parent (under s)) entry t (parent x) (λ m. n (up ∙ m))))))
      (cases_eq (leader under (λ s. parent (under s)) t x) (under t)))
      (λ (b : t ≤ number x).
      let q : number x ≡ t = omega arith in
      let own : under t ≡ x = ap under (sym q) ∙ g.once x (omega arith) in
      let r = g.rising x (omega arith) in
      far_moved G under (λ s. parent (under s)) entry t x (stays parent number under k g t x (omega arith) b ∙ sym own)
      ∙ (λ i. G.plus (entry (own i)) ((far_none t x (omega arith) b ∙ sym (far_none (suc t) (parent x) h (omega arith))) i)))
      (cases_lt (number x) t)
