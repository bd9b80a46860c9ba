-- What the leaders of a forest are, join by join, from the rows' parents and join numbers.
use Rattle.std.proofs.Common.{◌≡◌, ℕ, zero, suc, ◌<◌, ◌≤◌, cond, eqb, sym, refl, ap, ◌∙◌, subst, ⊎_elim, arith}
use Rattle.std.proofs.lemmas.Bool.{cases_eq, cases_lt, eq-eqb, ne_eqb}
use Rattle.links.specs.Forest.{leader}

-- one join: who the leader was decides who it is
pub leader_moved : (under over : ℕ → ℕ) (t x : ℕ) → leader under over t x ≡ under t → leader under over (suc t) x ≡ over t
unfolding leader
leader_moved under over t x e = rw (eq-eqb _ _ e) refl

pub leader_stayed : (under over : ℕ → ℕ) (t x : ℕ) → (leader under over t x ≡ under t → ⊥)
    → leader under over (suc t) x ≡ leader under over t x
unfolding leader
leader_stayed under over t x ne = rw (ne_eqb _ _ ne) refl

pub leader_zero : (under over : ℕ → ℕ) (x : ℕ) → leader under over 0 x ≡ x
unfolding leader
leader_zero under over x = refl

-- boundaries of one set stay in one set
pub leader_same_suc : (under over : ℕ → ℕ) (t x y : ℕ) → leader under over t x ≡ leader under over t y
    → leader under over (suc t) x ≡ leader under over (suc t) y
unfolding leader
leader_same_suc under over t x y e = ap (λ v. cond (eqb v (under t)) (over t) v) e

pub leader_same : (under over : ℕ → ℕ) (s t x y : ℕ) → s ≤ t → leader under over s x ≡ leader under over s y
    → leader under over t x ≡ leader under over t y
leader_same under over s zero x y le e =
    subst (λ u. leader under over u x ≡ leader under over u y) (let z : s ≡ zero = omega arith in z) e
leader_same under over s (suc t) x y le e =
    ⊎_elim
    (λ (h : s < suc t). leader_same_suc under over t x y (leader_same under over s t x y (omega arith) e))
    (λ (h : suc t ≤ s). subst (λ u. leader under over u x ≡ leader under over u y) (let z : s ≡ suc t = omega arith in z) e)
    (cases_lt s (suc t))

-- histories that agree up to t have the same leaders after t joins
pub leader_cong : (u o u' o' : ℕ → ℕ) (t x : ℕ) → ((s : ℕ) → s < t → u' s ≡ u s) → ((s : ℕ) → s < t → o' s ≡ o s)
    → leader u' o' t x ≡ leader u o t x
unfolding leader
leader_cong u o u' o' zero x eu eo = refl
leader_cong u o u' o' (suc t) x eu eo =
    let ih = leader_cong u o u' o' t x (λ s h. eu s (omega arith)) (λ s h. eo s (omega arith)) in
    λ i. cond (eqb (ih i) (eu t (let z : t < suc t = omega arith in z) i)) (eo t (let z : t < suc t = omega arith in z) i) (ih i)

-- what rows say of their history: join numbers rise towards the leader, and each join hung one row
pub record Grown (parent number under : ℕ → ℕ) (k : ℕ) : Type 0 where
  pub found : (t : ℕ) → t < k → number (under t) ≡ t
  pub once : (i : ℕ) → number i < k → under (number i) ≡ i
  pub rising : (i : ℕ) → number i < k → number i < number (parent i)

module _ (parent number under : ℕ → ℕ) (k : ℕ) (g : Grown parent number under k) where
  pub apart : (t : ℕ) → t < k → under t ≡ parent (under t) → ⊥
  apart t h e =
      let n = g.found t h in
      let r = g.rising (under t) (omega arith) in
      let m = ap number e in
      omega arith

  -- a boundary is its own leader until its row is hung
  pub stays : (t x : ℕ) → t ≤ k → t ≤ number x → leader under (λ s. parent (under s)) t x ≡ x
  stays zero x h l = leader_zero under _ x
  stays (suc t) x h l =
      let ih = stays t x (omega arith) (omega arith) in
      leader_stayed under _ t x (λ e. let n = g.found t (omega arith) in let m = ap number (sym ih ∙ e) in omega arith) ∙ ih

  -- a leader's row is not hung yet
  pub leads : (t x : ℕ) → t ≤ k → t ≤ number (leader under (λ s. parent (under s)) t x)
  leads zero x h = omega arith
  leads (suc t) x h =
      let v = leader under (λ s. parent (under s)) t x in
      let ih : t ≤ number v = leads t x (omega arith) in
      ⊎_elim
      (λ (e : v ≡ under t).
      let n = g.found t h in
      let r = g.rising (under t) (omega arith) in
      let m = ap number (leader_moved under (λ s. parent (under s)) t x e) in
      omega arith)
      (λ (ne : v ≡ under t → ⊥).
      let m = ap number (leader_stayed under (λ s. parent (under s)) t x ne) in
      ⊎_elim
      (λ (q : number v ≡ t). absurd (ne (sym (g.once v (omega arith)) ∙ ap under q)))
      (λ (nq : number v ≡ t → ⊥). omega arith)
      (cases_eq (number v) t))
      (cases_eq v (under t))

  -- a hung boundary has its parent's leader
  pub climbs : (t x : ℕ) → t ≤ k → number x < t
      → leader under (λ s. parent (under s)) t x ≡ leader under (λ s. parent (under s)) t (parent x)
  climbs zero x h l = absurd (omega arith)
  climbs (suc t) x h l =
      let L : ℕ → ℕ → ℕ = leader under (λ s. parent (under s)) in
      ⊎_elim
      (λ (b : number x < t). leader_same_suc under (λ s. parent (under s)) t x (parent x) (climbs t x (omega arith) b))
      (λ (b : t ≤ number x).
      let q : number x ≡ t = omega arith in
      let own : under t ≡ x = ap under (sym q) ∙ g.once x (omega arith) in
      let r = g.rising x (omega arith) in
      leader_moved under (λ s. parent (under s)) t x (stays t x (omega arith) b ∙ sym own)
      ∙ (ap parent own ∙ sym (stays (suc t) (parent x) h (omega arith))))
      (cases_lt (number x) t)

  -- a leader stays one, for all of its set, until its row is hung
  pub lasts : (s t x v : ℕ) → s ≤ t → t ≤ k → leader under (λ s. parent (under s)) s x ≡ v → t ≤ number v
      → leader under (λ s. parent (under s)) t x ≡ v
  lasts s t x v le h e l =
      leader_same under (λ s. parent (under s)) s t x v le (e ∙ sym (stays s v (omega arith) (omega arith)))
      ∙ stays t v h l
