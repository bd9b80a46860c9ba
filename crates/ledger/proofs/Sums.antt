-- Sums of stretches as differences of a potential, and readings made from one. Assumes nothing.
use Rattle.std.proofs.Common.{◌≡◌, ℕ, zero, suc, ◌+◌, ◌-◌, ◌≤◌, List, [], ◌∷◌, sym, ap, ◌∙◌, add-zero, add-suc, zero-add, arith}
use Rattle.links.specs.Ranges.{Range}
use Rattle.links.specs.declared.step.Sign.{Sign}
use Rattle.links.specs.declared.step.Sign.TheVariants.{Plus, Minus}
use Rattle.links.specs.declared.step.Step.{Step}
use Rattle.links.specs.Linked.{Listed}
use Rattle.links.specs.Chains.{start_by, end, Leads}
use Rattle.kinds.specs.Group.{Group}
use Rattle.stores.specs.Sums.{total, range_sum}
use Rattle.distances.specs.Sums.{signed, chain_sum}

-- each range's low end is not above its high end
abbrev pub Upward : List Range → Type 0
Upward js = (x : Range) → Listed x js → x.low ≤ x.high

-- every step goes over a range whose low end is not above its high end
abbrev pub StepsUpward : List Step → Type 0
StepsUpward [] = Unit {0}
StepsUpward (s ∷ ss) = (s.low ≤ s.high) × StepsUpward ss

module _ {V : Type 0} (G : Group V) where
  pub zero_left : (x : V) → G.plus G.zero x ≡ x
  zero_left x = G.comm G.zero x ∙ G.zero_right x

  -- what was added first is taken away
  pub undo : (x y : V) → G.plus (G.inverse x) (G.plus x y) ≡ y
  undo x y = sym (G.assoc (G.inverse x) x y) ∙ ap (λ (z : V). G.plus z y) (G.comm (G.inverse x) x ∙ G.cancels x) ∙ zero_left y

  pub cancel : (x y z : V) → G.plus x y ≡ G.plus x z → y ≡ z
  cancel x y z e = sym (undo x y) ∙ ap (G.plus (G.inverse x)) e ∙ undo x z

  exchange : (a b c d : V) → G.plus (G.plus a b) (G.plus c d) ≡ G.plus (G.plus a c) (G.plus b d)
  exchange a b c d =
      G.assoc a b (G.plus c d)
      ∙ ap (G.plus a) (sym (G.assoc b c d) ∙ ap (λ (z : V). G.plus z d) (G.comm b c) ∙ G.assoc c b d)
      ∙ sym (G.assoc a c (G.plus b d))

  inverse_plus : (x y : V) → G.inverse (G.plus x y) ≡ G.plus (G.inverse x) (G.inverse y)
  inverse_plus x y =
      cancel (G.plus x y) (G.inverse (G.plus x y)) (G.plus (G.inverse x) (G.inverse y))
      (G.cancels (G.plus x y) ∙ sym (exchange x y (G.inverse x) (G.inverse y) ∙ ap (λ (z : V). G.plus z (G.plus y (G.inverse y))) (G.cancels x) ∙ zero_left (G.plus y (G.inverse y)) ∙ G.cancels y))

  -- x less y
  abbrev pub less : V → V → V
  less x y = G.plus x (G.inverse y)

  less_plus : (x y s t : V) → less (G.plus x s) (G.plus y t) ≡ G.plus (less x y) (less s t)
  less_plus x y s t = ap (G.plus (G.plus x s)) (inverse_plus y t) ∙ exchange x s (G.inverse y) (G.inverse t)

  less_zero : (s t : V) → G.zero ≡ less s t → t ≡ s
  less_zero s t e =
      sym (zero_left t) ∙ ap (λ (z : V). G.plus z t) e ∙ G.assoc s (G.inverse t) t ∙ ap (G.plus s) (G.comm (G.inverse t) t ∙ G.cancels t) ∙ G.zero_right s

  rise : (a x s y : V) → G.plus (G.inverse (G.plus a x)) (G.plus (G.plus a s) y) ≡ G.plus s (less y x)
  rise a x s y =
      ap (λ (z : V). G.plus z (G.plus (G.plus a s) y)) (inverse_plus a x)
      ∙ exchange (G.inverse a) (G.inverse x) (G.plus a s) y
      ∙ ap (λ (z : V). G.plus z (G.plus (G.inverse x) y)) (undo a s)
      ∙ ap (G.plus s) (G.comm (G.inverse x) y)

  -- the sum of the slots below k
  abbrev pub potential : (ℕ → V) → ℕ → V
  potential r k = total G r 0 k

  total_potential : (r : ℕ → V) (a c : ℕ) → G.plus (potential r a) (total G r a c) ≡ potential r (a + c)
  total_potential r a zero = G.zero_right (potential r a) ∙ ap (potential r) (sym (add-zero a))
  total_potential r a (suc c) =
      sym (G.assoc (potential r a) (total G r a c) (r (a + c)))
      ∙ ap (λ (z : V). G.plus z (r (a + c))) (total_potential r a c)
      ∙ ap (λ (k : ℕ). G.plus (potential r (a + c)) (r k)) (sym (zero-add (a + c)))
      ∙ ap (potential r) (sym (add-suc a c))

  pub sum_potential : (r : ℕ → V) (a b : ℕ) → a ≤ b → G.plus (potential r a) (range_sum G r a b) ≡ potential r b
  sum_potential r a b h = total_potential r a (b - a) ∙ ap (potential r) (omega arith)

  -- readings with the given potential, but for a constant
  abbrev pub readings : (ℕ → V) → ℕ → V
  readings p k = G.plus (G.inverse (p k)) (p (suc k))

  total_readings : (p : ℕ → V) (a c : ℕ) → total G (readings p) a c ≡ G.plus (G.inverse (p a)) (p (a + c))
  total_readings p a zero = sym (ap (λ (k : ℕ). G.plus (G.inverse (p a)) (p k)) (add-zero a) ∙ G.comm (G.inverse (p a)) (p a) ∙ G.cancels (p a))
  total_readings p a (suc c) =
      ap (λ (z : V). G.plus z (readings p (a + c))) (total_readings p a c)
      ∙ G.assoc (G.inverse (p a)) (p (a + c)) (readings p (a + c))
      ∙ ap (G.plus (G.inverse (p a))) (sym (G.assoc (p (a + c)) (G.inverse (p (a + c))) (p (suc (a + c)))) ∙ ap (λ (z : V). G.plus z (p (suc (a + c)))) (G.cancels (p (a + c))) ∙ zero_left (p (suc (a + c))))
      ∙ ap (λ (k : ℕ). G.plus (G.inverse (p a)) (p k)) (sym (add-suc a c))

  pub sum_readings : (p : ℕ → V) (a b : ℕ) → a ≤ b → range_sum G (readings p) a b ≡ G.plus (G.inverse (p a)) (p b)
  sum_readings p a b h = total_readings p a (b - a) ∙ ap (λ (k : ℕ). G.plus (G.inverse (p a)) (p k)) (omega arith)

  -- what a step adds takes the potential from where it starts to where it ends
  step_potential : (r : ℕ → V) (σ : Sign) (a b : ℕ) → a ≤ b → G.plus (potential r (start_by σ a b)) (signed G σ (range_sum G r a b)) ≡ potential r (start_by σ b a)
  step_potential r Plus a b h = sum_potential r a b h
  step_potential r Minus a b h =
      ap (λ (z : V). G.plus z (G.inverse (range_sum G r a b))) (sym (sum_potential r a b h))
      ∙ G.assoc (potential r a) (range_sum G r a b) (G.inverse (range_sum G r a b))
      ∙ ap (G.plus (potential r a)) (G.cancels (range_sum G r a b))
      ∙ G.zero_right (potential r a)

  chain_potential : (r : ℕ → V) (ss : List Step) (i j : ℕ) → Leads ss i j → StepsUpward ss → G.plus (potential r i) (chain_sum G (λ x. range_sum G r x.low x.high) ss) ≡ potential r j
  chain_potential r [] i j l u = G.zero_right (potential r i) ∙ ap (potential r) l
  chain_potential r (s ∷ ss) i j l u =
      sym (G.assoc (potential r i) (signed G s.sign (range_sum G r s.low s.high)) (chain_sum G (λ x. range_sum G r x.low x.high) ss))
      ∙ ap (λ (z : V). G.plus z (chain_sum G (λ x. range_sum G r x.low x.high) ss)) (ap (λ (k : ℕ). G.plus (potential r k) (signed G s.sign (range_sum G r s.low s.high))) (sym l.0) ∙ step_potential r s.sign s.low s.high u.0)
      ∙ chain_potential r ss (end s) j l.1 u.1

  -- a chain from i to j sums to the stretch (i, j)
  pub chain_true : (r : ℕ → V) (ss : List Step) (i j : ℕ) → i ≤ j → Leads ss i j → StepsUpward ss → chain_sum G (λ x. range_sum G r x.low x.high) ss ≡ range_sum G r i j
  chain_true r ss i j h l u = cancel (potential r i) (chain_sum G (λ x. range_sum G r x.low x.high) ss) (range_sum G r i j) (chain_potential r ss i j l u ∙ sym (sum_potential r i j h))
