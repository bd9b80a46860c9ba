-- Sums and differences in a commutative group.
use Rattle.std.proofs.Common.{◌≡◌, sym, ap, ◌∙◌}
use Rattle.kinds.specs.Group.{Group}
use Rattle.distances.specs.Distance.{minus}

module _ {V : Type 0} (G : Group V) where
  pub zero_left : (x : V) → G.plus G.zero x ≡ x
  zero_left x = G.comm G.zero x ∙ G.zero_right x

  pub swap : (x y z : V) → G.plus x (G.plus y z) ≡ G.plus y (G.plus x z)
  swap x y z = sym (G.assoc x y z) ∙ (ap (λ v. G.plus v z) (G.comm x y) ∙ G.assoc y x z)

  pub undone : (x y : V) → G.plus (G.inverse x) (G.plus x y) ≡ y
  undone x y =
      sym (G.assoc (G.inverse x) x y)
      ∙ (ap (λ v. G.plus v y) (G.comm (G.inverse x) x ∙ G.cancels x) ∙ zero_left y)

  -- x is what y and x less y add to
  pub minus_plus : (x y : V) → G.plus (minus G x y) y ≡ x
  minus_plus x y =
      G.assoc x (G.inverse y) y
      ∙ (ap (λ v. G.plus x v) (G.comm (G.inverse y) y ∙ G.cancels y) ∙ G.zero_right x)

  pub plus_minus : (s y : V) → minus G (G.plus s y) y ≡ s
  plus_minus s y = G.assoc s y (G.inverse y) ∙ (ap (λ v. G.plus s v) (G.cancels y) ∙ G.zero_right s)

  -- the difference is the value that makes up for it
  pub minus_is : (x y s : V) → x ≡ G.plus s y → minus G x y ≡ s
  minus_is x y s e = ap (λ v. minus G v y) e ∙ plus_minus s y

  -- both ends moved alike leave the difference
  pub minus_shift : (e x y : V) → minus G (G.plus e x) (G.plus e y) ≡ minus G x y
  minus_shift e x y =
      minus_is (G.plus e x) (G.plus e y) (minus G x y)
      (ap (λ v. G.plus e v) (sym (minus_plus x y)) ∙ swap e (minus G x y) y)

  -- from x to y and on to z
  pub minus_chain : (x y z : V) → G.plus (minus G y x) (minus G z y) ≡ minus G z x
  minus_chain x y z =
      sym
      (minus_is z x (G.plus (minus G y x) (minus G z y))
      (sym (minus_plus z y)
      ∙ (ap (λ v. G.plus (minus G z y) v) (sym (minus_plus y x))
      ∙ (sym (G.assoc (minus G z y) (minus G y x) x)
      ∙ ap (λ v. G.plus v x) (G.comm (minus G z y) (minus G y x))))))

  pub inverse_is : (x y : V) → G.plus x y ≡ G.zero → G.inverse x ≡ y
  inverse_is x y e =
      sym (G.zero_right (G.inverse x)) ∙ (ap (λ v. G.plus (G.inverse x) v) (sym e) ∙ undone x y)

  pub inverse_minus : (x y : V) → G.inverse (minus G x y) ≡ minus G y x
  inverse_minus x y = inverse_is (minus G x y) (minus G y x) (minus_chain y x y ∙ G.cancels y)
