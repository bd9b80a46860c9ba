-- What the values of a kind of reading are: a commutative group of more than one value. Assumes nothing.
use Rattle.std.specs.Prelude.{◌≡◌}
use Rattle.std.proofs.Common.{ap}

pub record Group (V : Type 0) : Type 0 where
  pub zero : V
  pub plus : V → V → V
  pub inverse : V → V
  -- a value besides zero
  pub unit : V
  pub assoc : (x y z : V) → plus (plus x y) z ≡ plus x (plus y z)
  pub comm : (x y : V) → plus x y ≡ plus y x
  pub zero_right : (x : V) → plus x zero ≡ x
  pub cancels : (x : V) → plus x (inverse x) ≡ zero
  pub proper : unit ≡ zero → ⊥

-- Pairs, each half added in its own group.
abbrev pub paired : {U V : Type 0} → Group U → Group V → Group (U × V)
paired G H = record {
  zero = (G.zero, H.zero);
  plus = λ x y. (G.plus x.0 y.0, H.plus x.1 y.1);
  inverse = λ x. (G.inverse x.0, H.inverse x.1);
  unit = (G.unit, H.zero);
  assoc = λ x y z i. (G.assoc x.0 y.0 z.0 i, H.assoc x.1 y.1 z.1 i);
  comm = λ x y i. (G.comm x.0 y.0 i, H.comm x.1 y.1 i);
  zero_right = λ x i. (G.zero_right x.0 i, H.zero_right x.1 i);
  cancels = λ x i. (G.cancels x.0 i, H.cancels x.1 i);
  proper = λ e. G.proper (ap (λ p. p.0) e);
}
