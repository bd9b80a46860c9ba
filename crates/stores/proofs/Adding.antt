-- What one more slot adds to a sum, and what an answer tells of its slot. Assumes nothing.
use Rattle.std.proofs.Common.{◌≡◌, ℕ, suc, ◌+◌, ◌-◌, ◌<◌, ◌≤◌, refl, ap, ◌∙◌, arith}
use Rattle.std.proofs.lemmas.Bool.{lt-ltb, cond-true}
use Rattle.kinds.specs.Group.{Group}
use Rattle.stores.specs.declared.store.Mark.{Mark}
use Rattle.stores.specs.declared.store.Mark.TheVariants.{Kept, Lost}
use Rattle.stores.specs.declared.store.Reading.TheVariants.{Value, Missing, Outside}
use Rattle.std.specs.Prelude.{Ok}
use Rattle.stores.specs.declared.store.Reading.{Reading}
use Rattle.stores.specs.Log.{Log, told, answer, valued}
use Rattle.stores.specs.Sums.{total, range_sum, kept_at}

module _ {V : Type 0} (G : Group V) (reading : ℕ → V) (low : ℕ) where
  pub sum_more : (slot : ℕ) → low ≤ slot → range_sum G reading low (slot + 1) ≡ G.plus (range_sum G reading low slot) (reading slot)
  sum_more slot h =
      let next : slot + 1 - low ≡ suc (slot - low) = omega arith in
      let at : low + (slot - low) ≡ slot = omega arith in
      ap (total G reading low) next ∙ ap (λ i. G.plus (range_sum G reading low slot) (reading i)) at

module _ {V : Type 0} (log : Log V) (i : ℕ) where
  kept_by : (m : Mark) (x y : V) → Value x ≡ told m y → (m ≡ Kept) × (x ≡ y)
  kept_by Kept x y e = (refl, cc)
  kept_by Lost x y e = let z : ◌≡◌ {A = ℕ} 0 1 = cc in absurd (omega arith)

  inside : i < log.slots → answer log i ≡ told (log.mark i) (log.reading i)
  inside h = cond-true _ _ _ (lt-ltb i log.slots h)

  -- a value is answered for a kept slot alone, and is its reading
  pub value_tells : (x : V) → i < log.slots → Value x ≡ answer log i → (log.mark i ≡ Kept) × (x ≡ log.reading i)
  value_tells x h e = kept_by (log.mark i) x (log.reading i) (e ∙ inside h)

-- a kept reading is the value that its slot answered
pub kept_tells : {R V : Type 0} (f : R → V) (slot : ℕ) (r : Reading R) (x : R) → kept_at slot r ≡ Ok x → valued f r ≡ Value (f x)
kept_tells f slot (Value y) x e = let same : y ≡ x = cc in ap (λ z. Value (f z)) same
kept_tells f slot Missing x e = let z : ◌≡◌ {A = ℕ} 0 1 = cc in absurd (omega arith)
kept_tells f slot Outside x e = let z : ◌≡◌ {A = ℕ} 0 1 = cc in absurd (omega arith)
