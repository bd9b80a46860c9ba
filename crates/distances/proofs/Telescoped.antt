-- The sum of a chain of steps, where each range is worth the difference of two distances, is the difference between its ends.
use Rattle.std.proofs.Common.{◌≡◌, ℕ, List, [], ◌∷◌, sym, refl, ap, ◌∙◌}
use Rattle.kinds.specs.Group.{Group}
use Rattle.links.specs.Ranges.{Range}
use Rattle.links.specs.declared.step.Sign.{Sign}
use Rattle.links.specs.declared.step.Sign.TheVariants.{Plus, Minus}
use Rattle.links.specs.declared.step.Step.{Step}
use Rattle.links.specs.Linked.{Listed}
use Rattle.links.specs.Chains.{range_of, start_by, start, end, Leads}
use Rattle.links.specs.Rings.{Over}
use Rattle.distances.specs.Sums.{signed, chain_sum}
use Rattle.distances.specs.Distance.{minus}
use Rattle.distances.proofs.Groups.{minus_chain, inverse_minus}

module _ {V : Type 0} (G : Group V) (far : ℕ → V) where
  signed_step : (g : Sign) (low high : ℕ)
      → signed G g (minus G (far high) (far low)) ≡ minus G (far (start_by g high low)) (far (start_by g low high))
  signed_step Plus low high = refl
  signed_step Minus low high = inverse_minus G (far high) (far low)

  pub telescoped : (ss : List Step) (i j : ℕ) → Leads ss i j
      → chain_sum G (λ r. minus G (far r.high) (far r.low)) ss ≡ minus G (far j) (far i)
  telescoped [] i j e = sym (G.cancels (far i)) ∙ ap (λ x. minus G (far x) (far i)) e
  telescoped (s ∷ ss) i j l =
      (λ n. G.plus (signed_step s.sign s.low s.high n) (telescoped ss (end s) j l.1 n))
      ∙ (minus_chain G (far (start s)) (far (end s)) (far j) ∙ ap (λ x. minus G (far j) (far x)) l.0)

-- a chain's sum looks at listed ranges alone
pub sum_alike : {V : Type 0} (G : Group V) (worth worth' : Range → V) (js : List Range) (ss : List Step) → Over js ss
    → ((r : Range) → Listed r js → worth' r ≡ worth r) → chain_sum G worth' ss ≡ chain_sum G worth ss
sum_alike G worth worth' js [] o e = refl
sum_alike G worth worth' js (s ∷ ss) o e =
    λ n. G.plus (signed G s.sign (e (range_of s) o.0 n)) (sum_alike G worth worth' js ss o.1 e n)
