-- The sum of a chain of signed steps, in a group. Assumes nothing.
use Rattle.std.specs.Prelude.{List, [], ◌∷◌}
use Rattle.kinds.specs.Group.{Group}
use Rattle.links.specs.Ranges.{Range}
use Rattle.links.specs.declared.step.Sign.{Sign}
use Rattle.links.specs.declared.step.Sign.TheVariants.{Plus, Minus}
use Rattle.links.specs.declared.step.Step.{Step}
use Rattle.links.specs.Chains.{range_of}

-- a + step adds its sum, a − step the inverse
abbrev pub signed : {V : Type 0} → Group V → Sign → V → V
signed G Plus v = v
signed G Minus v = G.inverse v

-- a chain's sum, where each range is worth what `worth` gives it: the sums of its + steps and the inverses of its − steps
abbrev pub chain_sum : {V : Type 0} → Group V → (Range → V) → List Step → V
chain_sum G worth [] = G.zero
chain_sum G worth (s ∷ ss) = G.plus (signed G s.sign (worth (range_of s))) (chain_sum G worth ss)
