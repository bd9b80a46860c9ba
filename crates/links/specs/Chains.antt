-- Chains: signed steps over listed ranges, end to end, that meet no boundary twice. Assumes nothing.
use Rattle.std.specs.Prelude.{◌≡◌, ℕ, List, [], ◌∷◌, map, ◌≢◌}
use Rattle.links.specs.Ranges.{Range}
use Rattle.links.specs.declared.step.Sign.{Sign}
use Rattle.links.specs.declared.step.Sign.TheVariants.{Plus, Minus}
use Rattle.links.specs.declared.step.Origin.{Origin}
use Rattle.links.specs.declared.step.Origin.TheVariants.{Released, New}
use Rattle.links.specs.declared.step.Step.{Step}
use Rattle.links.specs.Linked.{Listed}

abbrev pub range_of : Step → Range
range_of s = record { low = s.low; high = s.high }

-- where a step starts: at the low end with sign +, at the high end with sign −
abbrev pub start_by : Sign → ℕ → ℕ → ℕ
start_by Plus low high = low
start_by Minus low high = high

abbrev pub start : Step → ℕ
start s = start_by s.sign s.low s.high

-- where a step ends
abbrev pub end : Step → ℕ
end s = start_by s.sign s.high s.low

-- the steps go from i to j, each from where the one before ended
abbrev pub Leads : List Step → ℕ → ℕ → Type 0
Leads [] i j = i ≡ j
Leads (s ∷ ss) i j = (start s ≡ i) × Leads ss (end s) j

abbrev pub Absent : ℕ → List ℕ → Type 0
Absent i [] = Unit {0}
Absent i (j ∷ js) = (i ≢ j) × Absent i js

abbrev pub Distinct : List ℕ → Type 0
Distinct [] = Unit {0}
Distinct (i ∷ is) = Absent i is × Distinct is

-- a step's range is listed, and the step says where it comes from: an earlier release, or the query q
abbrev pub Source : List Range → Range → Origin → Range → Type 0
Source js q Released r = Listed r js
Source js q New r = r ≡ q

abbrev pub Sourced : List Range → Range → List Step → Type 0
Sourced js q [] = Unit {0}
Sourced js q (s ∷ ss) = Source js q s.origin (range_of s) × Sourced js q ss

-- a chain from i to j over the ranges of js and the new query q, which meets no boundary twice
abbrev pub Chain : List Range → Range → ℕ → ℕ → List Step → Type 0
Chain js q i j ss = Leads ss i j × Sourced js q ss × Distinct (i ∷ map end ss)
