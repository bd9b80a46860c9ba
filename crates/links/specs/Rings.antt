-- Lists of ranges that close no ring, and the one chain between two boundaries that they link. Assumes nothing.
use Rattle.std.specs.Prelude.{◌≡◌, ℕ, suc, List, [], ◌∷◌, map}
use Rattle.links.specs.Ranges.{Range}
use Rattle.links.specs.declared.step.Sign.{Sign}
use Rattle.links.specs.declared.step.Origin.{Origin}
use Rattle.links.specs.declared.step.Origin.TheVariants.{Released, New}
use Rattle.links.specs.declared.step.Step.{Step}
use Rattle.links.specs.Linked.{Listed, Linked}
use Rattle.links.specs.Chains.{range_of, end, Leads, Distinct}

-- each range joins two boundaries that the ranges after it in the list leave apart
abbrev pub Ringless : List Range → Type 0
Ringless [] = Unit {0}
Ringless (r ∷ js) = (Linked js r.low r.high → ⊥) × Ringless js

-- each step goes over a listed range
abbrev pub Over : List Range → List Step → Type 0
Over js [] = Unit {0}
Over js (s ∷ ss) = Listed (range_of s) js × Over js ss

-- the steps go from i to j over listed ranges, and meet no boundary twice
abbrev pub Path : List Range → ℕ → ℕ → List Step → Type 0
Path js i j ss = Leads ss i j × Over js ss × Distinct (i ∷ map end ss)

-- over which range a step goes, and which way
abbrev pub course : Step → Range × Sign
course s = (range_of s, s.sign)

-- two chains from i to j go over the same ranges the same way
abbrev pub OneWay : List Range → Type 0
OneWay js = (i j : ℕ) (ss ts : List Step) → Path js i j ss → Path js i j ts → map course ss ≡ map course ts

-- between two linked boundaries there is a chain
abbrev pub HasWay : List Range → Type 0
HasWay js = (i j : ℕ) → Linked js i j → (ss : List Step) × Path js i j ss

-- the list closes no ring, so that exactly one chain without repeats joins two linked boundaries
pub record Acyclic (js : List Range) : Type 0 where
  pub ringless : Ringless js
  pub some : HasWay js
  pub one : OneWay js

-- every step goes over an earlier release, none over the new query
abbrev pub Earlier : List Step → Type 0
Earlier [] = Unit {0}
Earlier (s ∷ ss) = (s.origin ≡ Released) × Earlier ss

-- a step of this origin beside n new ones
abbrev pub new_with : Origin → ℕ → ℕ
new_with Released n = n
new_with New n = suc n

-- how many steps go over the new query
abbrev pub new_steps : List Step → ℕ
new_steps [] = 0
new_steps (s ∷ ss) = new_with s.origin (new_steps ss)
