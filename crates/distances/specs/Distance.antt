-- How far a boundary lies from its leader, by links and a table of values, and what that makes of a range. Assumes nothing.
use Rattle.std.specs.Prelude.{◌≡◌, ℕ, zero, suc, cond, List, ◌==◌, slice_index_or}
use Rattle.kinds.specs.Group.{Group}
use Rattle.links.specs.Ranges.{Range}
use Rattle.links.specs.declared.step.Step.{Step}
use Rattle.links.specs.declared.links.Links.{Links}
use Rattle.links.specs.Chains.{Leads}
use Rattle.links.specs.Forest.{leader}
use Rattle.links.specs.Rows.{hung, over}
use Rattle.links.specs.Linked.{Linked}
use Rattle.links.specs.Joined.{joined}
use Rattle.distances.specs.Sums.{chain_sum}

-- entry i of a table, zero where the table is too short
abbrev pub entry : {V : Type 0} → Group V → List V → ℕ → V
entry G table i = slice_index_or table i G.zero

-- x less y
abbrev pub minus : {V : Type 0} → Group V → V → V → V
minus G x y = G.plus x (G.inverse y)

-- what to add at x's leader to be at x, after the first t joins: join s laid `entries (under s)` between the hung leader and the one above
unfoldable pub distance_after : {V : Type 0} → Group V → (ℕ → ℕ) → (ℕ → ℕ) → (ℕ → V) → ℕ → ℕ → V
distance_after G under over entries zero x = G.zero
distance_after G under over entries (suc t) x =
    cond (leader under over t x == under t)
    (G.plus (entries (under t)) (distance_after G under over entries t x))
    (distance_after G under over entries t x)

-- the distance of boundary b to its leader
abbrev pub distance : {V : Type 0} → Group V → Links → List V → ℕ → V
distance G links table b =
    distance_after G (hung links.rows) (over links.rows) (entry G table) links.joins b

-- how much further b lies than a, where the two have one leader
abbrev pub apart : {V : Type 0} → Group V → Links → List V → ℕ → ℕ → V
apart G links table a b = minus G (distance G links table b) (distance G links table a)

-- the sum of a joining range, by the links and the distances handed in
abbrev pub amount : {V : Type 0} → Group V → Links → List V → Range → V
amount G links table r = apart G links table r.low r.high

-- v lies between the linked boundaries a and b: it is the difference of their distances, and the sum of every chain of steps from a to b
pub record Between {V : Type 0} (G : Group V) (links : Links) (table : List V) (a b : ℕ) (v : V) : Type 0 where
  pub linked : Linked (joined links) a b
  pub value : v ≡ apart G links table a b
  pub chains : (ss : List Step) → Leads ss a b → chain_sum G (amount G links table) ss ≡ v
