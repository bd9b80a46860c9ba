-- What links stand for: the joining ranges, and of each boundary its leader, its parent and its set's size. Assumes nothing.
use Rattle.std.specs.Prelude.{◌≡◌, ℕ, ◌-◌, ◌<◌, List}
use Rattle.links.specs.Ranges.{Range}
use Rattle.links.specs.declared.links.Links.{Links}
use Rattle.links.specs.declared.row.Row.{Row}
use Rattle.links.specs.Linked.{Linked}
use Rattle.links.specs.Forest.{ranges}
use Rattle.links.specs.Rows.{row_at, parent_at, size_at, number_at, out, leader_at}

-- the list J of joining ranges, newest first
abbrev pub joined : Links → List Range
joined links = ranges (out links.rows) links.joins

-- what the links keep of boundary i
abbrev pub row_of : Links → ℕ → Row
row_of links i = row_at links.rows i

-- the boundary that i hangs from, i itself for a leader
abbrev pub parent_of : Links → ℕ → ℕ
parent_of links i = parent_at links.rows i

-- at a leader, how many boundaries its set has
abbrev pub size_of : Links → ℕ → ℕ
size_of links i = size_at links.rows i

-- the one boundary that stands for all of i's set
abbrev pub leader_of : Links → ℕ → ℕ
leader_of links i = leader_at links.rows links.joins i

-- two boundaries have one leader exactly when J links them
abbrev pub LeadersTell : Links → Type 0
LeadersTell links =
    (i j : ℕ) → (leader_of links i ≡ leader_of links j → Linked (joined links) i j)
    × (Linked (joined links) i j → leader_of links i ≡ leader_of links j)

-- at most so many steps up lead from i to its leader
abbrev pub climb_left : Links → ℕ → ℕ
climb_left links i = 1024 - number_at links.rows i

-- p is the boundary that i hangs from: in the same set, and nearer to its leader
pub record Above (links : Links) (i p : ℕ) : Type 0 where
  pub parent : p ≡ parent_of links i
  pub same : leader_of links p ≡ leader_of links i
  pub nearer : climb_left links p < climb_left links i

-- i is the leader of its set, and hangs from itself
pub record IsLeader (links : Links) (i : ℕ) : Type 0 where
  pub leader : leader_of links i ≡ i
  pub own : parent_of links i ≡ i
