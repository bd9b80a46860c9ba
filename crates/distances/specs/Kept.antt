-- What a join with a sum does to links and distances: the new range has its sum, and no other range's sum changes. Assumes nothing.
use Rattle.std.specs.Prelude.{◌≡◌, ℕ, ◌<◌, ◌≤◌, ◌⊎◌, List, map, length, ◌≢◌, slice_index_or}
use Rattle.kinds.specs.Group.{Group}
use Rattle.links.specs.Ranges.{Range}
use Rattle.links.specs.declared.links.Links.{Links}
use Rattle.links.specs.Linked.{Listed, Linked}
use Rattle.links.specs.Joined.{joined}
use Rattle.links.specs.Join.{Made}
use Rattle.distances.specs.Distance.{amount}

-- (a, b) joined with this sum, the ranges from before keep theirs, and of the table the entry of the hung leader h alone was set
pub record Laid {K V : Type 0} (G : Group V) (meaning : K → V) (links links' : Links) (table table' : List K) (a b h w : ℕ) (sum : V) : Type 0 where
  pub room : 1024 ≤ length table
  pub made : Made links links' a b h w
  pub new : amount G links' (map meaning table') (record { low = a; high = b }) ≡ sum
  pub old : (r : Range) → Listed r (joined links) → amount G links' (map meaning table') r ≡ amount G links (map meaning table) r
  pub long : length table' ≡ length table
  pub rest : (i : ℕ) (d : K) → (i ≢ h) → slice_index_or table' i d ≡ slice_index_or table i d

-- the table has fewer than 1,024 entries, or (a, b) is no range, or its ends are linked already; and nothing changed
pub record Untouched {K : Type 0} (links links' : Links) (table table' : List K) (a b : ℕ) : Type 0 where
  pub reason : (length table < 1024) ⊎ ((b ≤ a) ⊎ Linked (joined links) a b)
  pub links_same : links' ≡ links
  pub table_same : table' ≡ table
