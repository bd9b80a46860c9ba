-- What the rows of the links say: of each boundary, and of each join. Assumes nothing.
use Rattle.std.specs.Prelude.{ℕ, List, Some, None, Option, nat_eq, slice_index_or}
use Rattle.links.specs.declared.step.Origin.TheVariants.{Released}
use Rattle.links.specs.declared.step.Sign.TheVariants.{Plus}
use Rattle.links.specs.declared.step.Step.{Step}
use Rattle.links.specs.declared.row.Edge.{Edge}
use Rattle.links.specs.declared.row.Row.{Row}
use Rattle.links.specs.Forest.{pick, leader, members, way}

-- the row of boundary i
abbrev pub row_at : List Row → ℕ → Row
row_at rows i = slice_index_or rows i (record { parent = 0; size = 0; edge = None })

-- the boundary that i hangs from
abbrev pub parent_at : List Row → ℕ → ℕ
parent_at rows i = (row_at rows i).parent

-- what i's row says of the size of its set
abbrev pub size_at : List Row → ℕ → ℕ
size_at rows i = (row_at rows i).size

-- how many joins came before the one that hung the row; 1,024, above every join, for a leader
abbrev pub number_by : Option Edge → ℕ
number_by None = 1024
number_by (Some e) = e.number

-- the same of the row of boundary i
abbrev pub number_at : List Row → ℕ → ℕ
number_at rows i = number_by (row_at rows i).edge

-- the step over an edge's range that leaves the row's own set
abbrev pub step_by : Option Edge → Step
step_by None = record { low = 0; high = 0; sign = Plus; origin = Released }
step_by (Some e) = record { low = e.low; high = e.high; sign = e.sign; origin = Released }

-- the leader that join t hung
unfoldable pub hung : List Row → ℕ → ℕ
hung rows t = pick 1024 (λ i. nat_eq (number_at rows i) t)

-- the leader that it was hung under
abbrev pub over : List Row → ℕ → ℕ
over rows t = parent_at rows (hung rows t)

-- the step over join t's range from the hung set into the other
abbrev pub out : List Row → ℕ → Step
out rows t = step_by (row_at rows (hung rows t)).edge

-- the leader of boundary i after the first t joins
abbrev pub leader_at : List Row → ℕ → ℕ → ℕ
leader_at rows t i = leader (hung rows) (over rows) t i

-- how many boundaries it leads
abbrev pub members_at : List Row → ℕ → ℕ → ℕ
members_at rows t i = members (hung rows) (over rows) 1024 t i

-- the steps from x to y over the first t joins
abbrev pub way_at : List Row → ℕ → ℕ → ℕ → List Step
way_at rows t x y = way (hung rows) (over rows) (out rows) t x y
