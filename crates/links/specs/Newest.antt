-- The newest join on the way between two boundaries of one set. Assumes nothing.
use Rattle.std.specs.Prelude.{◌≡◌, ℕ, suc, ◌<◌, Bool, true, false, cond, List, ◌∷◌, ◌++◌}
use Rattle.links.specs.declared.row.Row.{Row}
use Rattle.links.specs.declared.step.Step.{Step}
use Rattle.links.specs.declared.links.chains.Newest.{Newest}
use Rattle.links.specs.declared.links.chains.Newest.TheVariants.{Leaves, Enters}
use Rattle.links.specs.Rows.{number_at, leader_at, way_at}

-- join number t, which hung the row `at`, first made one set of x and y; the hung set was that of x, or else that of y
pub record MakesOne (rows : List Row) (k x y at : ℕ) (forth : Bool) : Type 0 where
  pub joined : number_at rows at < k
  pub apart : leader_at rows (number_at rows at) x ≡ leader_at rows (number_at rows at) y → ⊥
  pub side : leader_at rows (number_at rows at) (cond forth x y) ≡ at
  pub one : leader_at rows (suc (number_at rows at)) x ≡ leader_at rows (suc (number_at rows at)) y

-- the walk from x to y leaves the set that the newest join on the way hung, or else enters it
abbrev pub IsNewest : List Row → (k x y : ℕ) → Newest → Type 0
IsNewest rows k x y (Leaves at) = MakesOne rows k x y at.index true
IsNewest rows k x y (Enters at) = MakesOne rows k x y at.index false

-- join t, by the step s from near to far, cuts the way from x to y over the first m joins in two, each over older joins than t
pub record Cut (rows : List Row) (m x y t near far : ℕ) (s : Step) : Type 0 where
  pub older : t < m
  pub before : leader_at rows t x ≡ leader_at rows t near
  pub after : leader_at rows t far ≡ leader_at rows t y
  pub parts : way_at rows m x y ≡ way_at rows t x near ++ (s ∷ way_at rows t far y)
