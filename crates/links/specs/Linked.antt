-- Which boundaries a list of ranges links. Assumes nothing.
use Rattle.std.specs.Prelude.{◌≡◌, ℕ, ◌⊎◌, List, [], ◌∷◌}
use Rattle.links.specs.Ranges.{Range}

-- r is one of the listed ranges
abbrev pub Listed : Range → List Range → Type 0
Listed r [] = ⊥
Listed r (s ∷ ss) = (r ≡ s) ⊎ Listed r ss

-- i and j are the two ends of r, in either order
abbrev pub Ends : Range → ℕ → ℕ → Type 0
Ends r i j = ((r.low ≡ i) × (r.high ≡ j)) ⊎ ((r.low ≡ j) × (r.high ≡ i))

-- Steps from one end of a listed range to its other end lead from i to j; none are needed where i is j.
pub data Linked (js : List Range) : ℕ → ℕ → Type 0 where
  here : {i : ℕ} → Linked js i i
  onward : {i j k : ℕ} (r : Range) → Listed r js → Ends r i j → Linked js j k → Linked js i k
