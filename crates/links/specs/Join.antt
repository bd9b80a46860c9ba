-- What a join does: which leader is hung under which, which rows change, and what the joining ranges are then. Assumes nothing.
use Rattle.std.specs.Prelude.{◌≡◌, ℕ, ◌+◌, ◌<◌, ◌≤◌, cond, ◌⊎◌, List, ◌∷◌, length, Some, ◌==◌, ◌≢◌}
use Rattle.links.specs.declared.step.Sign.TheVariants.{Plus, Minus}
use Rattle.links.specs.declared.row.Edge.{Edge}
use Rattle.links.specs.declared.row.Row.{Row}
use Rattle.links.specs.declared.links.Links.{Links}
use Rattle.links.specs.Linked.{Linked}
use Rattle.links.specs.Chains.{start, end}
use Rattle.links.specs.Rows.{row_at, parent_at, size_at, number_at, step_by, leader_at}
use Rattle.links.specs.Joined.{joined, row_of, parent_of, size_of, leader_of}

-- of two leaders, h goes under w: its set is smaller, or as large and its number higher
abbrev pub Yields : Links → ℕ → ℕ → Type 0
Yields links h w = (size_of links h < size_of links w) ⊎ ((size_of links h ≡ size_of links w) × (w < h))

-- h and w lead the sets of a and b, in either order
abbrev pub Leaders : Links → ℕ → ℕ → ℕ → ℕ → Type 0
Leaders links a b h w = ((leader_of links a ≡ h) × (leader_of links b ≡ w)) ⊎ ((leader_of links b ≡ h) × (leader_of links a ≡ w))

-- the edge that the hung leader h keeps of a join over (a, b): the step out of its set goes up where its set is that of a
abbrev pub edge_for : Links → ℕ → ℕ → ℕ → Edge
edge_for links a b h = record { low = a; high = b; sign = cond (leader_of links a == h) Plus Minus; number = links.joins }

-- (a, b) joined two sets: the leader h of the one was hung under the leader w of the other, and nothing else changed
pub record Made (links links' : Links) (a b h w : ℕ) : Type 0 where
  pub range : a < b
  pub apart : Linked (joined links) a b → ⊥
  pub first : joined links' ≡ record { low = a; high = b } ∷ joined links
  pub leaders : Leaders links a b h w
  pub yields : Yields links h w
  pub hangs : row_of links' h ≡ record { parent = w; size = size_of links h; edge = Some (edge_for links a b h) }
  pub grows : row_of links' w ≡ record { parent = parent_of links w; size = size_of links w + size_of links h; edge = (row_of links w).edge }
  pub rest : (i : ℕ) → (i ≢ h) → (i ≢ w) → row_of links' i ≡ row_of links i
  pub moves : (i : ℕ) → leader_of links' i ≡ cond (leader_of links i == h) w (leader_of links i)

-- (a, b) is no range, or its ends are linked already, and nothing changed
pub record Declined (links links' : Links) (a b : ℕ) : Type 0 where
  pub reason : (b ≤ a) ⊎ Linked (joined links) a b
  pub same : links' ≡ links

-- h and w lead the two sets that the edge e, of join number k, leads out of and into
pub record Joins (rows : List Row) (k h w : ℕ) (e : Edge) : Type 0 where
  pub h_in : h < 1024
  pub w_in : w < 1024
  pub h_leads : 1024 ≤ number_at rows h
  pub w_leads : 1024 ≤ number_at rows w
  pub two : h ≡ w → ⊥
  pub next : e.number ≡ k
  pub from : leader_at rows k (start (step_by (Some e))) ≡ h
  pub into : leader_at rows k (end (step_by (Some e))) ≡ w
  pub low_high : e.low < e.high
  pub high_in : e.high < 1024

-- rows' are the rows after a join over the edge e that hung h under w
pub record Hangs (rows rows' : List Row) (h w : ℕ) (e : Edge) : Type 0 where
  pub long : length rows' ≡ 1024
  pub hangs : row_at rows' h ≡ record { parent = w; size = size_at rows h; edge = Some e }
  pub grows : row_at rows' w ≡ record { parent = parent_at rows w; size = size_at rows w + size_at rows h; edge = (row_at rows w).edge }
  pub rest : (i : ℕ) → (i ≢ h) → (i ≢ w) → row_at rows' i ≡ row_at rows i
