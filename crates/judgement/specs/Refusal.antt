-- The chain that a refusal shows, as it is written into a table of steps. Assumes nothing.
use Rattle.std.specs.Prelude.{◌≡◌, ℕ, ◌<◌, ◌≤◌, ◌⊎◌, List, ◌∷◌, length, take, drop}
use Rattle.links.specs.Ranges.{Range}
use Rattle.links.specs.declared.step.Origin.TheVariants.{New}
use Rattle.links.specs.declared.step.Step.{Step}
use Rattle.links.specs.Linked.{Linked}
use Rattle.links.specs.Chains.{range_of, start, end, Chain}

-- q links i and j, which the joined ranges alone leave apart
abbrev pub OnlyWith : List Range → Range → ℕ → ℕ → Type 0
OnlyWith js q i j = Linked (q ∷ js) i j × (Linked js i j → ⊥)

-- the first n steps of the table are a chain from i to j over the joined ranges and q, and the rest is as before
pub record Shown (js : List Range) (q : Range) (i j n : ℕ) (before after : List Step) : Type 0 where
  pub chain : Chain js q i j (take n after)
  pub short : n ≤ 1023
  pub room : 1023 ≤ length before
  pub rest : drop n after ≡ drop n before
  pub long : length after ≡ length before

-- the chain from p's low to its high end is written
pub record Explained (js : List Range) (q p : Range) (n : ℕ) (before after : List Step) : Type 0 where
  pub only : OnlyWith js q p.low p.high
  pub shown : Shown js q p.low p.high n before after

-- the table has fewer than 1,023 steps, or q does not link p's ends anew, and the table is as before
pub record Unexplained (js : List Range) (q p : Range) (before after : List Step) : Type 0 where
  pub reason : (length before < 1023) ⊎ (OnlyWith js q p.low p.high → ⊥)
  pub same : after ≡ before

-- s is a new step from near to far, which the joined ranges leave apart
pub record NewStep (js : List Range) (near far : ℕ) (s : Step) : Type 0 where
  pub apart : Linked js near far → ⊥
  pub new : s.origin ≡ New
  pub starts : start s ≡ near
  pub ends : end s ≡ far

-- the joined ranges lead from i to near and from far to j, and a chain with the step s between is written
pub record Crossed (js : List Range) (near far : ℕ) (s : Step) (i j n : ℕ) (before after : List Step) : Type 0 where
  pub here : Linked js i near
  pub there : Linked js far j
  pub shown : Shown js (range_of s) i j n before after

-- the table has fewer than 1,023 steps, or the joined ranges lead not both from i to near and from far to j, and it is as before
pub record Uncrossed (js : List Range) (near far i j : ℕ) (before after : List Step) : Type 0 where
  pub reason : (length before < 1023) ⊎ (Linked js i near × Linked js far j → ⊥)
  pub same : after ≡ before
