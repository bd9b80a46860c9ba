-- How a range is judged, by the ranges joined so far and a rule; no reading is looked at. Assumes nothing.
use Rattle.std.specs.Prelude.{◌≡◌, ℕ, ◌<◌, ◌≤◌, Bool, true, false, ◌⊎◌, List, ◌∷◌}
use Rattle.links.specs.Ranges.{Range}
use Rattle.links.specs.Linked.{Linked}
use Rattle.judgement.specs.declared.finding.Finding.{Finding}
use Rattle.judgement.specs.declared.finding.Finding.TheVariants.{Linked as Known, Withheld, Free}

-- i < j are linked by the joined ranges with q, but not by them alone
pub record Newly (js : List Range) (q : Range) (i j : ℕ) : Type 0 where
  pub ordered : i < j
  pub linked : Linked (q ∷ js) i j
  pub apart : Linked js i j → ⊥

-- p is the pair to name: of the newly linked pairs with a yes, the one with the smallest i, then the smallest j
pub record Named (js : List Range) (says : ℕ → ℕ → Bool) (q p : Range) : Type 0 where
  pub newly : Newly js q p.low p.high
  pub said : says p.low p.high ≡ true
  pub first : (i j : ℕ) → Newly js q i j → says i j ≡ true → (p.low < i) ⊎ ((p.low ≡ i) × (p.high ≤ j))

-- the finding on q: its ends are linked already; or it newly links a pair with a yes, and the first such is named; or neither
abbrev pub Found : List Range → (ℕ → ℕ → Bool) → Range → Finding → Type 0
Found js says q Known = Linked js q.low q.high
Found js says q (Withheld p) = (Linked js q.low q.high → ⊥) × Named js says q p
Found js says q Free = (Linked js q.low q.high → ⊥) × ((i j : ℕ) → Newly js q i j → says i j ≡ false)
