-- Protection rules, and the ranges of a log that one protects. Assumes nothing.
use Rattle.std.specs.Prelude.{◌≡◌, ℕ, ◌<◌, ◌≤◌, Bool, true, false}

-- A rule says yes or no to each pair of boundaries, and no where the first is not below the second.
pub record Rule : Type 0 where
  pub says : ℕ → ℕ → Bool
  pub backward : (a b : ℕ) → b ≤ a → says a b ≡ false

-- (i, j) is a range within a log of n slots to which the rule says yes
pub record Protected (n : ℕ) (rule : Rule) (i j : ℕ) : Type 0 where
  pub ordered : i < j
  pub within : j ≤ n
  pub said : rule.says i j ≡ true
