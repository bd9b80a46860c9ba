-- Steps written into a table: what stood before and after them stays. Assumes nothing.
use Rattle.std.specs.Prelude.{◌≡◌, ℕ, ◌+◌, ◌<◌, ◌≤◌, ◌⊎◌, List, ◌++◌, length, take, drop}
use Rattle.links.specs.Ranges.{Range}
use Rattle.links.specs.declared.step.Step.{Step}
use Rattle.links.specs.Linked.{Linked}
use Rattle.links.specs.Chains.{Chain}

-- the table with the steps ss from place i on
unfoldable pub put : List Step → ℕ → List Step → List Step
put table i ss = take i table ++ (ss ++ drop (i + length ss) table)

-- the first n steps of the table are a chain from i to j over released ranges alone, whatever the new query is; the rest is as before
pub record Written (js : List Range) (i j n : ℕ) (before after : List Step) : Type 0 where
  pub chain : (q : Range) → Chain js q i j (take n after)
  pub short : n < 1024
  pub room : 1023 ≤ length before
  pub rest : drop n after ≡ drop n before
  pub long : length after ≡ length before

-- the table has fewer than 1,023 steps, or i and j are not linked, and it is as before
pub record Unwritten (js : List Range) (i j : ℕ) (before after : List Step) : Type 0 where
  pub reason : (length before < 1023) ⊎ (Linked js i j → ⊥)
  pub same : after ≡ before
