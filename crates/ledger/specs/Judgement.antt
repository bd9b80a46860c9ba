-- How a range is judged, by the ranges joined so far and a rule; no reading is looked at. Assumes nothing.
use Rattle.std.specs.Prelude.{◌≡◌, ℕ, false, List}
use Rattle.links.specs.Ranges.{Range}
use Rattle.links.specs.declared.step.Step.{Step}
use Rattle.links.specs.Linked.{Linked}
use Rattle.links.specs.Chains.{Chain}
use Rattle.links.specs.Rings.{Earlier}
use Rattle.judgement.specs.Judgement.{Newly, Named}
use Rattle.ledger.specs.Rules.{Rule}

-- what is found of a range: the chain between its linked ends, the pair that it would give away with the chain there, or nothing against it
pub data Verdict : Type 0 where
  Known : List Step → Verdict
  Hidden : Range → List Step → Verdict
  Free : Verdict

-- the verdict on q: its ends are linked already; or it newly links a pair with a yes; or neither
pub data Judged (js : List Range) (rule : Rule) (q : Range) : Verdict → Type 0 where
  known : {ss : List Step} → Linked js q.low q.high → Chain js q q.low q.high ss → Earlier ss → Judged js rule q (Verdict.Known ss)
  hidden : {p : Range} {ss : List Step} → (Linked js q.low q.high → ⊥) → Named js rule.says q p → Chain js q p.low p.high ss → Judged js rule q (Verdict.Hidden p ss)
  free : (Linked js q.low q.high → ⊥) → ((i j : ℕ) → Newly js q i j → rule.says i j ≡ false) → Judged js rule q Verdict.Free
