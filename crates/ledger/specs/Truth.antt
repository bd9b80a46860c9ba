-- When a ledger is true to a log, and what its answers then say of the readings. Assumes nothing.
use Rattle.std.specs.Prelude.{◌≡◌, ℕ, ◌<◌, ◌≤◌, false, List, [], ◌∷◌, length}
use Rattle.distances.specs.Sums.{chain_sum}
use Rattle.kinds.specs.Group.{Group}
use Rattle.links.specs.Ranges.{Range}
use Rattle.links.specs.declared.step.Step.{Step}
use Rattle.links.specs.Linked.{Linked}
use Rattle.links.specs.Chains.{Chain}
use Rattle.links.specs.Rings.{Ringless, new_steps}
use Rattle.stores.specs.Log.{Log}
use Rattle.stores.specs.Sums.{range_sum}
use Rattle.ledger.specs.declared.answer.Answer.{Answer}
use Rattle.ledger.specs.declared.answer.Trial.{Trial}
use Rattle.ledger.specs.Machine.{Release, Ledger, ranges, Query, asked, Outcome, Asked, Try, Rehearsed, written}
use Rattle.ledger.specs.Rules.{Rule, Protected}

-- the sum of a range's readings
abbrev pub worth : {V : Type 0} → Group V → Log V → Range → V
worth G log r = range_sum G log.reading r.low r.high

-- the joining releases are ranges within a log of n slots
abbrev pub Within : ℕ → List Range → Type 0
Within n [] = Unit {0}
Within n (r ∷ js) = ((r.low < r.high) × (r.high ≤ n)) × Within n js

-- each joining release has the sum of its readings
abbrev pub AmountsTrue : {V : Type 0} → Group V → Log V → List (Release V) → Type 0
AmountsTrue G log [] = Unit {0}
AmountsTrue G log (x ∷ xs) = (x.amount ≡ worth G log x.range) × AmountsTrue G log xs

-- The joining releases are true to a log under a rule: they close no ring, lie within the log, give no protected range away, and have
-- the sums of their readings. Those of a ledger just opened are, and every query over that log and under that rule keeps them so.
pub record TrueTo {V : Type 0} (G : Group V) (log : Log V) (rule : Rule) (xs : List (Release V)) : Type 0 where
  pub ring : Ringless (ranges xs)
  pub within : Within log.slots (ranges xs)
  pub guarded : (i j : ℕ) → i < j → Linked (ranges xs) i j → rule.says i j ≡ false
  pub amounts : AmountsTrue G log xs

-- What a withheld query shows: a protected pair, and in the table's first steps the chain, once over the query, that leads from its low to
-- its high end and sums to it.
pub record Shown {V : Type 0} (G : Group V) (log : Log V) (rule : Rule) (s : Ledger V) (q : Query) (table : List Step) (p : Range) (m : ℕ) : Type 0 where
  pub steps : List Step
  pub protected : Protected log.slots rule p.low p.high
  pub many : m ≡ length steps
  pub shown : table ≡ written steps q.table
  pub chain : Chain (ranges s.joined) (asked q) p.low p.high steps
  pub fits : length steps ≤ length q.table
  pub once : new_steps steps ≡ 1
  pub summed : chain_sum G (worth G log) steps ≡ worth G log p

-- what an answer says of the log: a released sum, from a chain or from the slots, is the sum of its readings; a refusal shows its chain
abbrev pub ToldTrue : {V : Type 0} → Group V → Log V → Rule → Ledger V → Query → List Step → Answer V → Type 0
ToldTrue G log rule s q table (Answer.Released v) = v ≡ range_sum G log.reading q.low q.high
ToldTrue G log rule s q table (Answer.Withheld p m) = Shown G log rule s q table p m
ToldTrue G log rule s q table (Answer.LostSlot k) = Unit {0}
ToldTrue G log rule s q table (Answer.Refused f) = Unit {0}

-- on a ledger true to the log, the query is answered truly and the ledger stays true
abbrev pub StaysTrue : {V : Type 0} → Group V → Log V → Rule → Ledger V → Ledger V → Query → List Step → Answer V → Type 0
StaysTrue G log rule s s' q table answer =
    TrueTo G log rule s.joined → TrueTo G log rule s'.joined × ToldTrue G log rule s q table answer

-- On every ledger whose joining releases close no ring, a query has just one outcome.
abbrev pub OneOutcome : {V : Type 0} → Group V → Type 0
OneOutcome {V} G =
    (log : Log V) (rule : Rule) (s : Ledger V) → Ringless (ranges s.joined) → (q : Query) →
    (o : Outcome V) × Asked G log rule s q o × Ringless (ranges o.after.joined) × ((o' : Outcome V) → Asked G log rule s q o' → o' ≡ o)

-- Where the joined ranges close no ring, the tries of a rehearsal have just one list of answers.
abbrev pub OneRehearsal : Type 0
OneRehearsal =
    (js : List Range) → Ringless js → (ts : List Try) →
    (xs : List Trial) × Rehearsed js ts xs × ((xs' : List Trial) → Rehearsed js ts xs' → xs' ≡ xs)
