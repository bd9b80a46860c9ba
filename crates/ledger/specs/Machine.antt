-- The step machine of a ledger: what a query and a rehearsal answer, and what they leave. Assumes nothing.
use Rattle.std.specs.Prelude.{◌≡◌, ℕ, Bool, cond, ◌&&◌, List, [], ◌∷◌, ◌++◌, length, drop, Some, None, Option, ◌==◌, nat_le, nat_lt}
use Rattle.links.specs.Ranges.{Range}
use Rattle.links.specs.declared.step.Step.{Step}
use Rattle.distances.specs.Sums.{chain_sum}
use Rattle.kinds.specs.Group.{Group}
use Rattle.stores.specs.Log.{Log}
use Rattle.stores.specs.Sums.{range_sum, AllKept, LowestLost}
use Rattle.ledger.specs.Rules.{Rule}
use Rattle.ledger.specs.Judgement.{Verdict, Judged}
use Rattle.ledger.specs.declared.answer.Fault.{Fault}
use Rattle.ledger.specs.declared.answer.Answer.{Answer}
use Rattle.ledger.specs.declared.answer.Trial.{Trial}
use Rattle.ledger.specs.declared.answer.Counts.{Counts}
use Rattle.ledger.specs.Answers.{counted, count}

-- a joining release: a range that linked two boundaries, with its sum
pub record Release (V : Type 0) : Type 0 where
  pub range : Range
  pub amount : V

-- A ledger: its joining releases, newest first, the length of its table of distances, and its counts.
pub record Ledger (V : Type 0) : Type 0 where
  pub joined : List (Release V)
  pub distances : ℕ
  pub counts : Counts

-- a ledger just opened on a table of d distances
abbrev pub opened : {V : Type 0} → ℕ → Ledger V
opened d = record { joined = []; distances = d; counts = record { released = 0; withheld = 0; lost = 0; malformed = 0 } }

-- the ranges of the releases
abbrev pub ranges : {V : Type 0} → List (Release V) → List Range
ranges [] = []
ranges (x ∷ xs) = x.range ∷ ranges xs

-- the two ranges have the same ends
abbrev pub same_range : Range → Range → Bool
same_range r s = r.low == s.low && r.high == s.high

-- the sum with which a range joined; zero for one that did not
abbrev pub amount_of : {V : Type 0} → Group V → List (Release V) → Range → V
amount_of G [] r = G.zero
amount_of G (x ∷ xs) r = cond (same_range r x.range) x.amount (amount_of G xs r)

-- a query for the sum of the slots low to high − 1, with the table that a chain may be written to
pub record Query : Type 0 where
  pub low : ℕ
  pub high : ℕ
  pub table : List Step

-- the range that a query asks for
abbrev pub asked : Query → Range
asked q = record { low = q.low; high = q.high }

-- the first fault of a range's ends, of a log of so many slots
abbrev pub ends_fault : (slots low high : ℕ) → Option Fault
ends_fault slots low high =
    cond (nat_lt slots high) (Some Fault.Beyond) (
    cond (nat_le high low) (Some Fault.Backward) None)

-- the first fault of a range and the tables that come with it
abbrev pub range_fault : (slots distances steps low high : ℕ) → Option Fault
range_fault slots distances steps low high =
    cond (nat_lt 1023 slots) (Some Fault.LongLog) (
    cond (nat_lt distances 1024) (Some Fault.FewDistances) (
    cond (nat_lt steps 1023) (Some Fault.FewSteps) (
    ends_fault slots low high)))

-- the first fault that a query meets, of a log of n slots: a full ledger's before all others
abbrev pub fault : {V : Type 0} → Ledger V → ℕ → Query → Option Fault
fault s n q =
    cond (counted s.counts == 65535) (Some Fault.Full) (range_fault n s.distances (length q.table) q.low q.high)

-- the query meets no fault
abbrev pub WellFormed : {V : Type 0} → Log V → Ledger V → Query → Type 0
WellFormed log s q = fault s log.slots q ≡ None

-- the table with the chain in its first steps
abbrev pub written : List Step → List Step → List Step
written ss table = ss ++ drop (length ss) table

-- what a query returns, its table afterwards, and the ledger that it leaves
pub record Outcome (V : Type 0) : Type 0 where
  pub answer : Answer V
  pub table : List Step
  pub after : Ledger V

-- an answer is counted, and the joining releases are then these
abbrev pub leaving : {V : Type 0} → Ledger V → Answer V → List Step → List (Release V) → Outcome V
leaving s a table xs = record { answer = a; table = table; after = record { joined = xs; distances = s.distances; counts = count a s.counts } }

-- a query that joins nothing and writes no chain
abbrev pub standing : {V : Type 0} → Ledger V → Query → Answer V → Outcome V
standing s q a = leaving s a q.table s.joined

-- a query withheld for the pair p, whose chain is written
abbrev pub withholding : {V : Type 0} → Ledger V → Query → Range → List Step → Outcome V
withholding s q p ss = leaving s (Answer.Withheld p (length ss)) (written ss q.table) s.joined

-- a query whose sum is released and joins
abbrev pub joining : {V : Type 0} → Ledger V → Query → V → Outcome V
joining s q v = leaving s (Answer.Released v) q.table (record { range = asked q; amount = v } ∷ s.joined)

-- What a query does on a ledger over a log, under a rule: the first of five cases that applies.
pub data Asked {V : Type 0} (G : Group V) (log : Log V) (rule : Rule) (s : Ledger V) (q : Query) : Outcome V → Type 0 where
  -- it meets a fault, and is turned back
  turned_back : {f : Fault} → fault s log.slots q ≡ Some f → Asked G log rule s q (standing s q (Answer.Refused f))
  -- its ends are linked already: the sum of the chain between them, with no look at the log
  known : {ss : List Step} → WellFormed log s q → Judged (ranges s.joined) rule (asked q) (Verdict.Known ss) → Asked G log rule s q (standing s q (Answer.Released (chain_sum G (amount_of G s.joined) ss)))
  -- it would give away a pair: withheld
  withheld : {p : Range} {ss : List Step} → WellFormed log s q → Judged (ranges s.joined) rule (asked q) (Verdict.Hidden p ss) → Asked G log rule s q (withholding s q p ss)
  -- a slot is lost: the lowest is named
  lost : {k : ℕ} → WellFormed log s q → Judged (ranges s.joined) rule (asked q) Verdict.Free → LowestLost log.mark q.low q.high k → Asked G log rule s q (standing s q (Answer.LostSlot k))
  -- the sum of the slots is released and joins
  released : WellFormed log s q → Judged (ranges s.joined) rule (asked q) Verdict.Free → AllKept log.mark q.low q.high → Asked G log rule s q (joining s q (range_sum G log.reading q.low q.high))

-- a range tried in a rehearsal, against a rule and a slot count of its own
pub record Try : Type 0 where
  pub low : ℕ
  pub high : ℕ
  pub rule : Rule
  pub slots : ℕ

-- the range that is tried
abbrev pub try_range : Try → Range
try_range t = record { low = t.low; high = t.high }

-- the first fault that a try meets
abbrev pub try_fault : Try → Option Fault
try_fault t =
    cond (nat_lt 1023 t.slots) (Some Fault.LongLog) (
    ends_fault t.slots t.low t.high)

-- What a try answers, judged by the joined ranges and those found free before it, and the ranges that the next try is judged by.
pub data Tried (js : List Range) (t : Try) : Trial → List Range → Type 0 where
  turned_back : {f : Fault} → try_fault t ≡ Some f → Tried js t (Trial.Refused f) js
  -- its ends are linked already: free, and nothing joins
  known : {ss : List Step} → try_fault t ≡ None → Judged js t.rule (try_range t) (Verdict.Known ss) → Tried js t Trial.Free js
  withheld : {p : Range} {ss : List Step} → try_fault t ≡ None → Judged js t.rule (try_range t) (Verdict.Hidden p ss) → Tried js t (Trial.Withheld p) js
  -- free, and it joins
  free : try_fault t ≡ None → Judged js t.rule (try_range t) Verdict.Free → Tried js t Trial.Free (try_range t ∷ js)

-- What the tries of a rehearsal answer, one after another; the ledger is not touched.
pub data Rehearsed : List Range → List Try → List Trial → Type 0 where
  ended : {js : List Range} → Rehearsed js [] []
  tries : {js ks : List Range} {t : Try} {ts : List Try} {x : Trial} {xs : List Trial} → Tried js t x ks → Rehearsed ks ts xs → Rehearsed js (t ∷ ts) (x ∷ xs)
