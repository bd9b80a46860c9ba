-- What else holds of every list of calls: sums and chains are true, and just one answer is drawn at each call. Assumes nothing.
use Rattle.std.specs.Prelude.{◌≡◌, ℕ, ◌≤◌, List, [], ◌∷◌, ◌++◌}
use Rattle.kinds.specs.Group.{Group}
use Rattle.links.specs.Ranges.{Range}
use Rattle.links.specs.Rings.{Ringless}
use Rattle.stores.specs.Log.{Log}
use Rattle.stores.specs.Sums.{range_sum}
use Rattle.ledger.specs.declared.answer.Answer.{Answer}
use Rattle.ledger.specs.Answers.{counted}
use Rattle.ledger.specs.Machine.{Ledger, opened, ranges, Query}
use Rattle.ledger.specs.Rules.{Rule}
use Rattle.ledger.specs.Truth.{Within, Shown}
use Rattle.audit.specs.Runs.{Call, Reply, Runs, Place}

-- a released sum, from a chain or from the log, is the sum of the readings of its slots
abbrev pub SumsTrue : {V : Type 0} → Group V → Type 0
SumsTrue {V} G =
    (log : Log V) (rule : Rule) (d : ℕ) (calls : List Call) (replies : List (Reply V)) (e : Ledger V) → Runs G log rule (opened d) calls replies e →
    (p : Place G log rule d calls replies) (v : V) → p.outcome.answer ≡ Answer.Released v →
    v ≡ range_sum G log.reading p.query.low p.query.high

-- every withheld query shows the chain that ends at the pair it names, and sums to it
abbrev pub ChainsTrue : {V : Type 0} → Group V → Type 0
ChainsTrue {V} G =
    (log : Log V) (rule : Rule) (d : ℕ) (calls : List Call) (replies : List (Reply V)) (e : Ledger V) → Runs G log rule (opened d) calls replies e →
    (p : Place G log rule d calls replies) (pair : Range) (m : ℕ) → p.outcome.answer ≡ Answer.Withheld pair m →
    Shown G log rule p.ledger p.query p.outcome.table pair m

-- The joining releases of a list of calls lie within the log and close no ring.
abbrev pub NoRing : {V : Type 0} → Group V → Type 0
NoRing {V} G =
    (log : Log V) (rule : Rule) (d : ℕ) (calls : List Call) (replies : List (Reply V)) (e : Ledger V) → Runs G log rule (opened d) calls replies e →
    Within log.slots (ranges e.joined) × Ringless (ranges e.joined)

-- The four counts of a list of calls never sum to more than 65,535.
abbrev pub CountsWithin : {V : Type 0} → Group V → Type 0
CountsWithin {V} G =
    (log : Log V) (rule : Rule) (d : ℕ) (calls : List Call) (replies : List (Reply V)) (e : Ledger V) → Runs G log rule (opened d) calls replies e →
    counted e.counts ≤ 65535

-- A list of calls draws just one list of replies and leaves one ledger.
abbrev pub OneRun : {V : Type 0} → Group V → Type 0
OneRun {V} G =
    (log : Log V) (rule : Rule) (d : ℕ) (calls : List Call) →
    (replies : List (Reply V)) × (e : Ledger V) × Runs G log rule (opened d) calls replies e ×
    ((replies' : List (Reply V)) (e' : Ledger V) → Runs G log rule (opened d) calls replies' e' → (replies' ≡ replies) × (e' ≡ e))

-- Every query of a list of calls has its place in the run.
abbrev pub EveryPlace : {V : Type 0} → Group V → Type 0
EveryPlace {V} G =
    (log : Log V) (rule : Rule) (d : ℕ) (before : List Call) (q : Query) (later : List Call) (replies : List (Reply V)) (e : Ledger V) →
    Runs G log rule (opened d) (before ++ (Call.Ask q ∷ later)) replies e →
    (p : Place G log rule d (before ++ (Call.Ask q ∷ later)) replies) × (p.before ≡ before) × (p.query ≡ q) × (p.later ≡ later)

-- the queries of a list of calls
abbrev pub queries : List Call → List Call
queries [] = []
queries (Call.Ask q ∷ cs) = Call.Ask q ∷ queries cs
queries (Call.Rehearse ts ∷ cs) = queries cs

-- the replies to queries
abbrev pub answers : {V : Type 0} → List (Reply V) → List (Reply V)
answers [] = []
answers (Reply.Answered a t c ∷ rs) = Reply.Answered a t c ∷ answers rs
answers (Reply.Tried xs c ∷ rs) = answers rs

-- With its rehearsals left out a list of calls draws the same replies to its queries, and leaves the same ledger.
abbrev pub RehearsalsIdle : {V : Type 0} → Group V → Type 0
RehearsalsIdle {V} G =
    (log : Log V) (rule : Rule) (d : ℕ) (calls : List Call) (replies : List (Reply V)) (e : Ledger V) → Runs G log rule (opened d) calls replies e →
    Runs G log rule (opened d) (queries calls) (answers replies) e
