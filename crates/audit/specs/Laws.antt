-- The three laws of every list of calls on a ledger, from its opening on, over one log and under one rule. Assumes nothing.
use Rattle.std.specs.Prelude.{◌≡◌, ℕ, ◌↔◌, List, [], ◌∷◌, ◌++◌, map}
use Rattle.links.specs.Ranges.{Range}
use Rattle.links.specs.Linked.{Listed}
use Rattle.kinds.specs.Group.{Group}
use Rattle.stores.specs.Log.{Log}
use Rattle.stores.specs.Sums.{range_sum}
use Rattle.audit.specs.Readings.{with_readings}
use Rattle.ledger.specs.Rules.{Rule, Protected}
use Rattle.ledger.specs.declared.answer.Answer.{Answer}
use Rattle.ledger.specs.Machine.{Ledger, opened, Query, asked, WellFormed}
use Rattle.audit.specs.Runs.{Call, Reply, Runs, Place}

-- two sets of readings are alike in the range (a, b): its sums are equal
abbrev pub Alike : {V : Type 0} → Group V → (ℕ → V) → (ℕ → V) → ℕ → ℕ → Type 0
Alike G r r' a b = range_sum G r a b ≡ range_sum G r' a b

-- the query's range, where the answer is a sum
abbrev released_as : {V : Type 0} → Query → Answer V → List Range
released_as q (Answer.Released v) = asked q ∷ []
released_as q (Answer.Withheld p m) = []
released_as q (Answer.LostSlot k) = []
released_as q (Answer.Refused f) = []

-- a rehearsal releases nothing
abbrev released_by : {V : Type 0} → Call → Reply V → List Range
released_by (Call.Ask q) (Reply.Answered a t c) = released_as q a
released_by (Call.Ask q) (Reply.Tried xs c) = []
released_by (Call.Rehearse ts) (Reply.Answered a t c) = []
released_by (Call.Rehearse ts) (Reply.Tried xs c) = []

-- the ranges whose sums were released, whether from a chain or from the log
abbrev pub releases : {V : Type 0} → List Call → List (Reply V) → List Range
releases [] [] = []
releases [] (r ∷ rs) = []
releases (c ∷ cs) [] = []
releases (c ∷ cs) (r ∷ rs) = released_by c r ++ releases cs rs

-- For some protected range, any two sets of readings alike in all of the ranges given and in q are alike there.
abbrev pub GivesAway : {V : Type 0} → Group V → ℕ → Rule → List Range → Range → Type 0
GivesAway {V} G n rule given q =
    (i : ℕ) × (j : ℕ) × Protected n rule i j ×
    ((r r' : ℕ → V) → ((x : Range) → Listed x given → Alike G r r' x.low x.high) → Alike G r r' q.low q.high → Alike G r r' i j)

-- the answer is that the query is withheld
abbrev pub IsWithheld : {V : Type 0} → Answer V → Type 0
IsWithheld (Answer.Released v) = ⊥
IsWithheld (Answer.Withheld p m) = Unit {0}
IsWithheld (Answer.LostSlot k) = ⊥
IsWithheld (Answer.Refused f) = ⊥

-- First law. Wherever a well-formed query stands, it is withheld exactly when all sums released before it, with its own, would give a protected range away.
abbrev pub WithheldExactly : {V : Type 0} → Group V → Type 0
WithheldExactly {V} G =
    (log : Log V) (rule : Rule) (d : ℕ) (calls : List Call) (replies : List (Reply V)) (e : Ledger V) → Runs G log rule (opened d) calls replies e →
    (p : Place G log rule d calls replies) → WellFormed log p.ledger p.query →
    IsWithheld p.outcome.answer ↔ GivesAway G log.slots rule (releases p.before p.earlier) (asked p.query)

-- Second law. For every protected range and every value, some set of readings, with the same slots lost, draws the same replies from the whole list and sums to that value there.
abbrev pub AnyValue : {V : Type 0} → Group V → Type 0
AnyValue {V} G =
    (log : Log V) (rule : Rule) (d : ℕ) (calls : List Call) (replies : List (Reply V)) (e : Ledger V) → Runs G log rule (opened d) calls replies e →
    (i j : ℕ) → Protected log.slots rule i j → (v : V) →
    (r' : ℕ → V) × (e' : Ledger V) × Runs G (with_readings log r') rule (opened d) calls replies e' × (range_sum G r' i j ≡ v)

-- an answer but for the value of a released sum
abbrev veiled_answer : {V : Type 0} → Answer V → Answer (Unit {0})
veiled_answer (Answer.Released v) = Answer.Released tt
veiled_answer (Answer.Withheld p m) = Answer.Withheld p m
veiled_answer (Answer.LostSlot k) = Answer.LostSlot k
veiled_answer (Answer.Refused f) = Answer.Refused f

-- a reply but for the value of a released sum
abbrev pub veiled : {V : Type 0} → Reply V → Reply (Unit {0})
veiled (Reply.Answered a t c) = Reply.Answered (veiled_answer a) t c
veiled (Reply.Tried xs c) = Reply.Tried xs c

-- Third law. Any two sets of readings, with the same slots lost, draw the same replies from the whole list, but for the values of released sums.
abbrev pub ReadingsUnseen : {V : Type 0} → Group V → Type 0
ReadingsUnseen {V} G =
    (log : Log V) (rule : Rule) (d : ℕ) (calls : List Call) (r r' : ℕ → V) (replies replies' : List (Reply V)) (e e' : Ledger V) →
    Runs G (with_readings log r) rule (opened d) calls replies e →
    Runs G (with_readings log r') rule (opened d) calls replies' e' →
    map veiled replies ≡ map veiled replies'
