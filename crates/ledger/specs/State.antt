-- What a ledger stands for: its links and the distances handed in with them are a list of joining releases with their sums. Assumes nothing.
use Rattle.std.specs.Prelude.{◌≡◌, ℕ, Bool, ◌⊎◌, List, ◌∷◌, map, length, ◌≢◌}
use Rattle.kinds.specs.Group.{Group}
use Rattle.links.specs.declared.links.Links.{Links}
use Rattle.links.specs.Ranges.{Range}
use Rattle.links.specs.declared.step.Step.{Step}
use Rattle.links.specs.Joined.{joined}
use Rattle.rules.specs.Ordered.{Ordered}
use Rattle.stores.specs.Log.{Log}
use Rattle.stores.specs.Sums.{range_sum, AllKept, LowestLost}
use Rattle.distances.specs.Distance.{amount, Between}
use Rattle.distances.specs.Kept.{Laid}
use Rattle.ledger.specs.declared.answer.Answer.{Answer}
use Rattle.ledger.specs.declared.answer.Counts.{Counts}
use Rattle.ledger.specs.Answers.{counted}
use Rattle.ledger.specs.Machine.{Release, Ledger, WellFormed, Asked, leaving}
use Rattle.ledger.specs.Rules.{Rule}

-- the rule that a value of a rule's type means
abbrev pub rule_of : (says : ℕ → ℕ → Bool) → Ordered says → Rule
rule_of says ordered = record { says = says; backward = ordered }

-- the same answer, with the value that a released sum means
abbrev pub valued_answer : {K V : Type 0} → (K → V) → Answer K → Answer V
valued_answer f (Answer.Released x) = Answer.Released (f x)
valued_answer f (Answer.Withheld p m) = Answer.Withheld p m
valued_answer f (Answer.LostSlot k) = Answer.LostSlot k
valued_answer f (Answer.Refused fault) = Answer.Refused fault

-- a joining range with its sum
abbrev pub release_of : {V : Type 0} → Group V → Links → List V → Range → Release V
release_of G links table r = record { range = r; amount = amount G links table r }

-- the joining releases, newest first: their ranges come from the links, their sums from the distances
abbrev pub releases_of : {V : Type 0} → Group V → Links → List V → List (Release V)
releases_of G links table = map (release_of G links table) (joined links)

-- the links, the distances and the counts together
abbrev pub state_of : {V : Type 0} → Group V → Links → List V → Counts → Ledger V
state_of G links table counts = record { joined = releases_of G links table; distances = length table; counts = counts }

-- What a query does to the parts of a ledger and to a table of chain steps, and what it answers: as the machine has it.
abbrev pub Queried : {V : Type 0} → Group V → Log V → Rule → (links links' : Links) (table table' : List V) (counts counts' : Counts) (steps steps' : List Step) (low high : ℕ) → Answer V → Type 0
Queried G log rule links links' table table' counts counts' steps steps' low high answer =
    Asked G log rule (state_of G links table counts) (record { low = low; high = high; table = steps })
    (record { answer = answer; table = steps'; after = state_of G links' table' counts' })

-- links and distances are just as they were; or the range joined them with a sum, which changed two rows and one entry alone
abbrev pub SameOrJoined : {K V : Type 0} → Group V → (K → V) → (links links' : Links) (table table' : List K) (low high : ℕ) → Type 0
SameOrJoined {K} {V} G meaning links links' table table' low high =
    ((links' ≡ links) × (table' ≡ table)) ⊎ ((h : ℕ) × (w : ℕ) × (sum : V) × Laid G meaning links links' table table' low high h w sum)

-- What a free query does: its sum is released and joins, where every slot is kept; else its lowest lost slot is named, and nothing joins.
abbrev pub Freed : {V : Type 0} → Group V → Log V → (links links' : Links) (table table' : List V) (low high : ℕ) → Answer V → Type 0
Freed G log links links' table table' low high (Answer.Released v) =
    AllKept log.mark low high × (v ≡ range_sum G log.reading low high) × (releases_of G links' table' ≡ record { range = record { low = low; high = high }; amount = v } ∷ releases_of G links table)
Freed G log links links' table table' low high (Answer.LostSlot k) =
    LowestLost log.mark low high k × (releases_of G links' table' ≡ releases_of G links table)
Freed G log links links' table table' low high (Answer.Withheld p m) = ⊥
Freed G log links links' table table' low high (Answer.Refused fault) = ⊥

-- the answer is the release of what lies between two linked boundaries
abbrev pub IsBetween : {V : Type 0} → Group V → Links → List V → ℕ → ℕ → Answer V → Type 0
IsBetween G links table a b (Answer.Released v) = Between G links table a b v
IsBetween G links table a b (Answer.Withheld p m) = ⊥
IsBetween G links table a b (Answer.LostSlot k) = ⊥
IsBetween G links table a b (Answer.Refused fault) = ⊥

-- What a query does before it is counted, whatever the counts are: the machine's outcome, where the query is well-formed.
abbrev pub Settles : {V : Type 0} → Group V → Log V → Rule → (links links' : Links) (table table' : List V) (steps steps' : List Step) (low high : ℕ) → Answer V → Type 0
Settles G log rule links links' table table' steps steps' low high answer =
    (counts : Counts) → WellFormed log (state_of G links table counts) (record { low = low; high = high; table = steps }) →
    Asked G log rule (state_of G links table counts) (record { low = low; high = high; table = steps })
    (leaving (state_of G links table counts) answer steps' (releases_of G links' table'))

-- What a query does before it is counted, on a ledger that is not full: the machine's outcome.
abbrev pub Responds : {V : Type 0} → Group V → Log V → Rule → (links links' : Links) (table table' : List V) (steps steps' : List Step) (low high : ℕ) → Answer V → Type 0
Responds G log rule links links' table table' steps steps' low high answer =
    (counts : Counts) → (counted counts ≢ 65535) →
    Asked G log rule (state_of G links table counts) (record { low = low; high = high; table = steps })
    (leaving (state_of G links table counts) answer steps' (releases_of G links' table'))
