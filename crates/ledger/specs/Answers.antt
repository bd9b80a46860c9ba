-- The answers' numbers, the values that go with them, and how they are counted. Assumes nothing.
use Rattle.std.specs.Prelude.{ℕ, ◌+◌, List, [], ◌∷◌}
use Rattle.ledger.specs.declared.answer.Fault.{Fault}
use Rattle.ledger.specs.declared.answer.Answer.{Answer}
use Rattle.ledger.specs.declared.answer.Trial.{Trial}
use Rattle.ledger.specs.declared.answer.Counts.{Counts}

-- the number of a fault
abbrev pub number : Fault → ℕ
number Fault.Full = 1
number Fault.LongLog = 2
number Fault.FewDistances = 3
number Fault.FewSteps = 4
number Fault.Beyond = 5
number Fault.Backward = 6

-- the number of an answer and the values that go with it; a release has no number
abbrev pub told : {V : Type 0} → Answer V → List ℕ
told (Answer.Released v) = []
told (Answer.Withheld p m) = 7 ∷ p.low ∷ p.high ∷ m ∷ []
told (Answer.LostSlot k) = 8 ∷ k ∷ []
told (Answer.Refused f) = number f ∷ []

-- the same of a try, which has no chain
abbrev pub told_trial : Trial → List ℕ
told_trial Trial.Free = []
told_trial (Trial.Withheld p) = 7 ∷ p.low ∷ p.high ∷ []
told_trial (Trial.Refused f) = number f ∷ []

-- how many queries were counted
abbrev pub counted : Counts → ℕ
counted c = c.released + c.withheld + c.lost + c.malformed

-- one malformed query more
abbrev one_malformed : Counts → Counts
one_malformed c = record { released = c.released; withheld = c.withheld; lost = c.lost; malformed = c.malformed + 1 }

-- each outcome adds one to its own count, but a query on a full ledger to none
abbrev pub count : {V : Type 0} → Answer V → Counts → Counts
count (Answer.Released v) c = record { released = c.released + 1; withheld = c.withheld; lost = c.lost; malformed = c.malformed }
count (Answer.Withheld p m) c = record { released = c.released; withheld = c.withheld + 1; lost = c.lost; malformed = c.malformed }
count (Answer.LostSlot k) c = record { released = c.released; withheld = c.withheld; lost = c.lost + 1; malformed = c.malformed }
count (Answer.Refused Fault.Full) c = c
count (Answer.Refused Fault.LongLog) c = one_malformed c
count (Answer.Refused Fault.FewDistances) c = one_malformed c
count (Answer.Refused Fault.FewSteps) c = one_malformed c
count (Answer.Refused Fault.Beyond) c = one_malformed c
count (Answer.Refused Fault.Backward) c = one_malformed c
