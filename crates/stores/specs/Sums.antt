-- The sum of the readings of a range of slots, and what adding them up answers. Assumes nothing.
use Rattle.std.specs.Prelude.{◌≡◌, ℕ, zero, suc, ◌+◌, ◌-◌, ◌<◌, ◌≤◌, Ok, Err, Result}
use Rattle.kinds.specs.Group.{Group}
use Rattle.stores.specs.declared.store.Mark.{Mark}
use Rattle.stores.specs.declared.store.Mark.TheVariants as mark
use Rattle.stores.specs.declared.sums.RangeFault.{RangeFault}
use Rattle.stores.specs.declared.sums.RangeFault.TheVariants.{BeyondEnd, Empty}
use Rattle.stores.specs.declared.store.Reading.{Reading}
use Rattle.stores.specs.declared.store.Reading.TheVariants.{Value, Missing, Outside}
use Rattle.stores.specs.declared.sums.SumFault.{SumFault}
use Rattle.stores.specs.declared.sums.SumFault.TheVariants.{Lost, Refused}
use Rattle.stores.specs.Log.{Log}

-- the readings of so many slots from low on, added up
abbrev pub total : {V : Type 0} → Group V → (ℕ → V) → ℕ → ℕ → V
total G reading low zero = G.zero
total G reading low (suc count) = G.plus (total G reading low count) (reading (low + count))

-- the sum of a range: of its slots low to high − 1
abbrev pub range_sum : {V : Type 0} → Group V → (ℕ → V) → ℕ → ℕ → V
range_sum G reading low high = total G reading low (high - low)

-- each slot from low to high − 1 is kept
abbrev pub AllKept : (ℕ → Mark) → ℕ → ℕ → Type 0
AllKept marks low high = (i : ℕ) → low ≤ i → i < high → marks i ≡ mark.Kept

-- slot is the lowest lost one of low to high − 1
pub record LowestLost (marks : ℕ → Mark) (low high slot : ℕ) : Type 0 where
  pub above : low ≤ slot
  pub below : slot < high
  pub lost : marks slot ≡ mark.Lost
  pub lowest : AllKept marks low slot

-- a range of slots within the log, with at least one slot
abbrev pub Range : {V : Type 0} → Log V → ℕ → ℕ → Type 0
Range log low high = (high ≤ log.slots) × (low < high)

-- each fault's number: 5 a range beyond the end, 6 one without slots
abbrev pub fault_number : RangeFault → ℕ
fault_number BeyondEnd = 5
fault_number Empty = 6

-- when a range is turned back: for its end first
abbrev pub Faulty : {V : Type 0} → Log V → ℕ → ℕ → RangeFault → Type 0
Faulty log low high BeyondEnd = log.slots < high
Faulty log low high Empty = (high ≤ log.slots) × (high ≤ low)

-- what adding up a range answers: the sum where every slot is kept, else the first lost slot
abbrev pub Answers : {V : Type 0} → Group V → Log V → ℕ → ℕ → Result V SumFault → Type 0
Answers G log low high (Ok v) = Range log low high × AllKept log.mark low high × (v ≡ range_sum G log.reading low high)
Answers G log low high (Err (Lost slot)) = Range log low high × LowestLost log.mark low high slot
Answers G log low high (Err (Refused fault)) = Faulty log low high fault

-- the same answer, with the value that the sum means
abbrev pub valued_sum : {R V : Type 0} → (R → V) → Result R SumFault → Result V SumFault
valued_sum f (Ok x) = Ok (f x)
valued_sum f (Err fault) = Err fault

-- what a slot adds to a sum, or the fault of a range that has it
abbrev pub kept_at : {R : Type 0} → ℕ → Reading R → Result R SumFault
kept_at slot (Value x) = Ok x
kept_at slot Missing = Err (Lost slot)
kept_at slot Outside = Err (Refused BeyondEnd)
