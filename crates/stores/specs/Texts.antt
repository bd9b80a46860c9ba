-- Readings and faults as printed texts. Assumes nothing.
use Rattle.std.specs.Prelude.{ℕ, List, ◌++◌, Some, codes, decimal, Option}
use Rattle.stores.specs.declared.sums.RangeFault.{RangeFault}
use Rattle.stores.specs.declared.sums.RangeFault.TheVariants.{BeyondEnd, Empty}
use Rattle.stores.specs.declared.store.Reading.{Reading}
use Rattle.stores.specs.declared.store.Reading.TheVariants.{Value, Missing, Outside}
use Rattle.stores.specs.declared.sums.SumFault.{SumFault}
use Rattle.stores.specs.declared.sums.SumFault.TheVariants.{Lost, Refused}
use Rattle.stores.specs.Sums.{fault_number}

-- a value's own text, or a word
abbrev pub reading_text : {R : Type 0} → (R → Option (List ℕ)) → Reading R → Option (List ℕ)
reading_text text (Value x) = text x
reading_text text Missing = Some (codes "lost")
reading_text text Outside = Some (codes "outside")

abbrev pub range_fault_text : RangeFault → List ℕ
range_fault_text BeyondEnd = codes "ends beyond the last slot"
range_fault_text Empty = codes "has no slot"

-- the lost slot in base ten, or the fault of the range after its number
abbrev pub sum_fault_text : SumFault → List ℕ
sum_fault_text (Lost slot) = codes "lost slot " ++ decimal slot
sum_fault_text (Refused fault) = codes "refused " ++ decimal (fault_number fault) ++ codes ": " ++ range_fault_text fault
