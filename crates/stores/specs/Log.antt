-- What a store means, and what reading it answers. Assumes nothing.
use Rattle.std.specs.Prelude.{◌≡◌, ℕ, cond, ◌==◌, nat_lt}
use Rattle.stores.specs.declared.store.Mark.{Mark}
use Rattle.stores.specs.declared.store.Mark.TheVariants.{Kept, Lost}
use Rattle.stores.specs.declared.store.Reading.{Reading}
use Rattle.stores.specs.declared.store.Reading.TheVariants.{Value, Missing, Outside}

-- a number of slots, and for each a reading and a mark; a lost slot has a reading too
pub record Log (R : Type 0) : Type 0 where
  pub slots : ℕ
  pub reading : ℕ → R
  pub mark : ℕ → Mark

-- mark byte 1 means kept, every other lost
abbrev pub mark_of : ℕ → Mark
mark_of byte = cond (byte == 1) Kept Lost

-- what a slot with that mark and reading answers
abbrev pub told : {R : Type 0} → Mark → R → Reading R
told Kept x = Value x
told Lost x = Missing

-- what reading slot i answers
abbrev pub answer : {R : Type 0} → Log R → ℕ → Reading R
answer log i = cond (nat_lt i log.slots) (told (log.mark i) (log.reading i)) Outside

-- the same answer, with the value that the reading means
abbrev pub valued : {R V : Type 0} → (R → V) → Reading R → Reading V
valued f (Value x) = Value (f x)
valued f Missing = Missing
valued f Outside = Outside

-- the same log, with the values that its readings mean
abbrev pub meant : {R V : Type 0} → (R → V) → Log R → Log V
meant f log = record { slots = log.slots; reading = λ i. f (log.reading i); mark = log.mark }

-- both have the same slots, and reading any slot answers the same
abbrev pub Alike : {V : Type 0} → Log V → Log V → Type 0
Alike a b = (a.slots ≡ b.slots) × ((i : ℕ) → answer a i ≡ answer b i)

-- an answer of a slot that is not kept is that it is missing
abbrev pub kept_or_missing : {R : Type 0} → Reading R → Reading R
kept_or_missing (Value x) = Value x
kept_or_missing Missing = Missing
kept_or_missing Outside = Missing
