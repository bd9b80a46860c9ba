-- Sets of readings: one value for each slot of a log, lost slots too. Assumes nothing.
use Rattle.std.specs.Prelude.{ℕ}
use Rattle.stores.specs.Log.{Log}

-- the same slots and marks, with other readings
abbrev pub with_readings : {V : Type 0} → Log V → (ℕ → V) → Log V
with_readings log r = record { slots = log.slots; reading = r; mark = log.mark }
