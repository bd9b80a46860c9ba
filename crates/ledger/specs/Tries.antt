-- What a try of the code stands for. Assumes nothing.
use Rattle.std.specs.Prelude.{ℕ, Bool}
use Rattle.rules.specs.Ordered.{Ordered}
use Rattle.ledger.specs.declared.trying.Try.{Try as Held}
use Rattle.ledger.specs.Machine.{Try}
use Rattle.ledger.specs.State.{rule_of}

-- the range, the slot count and the rule that a value of the rule's type means
abbrev pub try_of : {R : Type 0} → (protects : R → ℕ → ℕ → Bool) → ((rule : R) → Ordered (protects rule)) → Held R → Try
try_of protects ordered t = record { low = t.range.low; high = t.range.high; rule = rule_of (protects t.rule) (ordered t.rule); slots = t.slots }
