-- What is left of the digits goes on from the value so far, which is small.
use Rattle.std.proofs.Common.{◌≡◌, ◌^◌, ◌<◌, drop}
use Rattle.text.specs.Numbers.{value_after}
use Rattle.text.proofs.number.number.Given as goal

abbrev pub invariant-loop-digit : goal.invariant-loop-digit
invariant-loop-digit l = (l.value < 2 ^ 32) × (value_after l.value (drop l.digit-index l.digits) ≡ value_after 0 l.digits)
