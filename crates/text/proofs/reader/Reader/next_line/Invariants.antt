-- The line that the reader is in has no more tokens, and what is to come is as it was.
use Rattle.std.proofs.Common.{◌≡◌, [], length}
use Rattle.text.specs.Reading.{state}
use Rattle.text.specs.Script.{advanced}
use Rattle.text.proofs.reader.Reader.next_line.Given as goal

abbrev pub invariant-loop-self : goal.invariant-loop-self
invariant-loop-self l =
    ((state l.self).left ≡ [])
    × (advanced (state l.self).number (state l.self).following ≡ advanced (state l.initial.self).number (state l.initial.self).following)

abbrev pub decreases-loop-self : goal.decreases-loop-self
decreases-loop-self l = length l.self.text.now
