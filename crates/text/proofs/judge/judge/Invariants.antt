-- What is left of the line is judged as the whole is, and each open bracket has taken a byte.
use Rattle.std.proofs.Common.{◌≡◌, ◌+◌, ◌≤◌, length}
use Rattle.text.specs.Judging.{judged}
use Rattle.text.specs.Runs.{runs}
use Rattle.text.proofs.judge.judge.Given as goal

abbrev pub invariant-loop-run : goal.invariant-loop-run
invariant-loop-run l =
    (l.depth + length l.left.rest.now ≤ 65537)
    × (judged l.left.place l.depth (runs l.left.rest.now) ≡ judged l.line.place 0 (runs l.line.rest.now))

abbrev pub decreases-loop-run : goal.decreases-loop-run
decreases-loop-run l = length l.left.rest.now
