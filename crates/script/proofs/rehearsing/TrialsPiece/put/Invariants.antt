use Rattle.std.proofs.Common.{map, length, take, Some}
use Rattle.std.specs.List.{flat_map}
use Rattle.lines.specs.Text.{Wrote}
use Rattle.lines.specs.Lines.{tried_text}
use Rattle.script.specs.Session.{answered}
use Rattle.script.specs.Printed.{ends_of}
use Rattle.script.proofs.rehearsing.TrialsPiece.put.Given as goal

abbrev pub invariant-loop-tried : goal.invariant-loop-tried
invariant-loop-tried g l =
    (goal.iterator-loop-tried g).can_next l.tried-iterator
    × (goal.iterator-loop-tried g).is_finite l.tried-iterator
    × Wrote (flat_map tried_text (take (length l.yielded) (answered (map ends_of l.self.tries.now) l.self.trials.now))) l.initial.out l.out (Some l.len)
