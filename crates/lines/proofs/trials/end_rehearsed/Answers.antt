use Rattle.lines.proofs.Lengths.{rehearsals_fit}
use Rattle.lines.proofs.trials.end_rehearsed.Goals as goal

pub returns : goal.returns
returns c = record { text = c.put.ensures; whole = rehearsals_fit }
