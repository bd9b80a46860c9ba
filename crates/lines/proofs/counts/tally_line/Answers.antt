use Rattle.lines.proofs.Placing.{whole}
use Rattle.lines.proofs.Lengths.{tally_long}
use Rattle.lines.proofs.counts.tally_line.Goals as goal

pub returns : goal.returns
returns c = record { text = c.put_counts.ensures; whole = whole c.put_counts.ensures (tally_long c.args.counts) }
