use Rattle.lines.proofs.Placing.{whole}
use Rattle.lines.proofs.Lengths.{closed_long}
use Rattle.lines.proofs.counts.closed_line.Goals as goal

pub returns : goal.returns
returns c = record { text = c.put_counts.ensures; whole = whole c.put_counts.ensures (closed_long c.args.counts) }
