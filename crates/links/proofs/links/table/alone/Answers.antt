use Rattle.std.proofs.Common.{rules}
use Rattle.links.proofs.links.table.alone.Goals as goal

pub returns-clause-each : goal.returns-clause-each
returns-clause-each c = λ i h. let k = c.from_fn.ensures.items.at i 0 h in search rules
