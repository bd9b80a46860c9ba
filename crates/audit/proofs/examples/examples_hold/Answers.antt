use Rattle.audit.proofs.Cases.{cases, sample, values}
use Rattle.audit.proofs.examples.examples_hold.Goals as goal

pub returns : goal.returns
returns g c = record { cases = cases g.K.Kind.group; sample = sample g.K.Kind.group; values = values }
