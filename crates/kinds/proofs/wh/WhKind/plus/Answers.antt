use Rattle.std.proofs.Common.{◌^◌, lit<}
use Rattle.kinds.specs.Held.{sum_means}
use Rattle.kinds.proofs.wh.WhKind.plus.Goals as goal

pub returns-clause-meant : goal.returns-clause-meant
returns-clause-meant c = sum_means (2 ^ 32) (lit< tt) c.args.self.amount c.args.other.amount
