use Rattle.std.proofs.Common.{arith}
use Rattle.lines.proofs.ReadingBack.{decimal_reads_back}
use Rattle.lines.proofs.numbers.write_number.Goals as goal

pub returns-clause-back : goal.returns-clause-back
returns-clause-back c = decimal_reads_back c.args.n (omega arith)
