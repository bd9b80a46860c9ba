use Rattle.std.proofs.Common.{rules}
use Rattle.lines.specs.Text.{Wrote}
use Rattle.lines.specs.Lines.{fault_line}
use Rattle.lines.proofs.Placing.{whole}
use Rattle.lines.proofs.Lengths.{fault_long}
use Rattle.lines.proofs.faults.fault_line.Goals as goal

pub returns-clause-whole : goal.returns-clause-whole
returns-clause-whole c =
    let f = c.args.fault in
    let w : Wrote (fault_line f.line f.column f.layer f.number) c.args.out.now c.put.new.out c.put.result = search rules in
    whole w (fault_long f.line f.column f.layer f.number)
