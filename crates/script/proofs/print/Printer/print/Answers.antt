use Rattle.std.proofs.Common.{ℕ, List, subst}
use Rattle.script.proofs.Putting.{put_whole}
use Rattle.script.proofs.print.Printer.print.Goals as goal

pub returns-in-Some-clause-put : goal.returns-in-Some-clause-put
returns-in-Some-clause-put g c =
    subst (λ (text : List ℕ). g.S.Sink.puts c.args.self.now.sink.now text c.put.new.self)
    (put_whole (g.L.Line.text c.args.told.now) c.args.self.now.line.now c.write.new.out c.in-Some.n c.in-Some.ensures.text) c.put.ensures
