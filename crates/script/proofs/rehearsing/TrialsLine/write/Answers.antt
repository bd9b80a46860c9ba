use Rattle.std.proofs.Common.{map, arith, rules}
use Rattle.lines.specs.Lines.{rehearsed_line}
use Rattle.lines.specs.Text.{Wrote}
use Rattle.lines.proofs.Lengths.{rehearsals_fit}
use Rattle.lines.proofs.Placing.{whole}
use Rattle.script.specs.Session.{answered}
use Rattle.script.specs.Printed.{ends_of}
use Rattle.script.proofs.Trials.{answered_length}
use Rattle.script.proofs.rehearsing.TrialsLine.write.Goals as goal

pub returns-clause-whole : goal.returns-clause-whole
returns-clause-whole g c =
    let s = c.args.self.now in
    let told = answered (map ends_of s.tries.now) s.trials.now in
    let long = answered_length ends_of s.tries.now s.trials.now in
    let w : Wrote (rehearsed_line told) c.args.out.now c.put.new.out c.put.result = search rules in
    λ few. whole w (rehearsals_fit told (omega (arith, long)))
