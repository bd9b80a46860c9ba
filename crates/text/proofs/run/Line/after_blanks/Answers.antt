use Rattle.std.proofs.Common.{arith}
use Rattle.text.specs.declared.alphabet.Class.TheVariants.{Blank}
use Rattle.text.proofs.Cutting.{run_within}
use Rattle.text.proofs.run.Line.after_blanks.Goals as goal

pub split_at-requires : goal.split_at-requires
split_at-requires c = let w = run_within Blank c.args.self.rest.now in let e = c.run_length-length.ensures in omega arith

pub after-place-requires : goal.after-place-requires
after-place-requires c =
    let w = run_within Blank c.args.self.rest.now in
    let e = c.run_length-length.ensures in
    let i = c.args.self.within in
    omega arith
