use Rattle.std.proofs.Common.{◌≡◌, ◌+◌, ◌-◌, ◌%◌, ◌^◌, ap, ◌∙◌, arith, lit<}
use Rattle.kinds.specs.Residues.{residue}
use Rattle.kinds.specs.Held.{remainder_means}
use Rattle.kinds.proofs.wh.WhKind.inverse.Goals as goal

pub returns-clause-meant : goal.returns-clause-meant
returns-clause-meant c =
    let a = c.args.self.amount in
    let whole : 0 + (2 ^ 32 - a) ≡ 2 ^ 32 - a % 2 ^ 32 = omega arith in
    remainder_means (2 ^ 32) (lit< tt) (0 + (2 ^ 32 - a)) ∙ ap (residue (2 ^ 32) (lit< tt)) whole
