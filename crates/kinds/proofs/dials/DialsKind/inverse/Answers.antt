use Rattle.std.proofs.Common.{◌-◌, ◌%◌, lit<}
use Rattle.kinds.specs.Held.{remainder_means}
use Rattle.kinds.proofs.dials.DialsKind.inverse.Goals as goal

pub returns-clause-meant : goal.returns-clause-meant
returns-clause-meant c =
    let a = c.args.self in
    rw (c.reduced-a.ensures.0, c.reduced-a.ensures.1) (λ i. (remainder_means 10000 (lit< tt) (10000 - a.litres % 10000) i, remainder_means 1000 (lit< tt) (1000 - a.starts % 1000) i))
