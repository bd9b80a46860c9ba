use Rattle.std.proofs.Common.{◌+◌, ◌%◌, lit<}
use Rattle.kinds.specs.Held.{remainder_means}
use Rattle.kinds.proofs.dials.DialsKind.plus.Goals as goal

pub returns-clause-meant : goal.returns-clause-meant
returns-clause-meant c =
    let a = c.args.self in
    let b = c.args.other in
    rw (c.reduced-a.ensures.0, c.reduced-a.ensures.1, c.reduced-b.ensures.0, c.reduced-b.ensures.1) (λ i. (remainder_means 10000 (lit< tt) (a.litres % 10000 + b.litres % 10000) i, remainder_means 1000 (lit< tt) (a.starts % 1000 + b.starts % 1000) i))
