-- The search over the leaders decides.
use Rattle.judgement.proofs.Judged.{apart, named, none_newly}
use Rattle.judgement.proofs.judging.search.Goals as goal

pub returns-in-Some : goal.returns-in-Some
returns-in-Some g c =
    let links = c.args.links.now in (
      apart links (record { low = c.args.ends.low.index; high = c.args.ends.high.index }) c.leaders.result c.args.x c.args.y
          c.leaders.ensures.long c.leaders.ensures.each c.requires.low c.requires.high c.requires.inside.0 c.requires.inside.1 c.requires.apart,
      named links (record { low = c.args.ends.low.index; high = c.args.ends.high.index }) c.leaders.result c.args.x c.args.y
          c.leaders.ensures.long c.leaders.ensures.each c.requires.low c.requires.high c.requires.inside.0 c.requires.inside.1 c.requires.apart
          (g.R.Rule.protects c.args.rule.now) c.in-Some.pair c.in-Some.ensures,
    )

pub returns-in-None : goal.returns-in-None
returns-in-None g c =
    let links = c.args.links.now in (
      apart links (record { low = c.args.ends.low.index; high = c.args.ends.high.index }) c.leaders.result c.args.x c.args.y
          c.leaders.ensures.long c.leaders.ensures.each c.requires.low c.requires.high c.requires.inside.0 c.requires.inside.1 c.requires.apart,
      none_newly links (record { low = c.args.ends.low.index; high = c.args.ends.high.index }) c.leaders.result c.args.x c.args.y
          c.leaders.ensures.long c.leaders.ensures.each c.requires.low c.requires.high c.requires.inside.0 c.requires.inside.1 c.requires.apart
          (g.R.Rule.protects c.args.rule.now) c.in-None.ensures,
    )
