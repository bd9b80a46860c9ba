-- The walk ends at the leader, and leaders tell which boundaries are linked.
use Rattle.std.proofs.Common.{rules}
use Rattle.links.proofs.Invariant.{leaders_tell}
use Rattle.links.proofs.links.Links.leader.Goals as goal

pub returns : goal.returns
returns c = record { value = search rules; tells = leaders_tell c.args.self.now }
