-- Each part of the way is over older joins.
use Rattle.links.proofs.links.Links.+fill.Given as goal

abbrev pub decreases-fill : goal.decreases-fill
decreases-fill l = l.below
