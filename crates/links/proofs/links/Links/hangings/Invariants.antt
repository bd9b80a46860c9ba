-- The boundaries below i that were hung stand at the numbers of their joins.
use Rattle.std.proofs.Common.{◌≡◌, ℕ, ◌<◌, length, get_or}
use Rattle.links.specs.Rows.{number_at}
use Rattle.links.proofs.links.Links.hangings.Given as goal

abbrev pub invariant-loop-i : goal.invariant-loop-i
invariant-loop-i l =
    (length l.boundaries ≡ 1024)
    × ((k : ℕ) → k < l.i → number_at l.self.rows k < 1024 → get_or l.boundaries (number_at l.self.rows k) 0 ≡ k)
