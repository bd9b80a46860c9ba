-- The joining releases of links and distances, and how one more joins them. Assumes nothing.
use Rattle.std.proofs.Common.{◌≡◌, ℕ, ◌<◌, ◌≤◌, List, [], ◌∷◌, map, length, Some, None, Option, refl, ap, ⊎_elim, inl, inr, arith, MatchOption}
use Rattle.kinds.specs.Group.{Group}
use Rattle.links.specs.declared.links.join.Hung.{Hung}
use Rattle.links.specs.declared.links.Links.{Links}
use Rattle.links.specs.Ranges.{Range}
use Rattle.links.specs.Joined.{joined}
use Rattle.links.specs.Linked.{Linked}
use Rattle.distances.specs.Kept.{Laid, Untouched}
use Rattle.distances.proofs.Releases.{one_release}
use Rattle.ledger.specs.Machine.{ranges}
use Rattle.ledger.specs.State.{release_of, releases_of, SameOrJoined}

module _ {V : Type 0} (G : Group V) where
  pub ranges_of : (links : Links) (table : List V) → ranges (releases_of G links table) ≡ joined links
  ranges_of links table = over (joined links)
    where
      over : (js : List Range) → ranges (map (release_of G links table) js) ≡ js
      over [] = refl
      over (r ∷ js) = ap (λ rest. r ∷ rest) (over js)

  module _ {K : Type 0} (meaning : K → V) (links links' : Links) (table table' : List K) (a b : ℕ) where
    -- after a join the new range stands first with its sum, and the others are as before
    pub laid_releases : (h w : ℕ) (sum : V) → Laid G meaning links links' table table' a b h w sum → releases_of G links' (map meaning table') ≡ record { range = record { low = a; high = b }; amount = sum } ∷ releases_of G links (map meaning table)
    laid_releases h w sum laid = one_release (λ r v. record { range = r; amount = v }) G meaning links links' table table' a b h w sum laid

    -- a range that can join does
    pub laid_by : (o : Option Hung) (sum : V) → MatchOption o (Untouched links links' table table' a b) (λ h. Laid G meaning links links' table table' a b h.leader.index h.under.index sum) → 1024 ≤ length table → a < b → (Linked (joined links) a b → ⊥) → (releases_of G links' (map meaning table') ≡ record { range = record { low = a; high = b }; amount = sum } ∷ releases_of G links (map meaning table)) × ((h : ℕ) × (w : ℕ) × (v : V) × Laid G meaning links links' table table' a b h w v)
    laid_by None sum u room range apart =
        absurd (⊎_elim (λ short. omega arith) (⊎_elim (λ back. omega arith) apart) u.reason)
    laid_by (Some h) sum laid room range apart = (laid_releases h.leader.index h.under.index sum laid, (h.leader.index, h.under.index, sum, laid))

    -- the table of values has as many as before
    pub same_or_joined_long : SameOrJoined G meaning links links' table table' a b → length table' ≡ length table
    same_or_joined_long (inl same) = ap length same.1
    same_or_joined_long (inr (h, w, sum, laid)) = laid.long
