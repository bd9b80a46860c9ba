-- Links with the same rows are the same links: what the invariant says has one proof at most.
use Rattle.std.proofs.Common.{◌≡◌, ℕ, List}
use mathlib.Core.Bool.{Bool-set}
use mathlib.Core.HLevel.{Π_prop, is_prop→PathP}
use native.Mathlib.Bridge.{le_prop}
use native.Mathlib.Nat.{ℕ_set}
use Rattle.links.specs.declared.row.Row.{Row}
use Rattle.links.specs.declared.links.Links.{Links}
use Rattle.links.proofs.Sound.{Sound}
use Rattle.links.proofs.Invariant.{sound}

sound_prop : (rows : List Row) (k : ℕ) → IsProp (Sound rows k)
sound_prop rows k a b =
    λ i. record {
      long = ℕ_set _ _ a.long b.long i;
      inside = Π_prop (λ x. le_prop) a.inside b.inside i;
      few = le_prop a.few b.few i;
      numbered = Π_prop (λ x. Π_prop (λ h. le_prop)) a.numbered b.numbered i;
      rising = Π_prop (λ x. Π_prop (λ h. le_prop)) a.rising b.rising i;
      bare = Π_prop (λ x. Π_prop (λ h. Bool-set _ _)) a.bare b.bare i;
      own = Π_prop (λ x. Π_prop (λ h. Π_prop (λ g. ℕ_set _ _))) a.own b.own i;
      found = Π_prop (λ t. Π_prop (λ h. ℕ_set _ _)) a.found b.found i;
      once = Π_prop (λ x. Π_prop (λ h. ℕ_set _ _)) a.once b.once i;
      near = Π_prop (λ t. Π_prop (λ h. ℕ_set _ _)) a.near b.near i;
      far = Π_prop (λ t. Π_prop (λ h. ℕ_set _ _)) a.far b.far i;
      ordered = Π_prop (λ t. Π_prop (λ h. le_prop)) a.ordered b.ordered i;
      ended = Π_prop (λ t. Π_prop (λ h. le_prop)) a.ended b.ended i;
      sized = Π_prop (λ x. Π_prop (λ h. Π_prop (λ g. ℕ_set _ _))) a.sized b.sized i;
    }

-- the links that have these rows
abbrev links_by : (rows : List Row) (k : ℕ) → Sound rows k → Links
links_by rows k s =
    record {
      rows = rows;
      joins = k;
      long = s.long;
      inside = s.inside;
      few = s.few;
      numbered = s.numbered;
      rising = s.rising;
      bare = s.bare;
      own = s.own;
      found = s.found;
      once = s.once;
      near = s.near;
      far = s.far;
      ordered = s.ordered;
      ended = s.ended;
      sized = s.sized;
    }

pub links_same : (a b : Links) → a.rows ≡ b.rows → a.joins ≡ b.joins → a ≡ b
unfolding sound
links_same a b p q =
    λ i. links_by (p i) (q i) (is_prop→PathP (λ j. Sound (p j) (q j)) (λ j. sound_prop (p j) (q j)) (sound a) (sound b) i)
