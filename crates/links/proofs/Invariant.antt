-- The links' own invariant as one fact, and what it says of leaders and joined ranges.
use Rattle.std.proofs.Common.{◌≡◌, ℕ, zero, suc, ◌<◌, ◌≤◌, eqb, List, sym, subst, ⊎_elim, arith}
use Rattle.std.proofs.lemmas.Bool.{cases_lt, cond_both}
use Rattle.links.specs.Ranges.{Range}
use Rattle.links.specs.declared.step.Step.{Step}
use Rattle.links.specs.declared.row.Row.{Row}
use Rattle.links.specs.declared.links.Links.{Links}
use Rattle.links.specs.Linked.{Listed}
use Rattle.links.specs.Chains.{range_of}
use Rattle.links.specs.Forest.{ranges, leader}
use Rattle.links.specs.Rows.{parent_at, number_at, hung, over, out, leader_at}
use Rattle.links.specs.Joined.{joined, leader_of, LeadersTell}
use Rattle.links.proofs.History.{stays, climbs, apart}
use Rattle.links.proofs.Sound.{Sound, grown, past}
use Rattle.links.proofs.Ties.{Tied, linked_same, same_linked}

unfoldable pub sound : (links : Links) → Sound links.rows links.joins
sound links =
    record {
      long = links.long;
      inside = links.inside;
      few = links.few;
      numbered = links.numbered;
      rising = links.rising;
      bare = links.bare;
      own = links.own;
      found = links.found;
      once = links.once;
      near = links.near;
      far = links.far;
      ordered = links.ordered;
      ended = links.ended;
      sized = links.sized;
    }

module _ (rows : List Row) (k : ℕ) (s : Sound rows k) where
  pub tied : Tied (hung rows) (over rows) (out rows) k
  tied =
      record {
        near = s.near;
        far = s.far;
        apart = apart (parent_at rows) (number_at rows) (hung rows) k (grown rows k s);
      }

  -- a row with no edge is a leader's
  pub leader_own : (i : ℕ) → 1024 ≤ number_at rows i → leader_at rows k i ≡ i
  leader_own i h =
      stays (parent_at rows) (number_at rows) (hung rows) k (grown rows k s) k i (omega arith)
      (let f = s.few in let z : k ≤ number_at rows i = omega arith in z)

  -- a hung row has its parent's leader
  pub leader_up : (i : ℕ) → number_at rows i < 1024 → leader_at rows k (parent_at rows i) ≡ leader_at rows k i
  leader_up i h =
      sym (climbs (parent_at rows) (number_at rows) (hung rows) k (grown rows k s) k i (omega arith) (s.numbered i h))

pub leaders_tell : (links : Links) → LeadersTell links
leaders_tell links i j =
    let t = tied links.rows links.joins (sound links) in (
      same_linked (hung links.rows) (over links.rows) (out links.rows) links.joins t links.joins (omega arith) i j,
      linked_same (hung links.rows) (over links.rows) (out links.rows) links.joins t links.joins (omega arith),
    )

-- a listed range is that of one of the joins
pub listed_from : (out : ℕ → Step) (t : ℕ) (r : Range) → Listed r (ranges out t) → (s : ℕ) × (s < t) × (r ≡ range_of (out s))
unfolding ranges
listed_from out zero r l = absurd l
listed_from out (suc t) r l =
    ⊎_elim
    (λ (e : r ≡ range_of (out t)). (t, (let z : t < suc t = omega arith in z), e))
    (λ (l : Listed r (ranges out t)). let f = listed_from out t r l in (f.0, (let h = f.1 in let z : f.0 < suc t = omega arith in z), f.2))
    l

-- every joining range goes up, between boundaries
pub joined_in : (links : Links) (r : Range) → Listed r (joined links) → (r.low < r.high) × (r.high < 1024)
joined_in links r l =
    let f = listed_from (out links.rows) links.joins r l in
    subst (λ (r : Range). (r.low < r.high) × (r.high < 1024)) (sym f.2) (links.ordered f.0 f.1, links.ended f.0 f.1)

-- only a boundary has a boundary for its leader
pub leader_inside : (links : Links) (i : ℕ) → leader_of links i < 1024 → i < 1024
leader_inside links i h =
    ⊎_elim
    (λ (l : i < 1024). l)
    (λ (l : 1024 ≤ i).
    let own = leader_own links.rows links.joins (sound links) i (let e = past links.rows links.joins (sound links) i l in let z : 1024 ≤ number_at links.rows i = omega arith in z) in
    absurd (omega arith))
    (cases_lt i 1024)

below_after : (links : Links) (i : ℕ) → i < 1024 → (t : ℕ) → leader_at links.rows t i < 1024
unfolding leader
below_after links i h zero = h
below_after links i h (suc t) =
    cond_both (eqb (leader_at links.rows t i) (hung links.rows t)) _ _ (λ n. n < 1024) (λ _. links.inside (hung links.rows t))
    (λ _. below_after links i h t)

-- and a boundary's leader is one
pub leader_below : (links : Links) (i : ℕ) → i < 1024 → leader_of links i < 1024
leader_below links i h = below_after links i h links.joins
