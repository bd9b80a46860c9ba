-- Distances on the way from a boundary up to its leader.
use Rattle.std.proofs.Common.{◌≡◌, ℕ, ◌<◌, ◌≤◌, List, sym, ap, ◌∙◌, arith}
use Rattle.kinds.specs.Group.{Group}
use Rattle.links.specs.declared.links.Links.{Links}
use Rattle.links.specs.Rows.{parent_at, number_at, hung}
use Rattle.links.specs.Joined.{IsLeader, Above}
use Rattle.links.proofs.History.{leads}
use Rattle.links.proofs.Sound.{grown}
use Rattle.links.proofs.Invariant.{sound}
use Rattle.distances.specs.Distance.{entry, distance}
use Rattle.distances.proofs.Far.{far_none, far_up}

module _ {V : Type 0} (G : Group V) (links : Links) (table : List V) where
  -- a leader is at no distance
  pub leader_near : (i : ℕ) → IsLeader links i → distance G links table i ≡ G.zero
  leader_near i a =
      let s = grown links.rows links.joins (sound links) in
      let up = leads (parent_at links.rows) (number_at links.rows) (hung links.rows) links.joins s links.joins i (omega arith) in
      let own = ap (number_at links.rows) a.leader in
      far_none G (entry G table) (parent_at links.rows) (number_at links.rows) (hung links.rows) links.joins s links.joins i
      (omega arith) (let z : links.joins ≤ number_at links.rows i = omega arith in z)

  -- any other boundary is its entry further than the one above it
  pub above_near : (i p : ℕ) → Above links i p → distance G links table i ≡ G.plus (entry G table i) (distance G links table p)
  above_near i p a =
      let s = grown links.rows links.joins (sound links) in
      let n = a.nearer in
      let few = links.numbered i (let z : number_at links.rows i < 1024 = omega arith in z) in
      far_up G (entry G table) (parent_at links.rows) (number_at links.rows) (hung links.rows) links.joins s links.joins i
      (omega arith) few
      ∙ ap (λ q. G.plus (entry G table i) (distance G links table q)) (sym a.parent)

  -- a walk that came from b to i, so far from it, and goes one step up
  pub walk_on : (b i p : ℕ) (far e far' : V) → Above links i p → G.plus far (distance G links table i) ≡ distance G links table b
      → e ≡ entry G table i → far' ≡ G.plus far e → G.plus far' (distance G links table p) ≡ distance G links table b
  walk_on b i p far e far' a so ee fe =
      ap (λ v. G.plus v (distance G links table p)) (fe ∙ ap (G.plus far) ee)
      ∙ (G.assoc far (entry G table i) (distance G links table p)
      ∙ (ap (G.plus far) (sym (above_near i p a)) ∙ so))

  pub walk_ends : (b i : ℕ) (far : V) → IsLeader links i → G.plus far (distance G links table i) ≡ distance G links table b
      → far ≡ distance G links table b
  walk_ends b i far a so = sym (G.zero_right far) ∙ (ap (G.plus far) (sym (leader_near i a)) ∙ so)
