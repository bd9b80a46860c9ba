-- The joining ranges of links close no ring, and between two linked boundaries there is just one chain.
use Rattle.std.proofs.Common.{◌≡◌, ℕ, zero, suc, ◌+◌, ◌<◌, ◌≤◌, List, [], ◌∷◌, length, take, drop, Some, None, Option, sym, refl, ap, ◌∙◌, subst, arith}
use Rattle.links.specs.Ranges.{Range}
use Rattle.links.specs.declared.step.Sign.{Sign}
use Rattle.links.specs.declared.step.Sign.TheVariants.{Plus, Minus}
use Rattle.links.specs.declared.step.Origin.{Origin}
use Rattle.links.specs.declared.step.Origin.TheVariants.{Released, New}
use Rattle.links.specs.declared.step.Step.{Step}
use Rattle.links.specs.declared.row.Edge.{Edge}
use Rattle.links.specs.declared.links.Links.{Links}
use Rattle.links.specs.Linked.{Listed}
use Rattle.links.specs.Chains.{range_of, start, start_by, end, Source, Sourced, Chain}
use Rattle.links.specs.Forest.{ranges}
use Rattle.links.specs.Rows.{step_by, hung, over, out, way_at}
use Rattle.links.specs.Joined.{joined, leader_of}
use Rattle.links.specs.Rings.{Ringless, Over, HasWay, Acyclic}
use Rattle.links.specs.Written.{put, Written}
use Rattle.links.proofs.Linking.{ends_of}
use Rattle.links.proofs.Sets.{members_le}
use Rattle.links.proofs.Ties.{Tied, linked_same, ends_same}
use Rattle.links.proofs.Invariant.{sound, tied, leaders_tell}
use Rattle.links.proofs.Ways.{Good, good}
use Rattle.links.proofs.Putting.{take_put, drop_put, length_put}
use Rattle.links.proofs.Unique.{one_way}

-- a range joins boundaries that the older ones leave apart
pub ringless : (under over : ℕ → ℕ) (out : ℕ → Step) (k : ℕ) → Tied under over out k → (t : ℕ) → t ≤ k → Ringless (ranges out t)
unfolding ranges
ringless under over out k g zero h = tt
ringless under over out k g (suc t) h = (
  (λ l.
      g.apart t h
      (sym (g.near t h)
      ∙ (ends_same under over t (range_of (out t)) (start (out t)) (end (out t)) (ends_of (out t)) (linked_same under over out k g t (omega arith) l)
      ∙ g.far t h))),
  ringless under over out k g t (omega arith),
)

released_by : (e : Option Edge) → (step_by e).origin ≡ Released
released_by None = refl
released_by (Some e) = refl

-- where a range lies below n, so do both ends of a step over it
start_below : (g : Sign) (low high n : ℕ) → low < n → high < n → start_by g low high < n
start_below Plus low high n l h = l
start_below Minus low high n l h = h

one_place : (js : List Range) (o : Origin) (x : Range) → ((q : Range) → Source js q o x) → Listed x js
one_place js Released x h = h x
one_place js New x h =
    let e = ap (λ (r : Range). r.low) (sym (h (record { low = 0; high = 0 })) ∙ h (record { low = 1; high = 0 })) in
    absurd (omega arith)

-- steps that are sourced whatever the new query is go over listed ranges
pub sourced_over : (js : List Range) (ss : List Step) → ((q : Range) → Sourced js q ss) → Over js ss
sourced_over js [] h = tt
sourced_over js (s ∷ ss) h =
    (one_place js s.origin (range_of s) (λ q. (h q).0), sourced_over js ss (λ q. (h q).1))

module _ (links : Links) where
  -- the way between two boundaries of one set, among n boundaries or more
  pub chain_good : (n x y : ℕ) (q : Range) → 1024 ≤ n → x < n → leader_of links x ≡ leader_of links y
      → Good (hung links.rows) (over links.rows) (out links.rows) n q links.joins x y (way_at links.rows links.joins x y)
  chain_good n x y q big l e =
      good (hung links.rows) (over links.rows) (out links.rows) links.joins n q (tied links.rows links.joins (sound links))
      (λ t. released_by _)
      (λ t h.
      let a = links.ordered t h in
      let b = links.ended t h in
      start_below (out links.rows t).sign (out links.rows t).low (out links.rows t).high n (omega arith) (omega arith))
      (λ t h.
      let a = links.ordered t h in
      let b = links.ended t h in
      start_below (out links.rows t).sign (out links.rows t).high (out links.rows t).low n (omega arith) (omega arith))
      links.joins x y (omega arith) l e

  pub way_short : (x y : ℕ) → x < 1024 → leader_of links x ≡ leader_of links y → length (way_at links.rows links.joins x y) < 1024
  way_short x y l e =
      let g = chain_good 1024 x y (record { low = 0; high = 0 }) (omega arith) l e in
      let m = members_le (hung links.rows) (over links.rows) 1024 links.joins (leader_of links x) in
      let s = g.short in
      omega arith

  a_way : HasWay (joined links)
  a_way i j l =
      let e = (leaders_tell links i j).1 l in
      let g = λ (q : Range). chain_good (i + 1024) i j q (omega arith) (omega arith) e in
      let any : Range = record { low = 0; high = 0 } in (
        way_at links.rows links.joins i j,
        ((g any).leads, sourced_over (joined links) (way_at links.rows links.joins i j) (λ q. (g q).sourced), (g any).distinct),
      )

  pub acyclic : Acyclic (joined links)
  acyclic =
      let r = ringless (hung links.rows) (over links.rows) (out links.rows) links.joins (tied links.rows links.joins (sound links)) links.joins (omega arith) in
      record { ringless = r; some = a_way; one = one_way (joined links) r }

  -- the table after the way was written into its first steps
  pub written : (x y n : ℕ) (before after : List Step) → x < 1024 → leader_of links x ≡ leader_of links y → 1023 ≤ length before
      → n ≡ 0 + length (way_at links.rows links.joins x y) → after ≡ put before 0 (way_at links.rows links.joins x y)
      → Written (joined links) x y n before after
  written x y n before after l e room n-is after_is =
      let ss = way_at links.rows links.joins x y in
      let short = way_short x y l e in
      let first : take n after ≡ ss = (λ i. take (n-is i) (after_is i)) ∙ take_put before 0 ss (omega arith) in
      let end : (0 + length ss) + 0 ≡ n = omega arith in
      record {
        chain =
            λ q.
            let g = chain_good 1024 x y q (omega arith) l e in
            subst (Chain (joined links) q x y) (sym first) (g.leads, g.sourced, g.distinct);
        short = (let z : n < 1024 = omega arith in z);
        room = room;
        rest =
            ap (drop n) after_is ∙ subst (λ m. drop m (put before 0 ss) ≡ drop m before) end (drop_put before 0 ss 0 (omega arith));
        long = ap length after_is ∙ length_put before 0 ss (omega arith);
      }
