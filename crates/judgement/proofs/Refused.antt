-- When a range links a pair anew: its ends lie on the two sides of the range. Assumes nothing.
use Rattle.std.proofs.Common.{◌≡◌, ℕ, ◌<◌, ◌⊎◌, List, length, Some, None, Option, sym, subst, inl, inr, MatchOption}
use Rattle.links.specs.Ranges.{Range}
use Rattle.links.specs.declared.step.Step.{Step}
use Rattle.links.specs.declared.links.Links.{Links}
use Rattle.links.specs.Linked.{Linked}
use Rattle.links.specs.Chains.{range_of}
use Rattle.links.specs.Joined.{joined}
use Rattle.links.proofs.Labels.{Ways, linked_trans, linked_sym, linked_ways, from_ways}
use Rattle.judgement.specs.Refusal.{OnlyWith, Shown, Explained, Unexplained, Crossed, Uncrossed}
use Rattle.judgement.proofs.Crossing.{linked_inside}

module _ (js : List Range) (q : Range) where
  -- i lies with one end of q, and j with the other
  abbrev Sides : ℕ → ℕ → Type 0
  Sides i j = (Linked js i q.low × Linked js q.high j) ⊎ (Linked js i q.high × Linked js q.low j)

  pub sides : (i j : ℕ) → OnlyWith js q i j → Sides i j
  sides i j o = by (linked_ways js q i j o.0)
    where
      by : Ways js q i j → Sides i j
      by (inl l) = absurd (o.1 l)
      by (inr s) = s

  -- a range between linked boundaries links nothing anew
  pub linked_none : (i j : ℕ) → Linked js q.low q.high → OnlyWith js q i j → ⊥
  linked_none i j l o = by (sides i j o)
    where
      by : Sides i j → ⊥
      by (inl w) = o.1 (linked_trans w.0 (linked_trans l w.1))
      by (inr w) = o.1 (linked_trans w.0 (linked_trans (linked_sym l) w.1))

  module _ (p : Range) (unlinked : Linked js q.low q.high → ⊥) where
    up_only : Linked js p.low q.low → Linked js q.high p.high → OnlyWith js q p.low p.high
    up_only a b =
        (from_ways js q p.low p.high (inr (inl (a, b))), (λ l. unlinked (linked_trans (linked_sym a) (linked_trans l (linked_sym b)))))

    down_only : Linked js p.low q.high → Linked js q.low p.high → OnlyWith js q p.low p.high
    down_only a b =
        (from_ways js q p.low p.high (inr (inr (a, b))), (λ l. unlinked (linked_trans b (linked_trans (linked_sym l) a))))

    pub up_explained : (s : Step) (n : ℕ) (before after : List Step) → range_of s ≡ q
        → Crossed js q.low q.high s p.low p.high n before after → Explained js q p n before after
    up_explained s n before after e c =
        record { only = up_only c.here c.there; shown = subst (λ r. Shown js r p.low p.high n before after) e c.shown }

    pub down_explained : (s : Step) (n : ℕ) (before after : List Step) → range_of s ≡ q
        → Crossed js q.high q.low s p.low p.high n before after → Explained js q p n before after
    down_explained s n before after e c =
        record { only = down_only c.here c.there; shown = subst (λ r. Shown js r p.low p.high n before after) e c.shown }

    pub up_unexplained : (before after : List Step) → Linked js p.low q.low
        → Uncrossed js q.low q.high p.low p.high before after → Unexplained js q p before after
    up_unexplained before after l u = record { reason = by u.reason; same = u.same }
      where
        by : (length before < 1023) ⊎ (Linked js p.low q.low × Linked js q.high p.high → ⊥) → (length before < 1023) ⊎ (OnlyWith js q p.low p.high → ⊥)
        by (inl short) = inl short
        by (inr never) =
            inr (λ o.
            elim (sides p.low p.high o) [ inl w ↦ never w | inr w ↦ unlinked (linked_trans (linked_sym l) w.0) ])

    pub down_unexplained : (before after : List Step) → (Linked js p.low q.low → ⊥)
        → Uncrossed js q.high q.low p.low p.high before after → Unexplained js q p before after
    down_unexplained before after l u = record { reason = by u.reason; same = u.same }
      where
        by : (length before < 1023) ⊎ (Linked js p.low q.high × Linked js q.low p.high → ⊥) → (length before < 1023) ⊎ (OnlyWith js q p.low p.high → ⊥)
        by (inl short) = inl short
        by (inr never) = inr (λ o. elim (sides p.low p.high o) [ inl w ↦ l w.0 | inr w ↦ never w ])

-- only boundaries are linked anew
pub only_inside : (links : Links) (q : Range) (i j : ℕ) → q.low < 1024 → q.high < 1024 → OnlyWith (joined links) q i j → (i < 1024) × (j < 1024)
only_inside links q i j a b o =
    elim (sides (joined links) q i j o) [
      | inl w ↦ (linked_inside links q.low i a (linked_sym w.0), linked_inside links q.high j b w.1)
      | inr w ↦ (linked_inside links q.high i b (linked_sym w.0), linked_inside links q.low j a w.1)
    ]

module _ (js : List Range) (q p : Range) (unlinked : Linked js q.low q.high → ⊥) (s : Step) (over-q : range_of s ≡ q)
    (i j : ℕ) (i-is : i ≡ p.low) (j-is : j ≡ p.high) (before after : List Step) where
  -- the pair's low end lies with the low end of q
  pub refused_up : (r : Option ℕ) → Linked js i q.low
      → MatchOption r (Uncrossed js q.low q.high i j before after) (λ n. Crossed js q.low q.high s i j n before after)
      → MatchOption r (Unexplained js q p before after) (λ n. Explained js q p n before after)
  refused_up None l c =
      up_unexplained js q p unlinked before after (subst (λ v. Linked js v q.low) i-is l)
      (subst (λ (v : ℕ × ℕ). Uncrossed js q.low q.high v.0 v.1 before after) (λ x. (i-is x, j-is x)) c)
  refused_up (Some n) l c =
      up_explained js q p unlinked s n before after over-q
      (subst (λ (v : ℕ × ℕ). Crossed js q.low q.high s v.0 v.1 n before after) (λ x. (i-is x, j-is x)) c)

  -- it does not
  pub refused_down : (r : Option ℕ) → (Linked js i q.low → ⊥)
      → MatchOption r (Uncrossed js q.high q.low i j before after) (λ n. Crossed js q.high q.low s i j n before after)
      → MatchOption r (Unexplained js q p before after) (λ n. Explained js q p n before after)
  refused_down None l c =
      down_unexplained js q p unlinked before after (λ k. l (subst (λ v. Linked js v q.low) (sym i-is) k))
      (subst (λ (v : ℕ × ℕ). Uncrossed js q.high q.low v.0 v.1 before after) (λ x. (i-is x, j-is x)) c)
  refused_down (Some n) l c =
      down_explained js q p unlinked s n before after over-q
      (subst (λ (v : ℕ × ℕ). Crossed js q.high q.low s v.0 v.1 n before after) (λ x. (i-is x, j-is x)) c)
