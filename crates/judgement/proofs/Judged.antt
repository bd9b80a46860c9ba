-- Pairs that a range newly links lie across the sets of its two ends. Assumes nothing.
use Rattle.std.proofs.Common.{◌≡◌, ℕ, ◌+◌, ◌<◌, Bool, false, List, length, get_or, Some, None, sym, ap, ◌∙◌, subst, inl, inr, arith}
use Rattle.links.specs.Ranges.{Range}
use Rattle.links.specs.declared.links.Links.{Links}
use Rattle.links.specs.Linked.{Linked}
use Rattle.links.specs.Joined.{joined, leader_of}
use Rattle.links.proofs.Labels.{Ways, linked_ways, from_ways}
use Rattle.links.proofs.Invariant.{leaders_tell, leader_inside}
use Rattle.judgement.specs.Search.{pair_across}
use Rattle.judgement.specs.Judgement.{Newly, Named}
use Rattle.judgement.proofs.Across.{Holds, getD_holds, holds_getD, Across, Pair, pair_found}

module _ (links : Links) (q : Range) (ls : List ℕ) (x y : ℕ) (long : length ls ≡ 1024)
    (each : (i : ℕ) → i < 1024 → get_or ls i 0 ≡ leader_of links i) (x-is : x ≡ leader_of links q.low) (y-is : y ≡ leader_of links q.high)
    (x-in : x < 1024) (y-in : y < 1024) (two : x ≡ y → ⊥) where
  -- i is in the set of the leader z
  set_holds : (z i : ℕ) → z < 1024 → leader_of links i ≡ z → Holds z ls 0 i
  set_holds z i b e =
      let inside : i < 1024 = leader_inside links i (subst (λ n. n < 1024) (sym e) b) in
      subst (Holds z ls 0) (let p : 0 + i ≡ i = omega arith in p) (getD_holds z ls 0 i (omega arith) (each i inside ∙ e))

  holds_set : (z i : ℕ) → Holds z ls 0 i → leader_of links i ≡ z
  holds_set z i h =
      let k = holds_getD z ls 0 i h in
      let is : i ≡ k.0 = (let e = k.1 in omega arith) in
      ap (leader_of links) is ∙ (sym (each k.0 (let l = k.2 in let p : k.0 < 1024 = omega arith in p)) ∙ k.3)

  pub apart : Linked (joined links) q.low q.high → ⊥
  apart l = two (x-is ∙ ((leaders_tell links q.low q.high).1 l ∙ sym y-is))

  same : (i j : ℕ) → Linked (joined links) i j → leader_of links i ≡ leader_of links j
  same i j l = (leaders_tell links i j).1 l

  link : (i j : ℕ) → leader_of links i ≡ leader_of links j → Linked (joined links) i j
  link i j e = (leaders_tell links i j).0 e

  newly_across : (i j : ℕ) → Newly (joined links) q i j → Across x y ls 0 i j
  newly_across i j n = by (linked_ways (joined links) q i j n.linked)
    where
      by : Ways (joined links) q i j → Across x y ls 0 i j
      by (inl l) = absurd (n.apart l)
      by (inr (inl w)) = inl (set_holds x i x-in (same i q.low w.0 ∙ sym x-is), set_holds y j y-in (sym (same q.high j w.1) ∙ sym y-is))
      by (inr (inr w)) = inr (set_holds y i y-in (same i q.high w.0 ∙ sym y-is), set_holds x j x-in (sym (same q.low j w.1) ∙ sym x-is))

  across_newly : (i j : ℕ) → i < j → Across x y ls 0 i j → Newly (joined links) q i j
  across_newly i j lt (inl a) =
      record {
        ordered = lt;
        linked =
            from_ways (joined links) q i j
            (inr (inl (link i q.low (holds_set x i a.0 ∙ x-is), link q.high j (sym y-is ∙ sym (holds_set y j a.1)))));
        apart = λ l. two (sym (holds_set x i a.0) ∙ (same i j l ∙ holds_set y j a.1));
      }
  across_newly i j lt (inr a) =
      record {
        ordered = lt;
        linked =
            from_ways (joined links) q i j
            (inr (inr (link i q.high (holds_set y i a.0 ∙ y-is), link q.low j (sym x-is ∙ sym (holds_set x j a.1)))));
        apart = λ l. two (sym (holds_set x j a.1) ∙ (sym (same i j l) ∙ holds_set y i a.0));
      }

  module _ (says : ℕ → ℕ → Bool) where
    -- a pair that the search found is the one to name
    pub named : (p : Range) → Some p ≡ pair_across says x y ls 0 → Named (joined links) says q p
    named p e =
        let f : Pair says x y ls 0 (Some p) = subst (Pair says x y ls 0) (sym e) (pair_found says x y two ls 0) in
        record {
          newly = across_newly p.low p.high f.0 f.1;
          said = f.2;
          first = λ i j n t. f.3 i j n.ordered (newly_across i j n) t;
        }

    -- where it found none, there is none
    pub none_newly : None ≡ pair_across says x y ls 0 → (i j : ℕ) → Newly (joined links) q i j → says i j ≡ false
    none_newly e i j n =
        let f : Pair says x y ls 0 None = subst (Pair says x y ls 0) (sym e) (pair_found says x y two ls 0) in
        f i j n.ordered (newly_across i j n)
