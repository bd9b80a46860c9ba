-- The way over the newest join that two boundaries need: the way to its range, a step over it, and the way on from there.
use Rattle.std.proofs.Common.{◌≡◌, ℕ, suc, ◌+◌, ◌<◌, ◌≤◌, Bool, true, false, cond, List, ◌∷◌, ◌++◌, length, set, sym, refl, ap, ◌∙◌, subst, ⊎_elim, arith}
use Rattle.std.proofs.lemmas.List.{length-append}
use Rattle.std.proofs.lemmas.Bool.{cases_lt}
use Rattle.links.specs.declared.step.Step.{Step}
use Rattle.links.specs.declared.row.Row.{Row}
use Rattle.links.specs.Chains.{start, end}
use Rattle.links.specs.Forest.{back}
use Rattle.links.specs.Rows.{row_at, number_at, step_by, hung, over, out, leader_at, way_at}
use Rattle.links.specs.Newest.{MakesOne, Cut}
use Rattle.links.specs.Written.{put}
use Rattle.links.proofs.History.{leader_same, leader_moved, leader_stayed}
use Rattle.links.proofs.Sound.{Sound}
use Rattle.links.proofs.Ways.{way_from, way_out, way_back}
use Rattle.links.proofs.Putting.{put_around}
use Rattle.links.proofs.Chaining.{back_start, back_end}

-- the step over the range that hung a row, out of the hung set or into it
abbrev crossing : List Row → ℕ → Bool → Step
crossing rows at forth = cond forth (step_by (row_at rows at).edge) (back (step_by (row_at rows at).edge))

module _ (rows : List Row) (k m x y at : ℕ) (s : Sound rows k) (within : m ≤ k) (one : leader_at rows m x ≡ leader_at rows m y) where
  module _ (forth : Bool) (c : MakesOne rows k x y at forth) where
    -- sets that are one after m joins were not made one by a later join
    older : number_at rows at < m
    older =
        ⊎_elim (λ (h : number_at rows at < m). h)
        (λ (h : m ≤ number_at rows at).
        absurd (c.apart (leader_same (hung rows) (over rows) m (number_at rows at) x y h one)))
        (cases_lt (number_at rows at) m)

    hung_at : hung rows (number_at rows at) ≡ at
    hung_at = s.once at c.joined

    out_at : out rows (number_at rows at) ≡ step_by (row_at rows at).edge
    out_at = ap (λ i. step_by (row_at rows i).edge) hung_at

    near : leader_at rows (number_at rows at) (start (out rows (number_at rows at))) ≡ at
    near = s.near (number_at rows at) c.joined ∙ hung_at

    newer : way_at rows m x y ≡ way_at rows (suc (number_at rows at)) x y
    newer = way_from (hung rows) (over rows) (out rows) (suc (number_at rows at)) m x y older c.one

  cut_forth : MakesOne rows k x y at true
      → Cut rows m x y (number_at rows at) (start (step_by (row_at rows at).edge)) (end (step_by (row_at rows at).edge)) (step_by (row_at rows at).edge)
  cut_forth c =
      let t = number_at rows at in
      let u : leader_at rows t x ≡ hung rows t = c.side ∙ sym (hung_at true c) in
      let stay : leader_at rows t y ≡ hung rows t → ⊥ = λ p. c.apart (u ∙ sym p) in
      let o : leader_at rows t y ≡ over rows t =
      sym (leader_stayed (hung rows) (over rows) t y stay) ∙ (sym c.one ∙ leader_moved (hung rows) (over rows) t x u) in
      subst (λ (v : Step). Cut rows m x y t (start v) (end v) v) (out_at true c)
      (record {
        older = older true c;
        before = c.side ∙ sym (near true c);
        after = s.far t c.joined ∙ sym o;
        parts = newer true c ∙ way_out (hung rows) (over rows) (out rows) t x y c.apart u;
      })

  cut_back : MakesOne rows k x y at false
      → Cut rows m x y (number_at rows at) (start (back (step_by (row_at rows at).edge))) (end (back (step_by (row_at rows at).edge))) (back (step_by (row_at rows at).edge))
  cut_back c =
      let t = number_at rows at in
      let step : Step = out rows t in
      let u : leader_at rows t y ≡ hung rows t = c.side ∙ sym (hung_at false c) in
      let stay : leader_at rows t x ≡ hung rows t → ⊥ = λ p. c.apart (p ∙ sym u) in
      let o : leader_at rows t x ≡ over rows t =
      sym (leader_stayed (hung rows) (over rows) t x stay) ∙ (c.one ∙ leader_moved (hung rows) (over rows) t y u) in
      let from : start (back step) ≡ end step = back_start step in
      let into : end (back step) ≡ start step = back_end step in
      subst (λ (v : Step). Cut rows m x y t (start (back v)) (end (back v)) (back v)) (out_at false c)
      (record {
        older = older false c;
        before = o ∙ (sym (s.far t c.joined) ∙ ap (leader_at rows t) (sym from));
        after = ap (leader_at rows t) into ∙ (near false c ∙ sym c.side);
        parts =
            newer false c
            ∙ (way_back (hung rows) (over rows) (out rows) t x y c.apart stay
            ∙ (λ i. way_at rows t x (sym from i) ++ (back step ∷ way_at rows t (sym into i) y)));
      })

  cut_by : (forth : Bool) → MakesOne rows k x y at forth
      → Cut rows m x y (number_at rows at) (start (crossing rows at forth)) (end (crossing rows at forth)) (crossing rows at forth)
  cut_by true c = cut_forth c
  cut_by false c = cut_back c

  -- the same, of values that are known to be the join's number, its step by the way it goes, and where that starts and ends
  pub cut : (forth : Bool) (t i j : ℕ) (o v w : Step) → MakesOne rows k x y at forth → t ≡ number_at rows at
      → o ≡ step_by (row_at rows at).edge → v ≡ cond forth o (back o) → w ≡ v → i ≡ start v → j ≡ end v → Cut rows m x y t i j w
  cut forth t i j o v w newest t-is o_is v-is w-is i_is j_is =
      let step : crossing rows at forth ≡ v = sym (v-is ∙ ap (λ (o : Step). cond forth o (back o)) o_is) in
      subst (λ (w : Step). Cut rows m x y t i j w) (sym w-is)
      (subst (λ a. Cut rows m x y t a j v) (sym i_is)
      (subst (λ b. Cut rows m x y t (start v) b v) (sym j_is)
      (subst (λ t. Cut rows m x y t (start v) (end v) v) (sym t-is)
      (subst (λ (v : Step). Cut rows m x y (number_at rows at) (start v) (end v) v) step (cut_by forth newest)))))

-- the lengths of the parts
pub cut_length : (rows : List Row) (m x y t near far : ℕ) (s : Step) → Cut rows m x y t near far s
    → length (way_at rows m x y) ≡ (length (way_at rows t x near) + 1) + length (way_at rows t far y)
cut_length rows m x y t near far s c =
    ap length c.parts ∙ (let a = length-append (way_at rows t x near) (s ∷ way_at rows t far y) in omega arith)

-- the way before the step, the step, and the way after it, each written where the last write ended
pub filled : (rows : List Row) (m x y t near far : ℕ) (s : Step) → Cut rows m x y t near far s → (table first last : List Step) (i j : ℕ)
    → j ≡ i + length (way_at rows t x near) → j < length table → first ≡ put table i (way_at rows t x near)
    → last ≡ put (set first j s) (j + 1) (way_at rows t far y) → last ≡ put table i (way_at rows m x y)
filled rows m x y t near far s c table first last i j at h e f =
    f
    ∙ (ap (λ l. put (set l j s) (j + 1) (way_at rows t far y)) e
    ∙ (put_around table i j (j + 1) s (way_at rows t x near) (way_at rows t far y) (sym at) h refl ∙ ap (put table i) (sym c.parts)))
