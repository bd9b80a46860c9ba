-- The invariant of the links as one fact, and that rows with no join have it.
use Rattle.std.proofs.Common.{◌≡◌, ℕ, ◌<◌, ◌≤◌, false, eqb, List, length, is_some, None, sym, ap, ◌∙◌, ⊎_elim, arith}
use Rattle.std.proofs.lemmas.List.{get_or_past}
use Rattle.std.proofs.lemmas.Bool.{cases_lt}
use Rattle.links.specs.declared.row.Row.{Row}
use Rattle.links.specs.Chains.{start, end}
use Rattle.links.specs.Rows.{row_at, parent_at, size_at, number_by, number_at, hung, over, out, leader_at, members_at}
use Rattle.links.proofs.History.{Grown}
use Rattle.links.proofs.Counts.{pick_below}
use Rattle.links.proofs.Sets.{members_one}

pub record Sound (rows : List Row) (k : ℕ) : Type 0 where
  pub long : length rows ≡ 1024
  pub inside : (i : ℕ) → parent_at rows i < 1024
  pub few : k < 1024
  pub numbered : (i : ℕ) → number_at rows i < 1024 → number_at rows i < k
  pub rising : (i : ℕ) → number_at rows i < k → number_at rows i < number_at rows (parent_at rows i)
  pub bare : (i : ℕ) → 1024 ≤ number_at rows i → is_some (row_at rows i).edge ≡ false
  pub own : (i : ℕ) → i < 1024 → 1024 ≤ number_at rows i → parent_at rows i ≡ i
  pub found : (t : ℕ) → t < k → number_at rows (hung rows t) ≡ t
  pub once : (i : ℕ) → number_at rows i < k → hung rows (number_at rows i) ≡ i
  pub near : (t : ℕ) → t < k → leader_at rows t (start (out rows t)) ≡ hung rows t
  pub far : (t : ℕ) → t < k → leader_at rows t (end (out rows t)) ≡ over rows t
  pub ordered : (t : ℕ) → t < k → (out rows t).low < (out rows t).high
  pub ended : (t : ℕ) → t < k → (out rows t).high < 1024
  pub sized : (i : ℕ) → i < 1024 → 1024 ≤ number_at rows i → size_at rows i ≡ members_at rows k i

pub hung_below : (rows : List Row) (t : ℕ) → hung rows t < 1024
unfolding hung
hung_below rows t = pick_below (λ i. eqb (number_at rows i) t) 1023

module _ (rows : List Row) (k : ℕ) (s : Sound rows k) where
  pub grown : Grown (parent_at rows) (number_at rows) (hung rows) k
  grown = record { found = s.found; once = s.once; rising = s.rising }

  -- past the last boundary no row was hung
  pub past : (i : ℕ) → 1024 ≤ i → number_at rows i ≡ 1024
  past i h =
      ap (λ (r : Row). number_by r.edge)
      (get_or_past rows i _ (let l = s.long in let z : length rows ≤ i = omega arith in z))

-- rows that are each of a boundary by itself
module _ (rows : List Row) (long : length rows ≡ 1024)
    (each : (i : ℕ) → i < 1024 → row_at rows i ≡ record { parent = i; size = 1; edge = None }) where
  free : (i : ℕ) → (row_at rows i).edge ≡ None
  free i =
      ⊎_elim
      (λ (h : i < 1024). ap (λ (r : Row). r.edge) (each i h))
      (λ (h : 1024 ≤ i). ap (λ (r : Row). r.edge) (get_or_past rows i _ (let z : length rows ≤ i = omega arith in z)))
      (cases_lt i 1024)

  own : (i : ℕ) → i < 1024 → parent_at rows i ≡ i
  own i h = ap (λ (r : Row). r.parent) (each i h)

  pub sound_open : Sound rows 0
  sound_open =
      record {
        long = long;
        inside =
            λ i.
            ⊎_elim
            (λ (h : i < 1024). let e = own i h in let z : parent_at rows i < 1024 = omega arith in z)
            (λ (h : 1024 ≤ i).
            let e = ap (λ (r : Row). r.parent) (get_or_past rows i (record { parent = 0; size = 0; edge = None }) (let z : length rows ≤ i = omega arith in z)) in
            let z : parent_at rows i < 1024 = omega arith in
            z)
            (cases_lt i 1024);
        few = omega arith;
        numbered = λ i h. let e = ap number_by (free i) in absurd (omega arith);
        rising = λ i h. absurd (omega arith);
        bare = λ i h. ap is_some (free i);
        own = λ i l h. own i l;
        found = λ t h. absurd (omega arith);
        once = λ i h. absurd (omega arith);
        near = λ t h. absurd (omega arith);
        far = λ t h. absurd (omega arith);
        ordered = λ t h. absurd (omega arith);
        ended = λ t h. absurd (omega arith);
        sized = λ i l h. ap (λ (r : Row). r.size) (each i l) ∙ sym (members_one (hung rows) (over rows) 1024 i l);
      }
