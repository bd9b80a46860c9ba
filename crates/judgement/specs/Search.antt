-- The search for a protected pair across two sets, over a list of leaders. Assumes nothing.
use Rattle.std.specs.Prelude.{ℕ, suc, Bool, cond, List, [], ◌∷◌, Some, None, Option, ◌==◌, find}
use Rattle.links.specs.Ranges.{Range}

-- where the list holds x, in ascending order, its places counted from n on
unfoldable pub places : ℕ → List ℕ → ℕ → List ℕ
places x [] n = []
places x (l ∷ ls) n = cond (l == x) (n ∷ places x ls (suc n)) (places x ls (suc n))

-- the pair of i with what was found beside it, or else another answer
abbrev pub with_low : ℕ → Option ℕ → Option Range → Option Range
with_low i (Some j) other = Some (record { low = i; high = j })
with_low i None other = other

-- the first pair with a yes of a place that holds x and a place that holds y, the lower one first, places counted from n on
unfoldable pub pair_across : (ℕ → ℕ → Bool) → ℕ → ℕ → List ℕ → ℕ → Option Range
pair_across says x y [] n = None
pair_across says x y (l ∷ ls) n =
    cond (l == x) (with_low n (find (says n) (places y ls (suc n))) (pair_across says x y ls (suc n)))
    (cond (l == y) (with_low n (find (says n) (places x ls (suc n))) (pair_across says x y ls (suc n)))
    (pair_across says x y ls (suc n)))
