-- A forest of sets that grew by joins: join s hung the leader `under s` below the leader `over s`. Assumes nothing.
use Rattle.std.specs.Prelude.{ℕ, zero, suc, ◌+◌, Bool, cond, List, [], ◌∷◌, ◌++◌, ◌==◌, nat_eq}
use Rattle.links.specs.Ranges.{Range}
use Rattle.links.specs.declared.step.Sign.{Sign}
use Rattle.links.specs.declared.step.Sign.TheVariants.{Plus, Minus}
use Rattle.links.specs.declared.step.Step.{Step}
use Rattle.links.specs.Chains.{range_of, start, end}

-- a number below n that passes the test, where one does
unfoldable pub pick : ℕ → (ℕ → Bool) → ℕ
pick zero p = zero
pick (suc n) p = cond (p n) n (pick n p)

-- how many numbers below n pass the test
unfoldable pub count : ℕ → (ℕ → Bool) → ℕ
count zero p = zero
count (suc n) p = cond (p n) 1 0 + count n p

-- the leader of x's set after the first t joins
unfoldable pub leader : (ℕ → ℕ) → (ℕ → ℕ) → ℕ → ℕ → ℕ
leader under over zero x = x
leader under over (suc t) x =
    cond (leader under over t x == under t) (over t) (leader under over t x)

-- how many of n boundaries the leader v has after the first t joins, itself among them
unfoldable pub members : (ℕ → ℕ) → (ℕ → ℕ) → ℕ → ℕ → ℕ → ℕ
members under over n t v = count n (λ x. nat_eq (leader under over t x) v)

-- the ranges of the first t joins, newest first, where join s went over the step `out s`
unfoldable pub ranges : (ℕ → Step) → ℕ → List Range
ranges out zero = []
ranges out (suc t) = range_of (out t) ∷ ranges out t

-- the other sign
abbrev pub turned : Sign → Sign
turned Plus = Minus
turned Minus = Plus

-- the same step the other way
abbrev pub back : Step → Step
back s = record { low = s.low; high = s.high; sign = turned s.sign; origin = s.origin }

-- the steps from x to y over the first t joins: by the newest join that the two need, once, and older ones before and after it
unfoldable pub way : (ℕ → ℕ) → (ℕ → ℕ) → (ℕ → Step) → ℕ → ℕ → ℕ → List Step
way under over out zero x y = []
way under over out (suc t) x y =
    cond (leader under over t x == leader under over t y)
    (way under over out t x y)
    (cond (leader under over t x == under t)
    (way under over out t x (start (out t)) ++ (out t ∷ way under over out t (end (out t)) y))
    (way under over out t x (end (out t)) ++ (back (out t) ∷ way under over out t (start (out t)) y)))
