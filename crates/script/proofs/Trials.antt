-- Each try stands in the line with its answer. Assumes nothing.
use Rattle.std.proofs.Common.{◌≡◌, ℕ, zero, suc, ◌<◌, List, [], ◌∷◌, map, length, get_or, min, sym, refl, ◌∙◌, arith}
use Rattle.ledger.specs.declared.answer.Trial.{Trial}
use Rattle.ledger.specs.declared.trying.Try.{Try}
use Rattle.lines.specs.Lines.{Tried}
use Rattle.script.specs.Session.{answered}
use Rattle.script.specs.Printed.{ends_of}

pub answered_length : {X : Type 0} (f : X → ℕ × ℕ) (ts : List X) (xs : List Trial) → length (answered (map f ts) xs) ≡ min (length ts) (length xs)
answered_length f [] xs = omega arith
answered_length f (t ∷ ts) [] = omega arith
answered_length f (t ∷ ts) (x ∷ xs) = let rest = answered_length f ts xs in omega arith

-- a try as it stands in the line
abbrev pub tried_of : {R : Type 0} → Try R → Trial → Tried
tried_of t x = record { low = t.range.low; high = t.range.high; trial = x }

pub answered_at : {R : Type 0} (ts : List (Try R)) (xs : List Trial) (i : ℕ) (t : Try R) (x : Trial) (d : Tried) → i < length ts → i < length xs → get_or (answered (map ends_of ts) xs) i d ≡ tried_of (get_or ts i t) (get_or xs i x)
answered_at [] xs i t x d h k = absurd (let z : i < 0 = h in omega arith)
answered_at (u ∷ ts) [] i t x d h k = absurd (let z : i < 0 = k in omega arith)
answered_at (u ∷ ts) (y ∷ xs) zero t x d h k = refl
answered_at (u ∷ ts) (y ∷ xs) (suc i) t x d h k = answered_at ts xs i t x d (let z : suc i < suc (length ts) = h in omega arith) (let z : suc i < suc (length xs) = k in omega arith)

-- the tries that two lists hold at a place stand there in the line
pub tried_here : {R : Type 0} (ts : List (Try R)) (xs : List Trial) (i : ℕ) (t : Try R) (x : Trial) → i < length ts → i < length xs → t ≡ get_or ts i t → x ≡ get_or xs i x → tried_of t x ≡ get_or (answered (map ends_of ts) xs) i (tried_of t x)
tried_here ts xs i t x h k first second = (λ j. tried_of (first j) (second j)) ∙ sym (answered_at ts xs i t x (tried_of t x) h k)
