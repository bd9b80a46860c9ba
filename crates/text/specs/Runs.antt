-- How a line is cut into runs. Assumes nothing.
use Rattle.std.specs.Prelude.{◌≡◌, ℕ, ◌<◌, cond, ◌&&◌, List, [], ◌∷◌, ◌++◌, length, slice_index}
use Rattle.std.specs.List.{prefix_len}
use Rattle.text.specs.Alphabet.{class, same, joins}
use Rattle.text.specs.declared.alphabet.Class.{Class}

-- how many bytes at the front are of one class
abbrev pub run_length : Class → List ℕ → ℕ
run_length k bs = prefix_len (λ b. same (class b) k) bs

-- a run: the class of its bytes, and the bytes
abbrev pub Run : Type 0
Run = Class × List ℕ

-- a byte before the runs that follow it: it lengthens a run of its class, or is a run by itself
abbrev pub before : Class → ℕ → List Run → List Run
before k b [] = (k, b ∷ []) ∷ []
before k b (r ∷ rs) = cond (joins k && same k r.0) ((k, b ∷ r.1) ∷ rs) ((k, b ∷ []) ∷ r ∷ rs)

-- a line cut into its runs
unfoldable pub runs : List ℕ → List Run
runs [] = []
runs (b ∷ bs) = before (class b) b (runs bs)

-- a run of some class is the first of some bytes, and what follows is cut by itself
pub record CutOff (bs : List ℕ) (k : Class) (run rest : List ℕ) : Type 0 where
  pub whole : run ++ rest ≡ bs
  pub some : 0 < length run
  pub begins : class (slice_index bs 0) ≡ k
  pub first : runs bs ≡ (k, run) ∷ runs rest
