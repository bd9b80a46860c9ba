-- A script as lines, and how a reader goes through them. Assumes nothing.
use Rattle.std.specs.Prelude.{◌≡◌, ℕ, ◌+◌, ◌<◌, Bool, true, false, cond, ◌⊎◌, List, [], ◌∷◌, ◌++◌, length, Ok, Err, Result, ◌==◌, ◌≢◌, nat_lt, slice_index}
use Rattle.text.specs.Tokens.{Spot, meaning}
use Rattle.text.specs.declared.fault.Fault.{Fault}
use Rattle.text.specs.declared.fault.Fault.TheVariants.{TooLong}

-- a script has 65,536 bytes at most
abbrev pub too_long : List ℕ → Bool
too_long script = nat_lt 65536 (length script)

abbrev pub size_judged : List ℕ → Result (Unit {0}) Fault
size_judged script = cond (too_long script) (Err TooLong) (Ok tt)

-- nothing of a script that is too long is read
abbrev pub readable : List ℕ → List ℕ
readable script = cond (too_long script) [] script

-- a byte before the lines that follow it: it lengthens the first, or is a line by itself
abbrev pub lengthened : ℕ → List (List ℕ) → List (List ℕ)
lengthened b [] = (b ∷ []) ∷ []
lengthened b (l ∷ ls) = (b ∷ l) ∷ ls

-- the lines of a text: each ends with byte 10, which the last may lack
unfoldable pub lines : List ℕ → List (List ℕ)
lines [] = []
lines (b ∷ bs) = cond (b == 10) ([] ∷ lines bs) (lengthened b (lines bs))

-- a line holds no byte 10
abbrev pub Unbroken : List ℕ → Type 0
Unbroken l = (i : ℕ) → i < length l → slice_index l i ≢ 10

-- a text is these lines: byte 10 stands after each, or after all but the last, which then is not empty
abbrev pub Split : List ℕ → List (List ℕ) → Type 0
Split text [] = text ≡ []
Split text (l ∷ ls) =
    Unbroken l × (((rest : List ℕ) × (text ≡ l ++ (10 ∷ rest)) × Split rest ls) ⊎ ((text ≡ l) × (0 < length l) × (ls ≡ [])))

-- the lines of a text are just those that it is
abbrev pub Splits : Type 0
Splits = (text : List ℕ) (ls : List (List ℕ)) → (lines text ≡ ls → Split text ls) × (Split text ls → lines text ≡ ls)

-- what a reader has before it: the number of the line it is in, the tokens left of that line, and the lines that follow
pub record State : Type 0 where
  pub number : ℕ
  pub left : List Spot
  pub following : List (List ℕ)

-- at a line that was judged: its tokens are left, or none where it has a fault
abbrev pub begun : ℕ → Result (List Spot) Fault → List (List ℕ) → Result (Unit {0}) Fault × State
begun n (Err f) ls = (Err f, record { number = n; left = []; following = ls })
begun n (Ok ts) ls = (Ok tt, record { number = n; left = ts; following = ls })

-- a reader takes up the line that follows
pub record Begun (s : State) (r : Result (Unit {0}) Fault) (t : State) : Type 0 where
  pub line : List ℕ
  pub rest : List (List ℕ)
  pub is : s.following ≡ line ∷ rest
  pub value : ◌≡◌ {A = Result (Unit {0}) Fault × State} (r, t) (begun (s.number + 1) (meaning (s.number + 1) line) rest)

-- at a line that was judged: a fault passes over the line, no tokens go on with what follows
abbrev pub stopped : ℕ → Result (List Spot) Fault → List (List ℕ) → Result Bool Fault × State → Result Bool Fault × State
stopped n (Err f) ls on = (Err f, record { number = n; left = []; following = ls })
stopped n (Ok []) ls on = on
stopped n (Ok (t ∷ ts)) ls on = (Ok true, record { number = n; left = t ∷ ts; following = ls })

-- on from the n-th line to the next that has tokens or a fault
unfoldable pub advanced : ℕ → List (List ℕ) → Result Bool Fault × State
advanced n [] = (Ok false, record { number = n; left = []; following = [] })
advanced n (l ∷ ls) = stopped (n + 1) (meaning (n + 1) l) ls (advanced (n + 1) ls)
