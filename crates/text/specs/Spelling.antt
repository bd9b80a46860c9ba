-- The grammar of a line's text: which bytes spell which tokens, and where a fault stands. Nothing is read here. Assumes nothing.
use Rattle.std.specs.Prelude.{◌≡◌, ℕ, ◌+◌, ◌^◌, ◌<◌, ◌⊎◌, List, [], ◌∷◌, ◌++◌, length, replicate, Ok, Err, decimal, ◌≢◌, slice_index}
use Rattle.std.specs.Int.{IsInRange}
use Rattle.text.specs.Faults.{along}
use Rattle.text.specs.Tokens.{Symbol, opening, closing, number, word, Spot, line_start, meaning}
use Rattle.text.specs.declared.fault.Fault.{Fault}
use Rattle.text.specs.declared.fault.Fault.TheVariants as fault
use Rattle.text.specs.declared.fault.Place.{Place}

-- every byte lies within the two
abbrev pub Between : ℕ → ℕ → List ℕ → Type 0
Between lo hi bs = (i : ℕ) → i < length bs → IsInRange lo hi (slice_index bs i)

-- the first byte, if there is one, does not lie within the two
abbrev pub NotLed : ℕ → ℕ → List ℕ → Type 0
NotLed lo hi bs = 0 < length bs → IsInRange lo hi (slice_index bs 0) → ⊥

-- the bytes of a token
abbrev pub spelling : Symbol → List ℕ
spelling opening = 40 ∷ []
spelling closing = 41 ∷ []
spelling (number n) = decimal n
spelling (word w) = w

-- a token may stand before these bytes: a number is below 2^32, a word is of small letters, and each goes as far as it can
abbrev pub Fit : Symbol → List ℕ → Type 0
Fit opening after = Unit {0}
Fit closing after = Unit {0}
Fit (number n) after = (n < 2 ^ 32) × NotLed 48 57 after
Fit (word w) after = (0 < length w) × Between 97 122 w × NotLed 97 122 after

-- the bytes at p are tokens at their places, with blanks before each and after the last, up to those that are left at q
abbrev pub Leads : Place → List ℕ → List Spot → Place → List ℕ → Type 0
Leads p bs [] q rest = (k : ℕ) × (bs ≡ replicate k 32 ++ rest) × (q ≡ along p k)
Leads p bs (t ∷ ts) q rest =
    (k : ℕ) × (after : List ℕ) × (bs ≡ replicate k 32 ++ (spelling t.1 ++ after)) × (t.0 ≡ along p k) × Fit t.1 after
    × Leads (along t.0 (length (spelling t.1))) after ts q rest

-- a token turns d open brackets into e
abbrev pub Turns : Symbol → ℕ → ℕ → Type 0
Turns opening d e = e ≡ d + 1
Turns closing d e = d ≡ e + 1
Turns (number n) d e = e ≡ d
Turns (word w) d e = e ≡ d

-- tokens turn d open brackets into e, and none closes what is not open
abbrev pub Opens : ℕ → List Spot → ℕ → Type 0
Opens d [] e = e ≡ d
Opens d (t ∷ ts) e = (m : ℕ) × Turns t.1 d m × Opens m ts e

-- the n-th line is these tokens: they make it up, and no bracket is left open
abbrev pub Spelled : ℕ → List ℕ → List Spot → Type 0
Spelled n bs ts = (q : Place) × Leads (line_start n) bs ts q [] × Opens 0 ts 0

-- a byte outside the alphabet
abbrev pub Foreign : ℕ → Type 0
Foreign b = (b ≢ 40) × (b ≢ 41) × (b ≢ 32) × (IsInRange 48 57 b → ⊥) × (IsInRange 97 122 b → ⊥)

-- a fault of the bytes that are left at q, with d brackets open
abbrev pub AtFault : ℕ → Place → List ℕ → Fault → Type 0
AtFault d q rest fault.TooLong = ⊥
AtFault d q rest (fault.Outside p) = (p ≡ q) × (b : ℕ) × (after : List ℕ) × (rest ≡ b ∷ after) × Foreign b
AtFault d q rest (fault.Number p) =
    (p ≡ q) × (ds : List ℕ) × (after : List ℕ) × (rest ≡ ds ++ after) × (0 < length ds) × Between 48 57 ds × NotLed 48 57 after
    × ((n : ℕ) → n < 2 ^ 32 → ds ≢ decimal n)
AtFault d q rest (fault.Bracket p) = (p ≡ q) × (((rest ≡ []) × (0 < d)) ⊎ ((after : List ℕ) × (rest ≡ 41 ∷ after) × (d ≡ 0)))

-- the n-th line has a fault: sound tokens lead up to it
abbrev pub Faulty : ℕ → List ℕ → Fault → Type 0
Faulty n bs f =
    (ts : List Spot) × (q : Place) × (d : ℕ) × (rest : List ℕ) × Leads (line_start n) bs ts q rest × Opens 0 ts d × AtFault d q rest f

-- a line means just the tokens that it spells, and has just the fault that stands in it
abbrev pub Grammar : Type 0
Grammar =
    (n : ℕ) (bs : List ℕ) →
    ((ts : List Spot) → (meaning n bs ≡ Ok ts → Spelled n bs ts) × (Spelled n bs ts → meaning n bs ≡ Ok ts))
    × ((f : Fault) → (meaning n bs ≡ Err f → Faulty n bs f) × (Faulty n bs f → meaning n bs ≡ Err f))
