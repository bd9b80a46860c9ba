-- The alphabet of a script. Assumes nothing.
use Rattle.std.specs.Prelude.{ℕ, Bool, true, false, cond, ◌&&◌, ◌==◌, nat_le}
use Rattle.text.specs.declared.alphabet.Class.{Class}
use Rattle.text.specs.declared.alphabet.Class.TheVariants.{Open, Close, Blank, Digit, Letter, Outside}

-- the class of a byte
abbrev pub class : ℕ → Class
class b =
    cond (b == 40) Open
    (cond (b == 41) Close
    (cond (b == 32) Blank (cond (nat_le 48 b && nat_le b 57) Digit (cond (nat_le 97 b && nat_le b 122) Letter Outside))))

-- the class's number, by which two classes are told apart
abbrev pub rank : Class → ℕ
rank Open = 0
rank Close = 1
rank Blank = 2
rank Digit = 3
rank Letter = 4
rank Outside = 5

abbrev pub same : Class → Class → Bool
same j k = rank j == rank k

-- bytes of this class that stand together are one run
abbrev pub joins : Class → Bool
joins Open = false
joins Close = false
joins Blank = true
joins Digit = true
joins Letter = true
joins Outside = false
