-- Listing slot after slot as they answer. Assumes nothing.
use Rattle.std.proofs.Common.{◌≡◌, ℕ, ◌<◌, List, length, get_or}
use Rattle.stores.specs.Log.{Log, mark_of, told, answer}

module _ {R V : Type 0} (f : R → V) (none : R) (log : Log V) where
  -- the lists answer as the first n slots of the log do
  pub record Sofar (values : List R) (marks : List ℕ) (n : ℕ) : Type 0 where
    pub values_long : length values ≡ n
    pub marks_long : length marks ≡ n
    pub each : (i : ℕ) → i < n → told (mark_of (get_or marks i 0)) (f (get_or values i none)) ≡ answer log i
