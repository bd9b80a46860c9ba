-- What the entries of a table mean, read and written one at a time.
use Rattle.std.proofs.Common.{◌≡◌, ℕ, ◌<◌, List, map, length, set, ap, ◌∙◌, arith}
use Rattle.std.proofs.lemmas.List.{length-map, map-set, get_or-set_same, get_or-set_other}
use Rattle.kinds.specs.Group.{Group}
use Rattle.distances.specs.Distance.{entry}

module _ {K V : Type 0} (G : Group V) (meaning : K → V) (table : List K) where
  pub entry_set : (i : ℕ) (x : K) → i < length table → entry G (map meaning (set table i x)) i ≡ meaning x
  entry_set i x l =
      let e = length-map table meaning in
      ap (λ (xs : List V). entry G xs i) (map-set meaning table i x)
      ∙ get_or-set_same (map meaning table) i (meaning x) G.zero (let z : i < length (map meaning table) = omega arith in z)

  pub entry_kept : (i j : ℕ) (x : K) → (j ≡ i → ⊥) → entry G (map meaning (set table i x)) j ≡ entry G (map meaning table) j
  entry_kept i j x ne =
      ap (λ (xs : List V). entry G xs j) (map-set meaning table i x)
      ∙ get_or-set_other (map meaning table) i j (meaning x) G.zero ne
