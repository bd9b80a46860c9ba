-- What one turn over a list adds to a search. Assumes nothing.
use Rattle.std.proofs.Common.{◌≡◌, ℕ, ◌+◌, ◌-◌, ◌<◌, ◌≤◌, Bool, cond, eqb, List, [], ◌∷◌, length, get_or, take, drop, None, Option, sym, ap, ◌∙◌, add-one, arith}
use Rattle.std.proofs.lemmas.List.{at_drop_more, at_drop_all, length-drop, take_all}
use Rattle.std.proofs.lemmas.Bool.{eq-eqb, ne_eqb, cond-true, cond-false}
use Rattle.links.specs.Ranges.{Range}
use Rattle.std.specs.List.{find}
use Rattle.judgement.specs.Search.{places, with_low, pair_across}

module _ (x : ℕ) (ls : List ℕ) (i : ℕ) where
  places_turn : i < length ls
      → places x (drop i ls) i ≡ cond (eqb (get_or ls i 0) x) (i ∷ places x (drop (i + 1) ls) (i + 1)) (places x (drop (i + 1) ls) (i + 1))
  unfolding places
  places_turn h =
      at_drop_more (λ l. places x l i) ls i 0 h
      ∙ ap (λ n. cond (eqb (get_or ls i 0) x) (i ∷ places x (drop (i + 1) ls) n) (places x (drop (i + 1) ls) n)) (sym (add-one i))

  pub places_here : i < length ls → get_or ls i 0 ≡ x → places x (drop i ls) i ≡ i ∷ places x (drop (i + 1) ls) (i + 1)
  places_here h e = places_turn h ∙ cond-true (eqb (get_or ls i 0) x) _ _ (eq-eqb (get_or ls i 0) x e)

  pub places_later : i < length ls → (get_or ls i 0 ≡ x → ⊥) → places x (drop i ls) i ≡ places x (drop (i + 1) ls) (i + 1)
  places_later h e = places_turn h ∙ cond-false (eqb (get_or ls i 0) x) _ _ (ne_eqb (get_or ls i 0) x e)

  pub places_over : length ls ≤ i → places x (drop i ls) i ≡ []
  unfolding places
  places_over h = at_drop_all (λ l. places x l i) ls i h

module _ (says : ℕ → ℕ → Bool) (x y : ℕ) (ls : List ℕ) (i : ℕ) where
  abbrev Rest : Option Range
  Rest = pair_across says x y (drop (i + 1) ls) (i + 1)

  -- the pairs of i with the members z of the other set, and else what follows
  abbrev Beside : ℕ → Option Range
  Beside z = with_low i (find (says i) (places z (drop (i + 1) ls) (i + 1))) Rest

  pair_turn : i < length ls
      → pair_across says x y (drop i ls) i ≡ cond (eqb (get_or ls i 0) x) (Beside y) (cond (eqb (get_or ls i 0) y) (Beside x) Rest)
  unfolding pair_across
  pair_turn h =
      at_drop_more (λ l. pair_across says x y l i) ls i 0 h
      ∙ ap
      (λ n.
      cond (eqb (get_or ls i 0) x) (with_low i (find (says i) (places y (drop (i + 1) ls) n)) (pair_across says x y (drop (i + 1) ls) n))
      (cond (eqb (get_or ls i 0) y) (with_low i (find (says i) (places x (drop (i + 1) ls) n)) (pair_across says x y (drop (i + 1) ls) n))
      (pair_across says x y (drop (i + 1) ls) n)))
      (sym (add-one i))

  pub pair_x : i < length ls → get_or ls i 0 ≡ x → pair_across says x y (drop i ls) i ≡ Beside y
  pair_x h e = pair_turn h ∙ cond-true (eqb (get_or ls i 0) x) _ _ (eq-eqb (get_or ls i 0) x e)

  pub pair_y : i < length ls → (get_or ls i 0 ≡ x → ⊥) → get_or ls i 0 ≡ y → pair_across says x y (drop i ls) i ≡ Beside x
  pair_y h n e =
      pair_turn h
      ∙ (cond-false (eqb (get_or ls i 0) x) _ _ (ne_eqb (get_or ls i 0) x n) ∙ cond-true (eqb (get_or ls i 0) y) _ _ (eq-eqb (get_or ls i 0) y e))

  pub pair_neither : i < length ls → (get_or ls i 0 ≡ x → ⊥) → (get_or ls i 0 ≡ y → ⊥) → pair_across says x y (drop i ls) i ≡ Rest
  pair_neither h n m =
      pair_turn h
      ∙ (cond-false (eqb (get_or ls i 0) x) _ _ (ne_eqb (get_or ls i 0) x n) ∙ cond-false (eqb (get_or ls i 0) y) _ _ (ne_eqb (get_or ls i 0) y m))

  pub pair_over : length ls ≤ i → pair_across says x y (drop i ls) i ≡ None
  unfolding pair_across
  pair_over h = at_drop_all (λ l. pair_across says x y l i) ls i h

-- a list behind its first, as it is lent
pub tail_is : (xs : List ℕ) (i : ℕ) (rest : List ℕ) → xs ≡ i ∷ rest → take (length xs - 1) (drop 1 xs) ≡ rest
tail_is xs i rest e = take_all (length xs - 1) (drop 1 xs) (let l = length-drop 1 xs in omega arith) ∙ ap (drop 1) e

module _ (says : ℕ → ℕ → Bool) (x y : ℕ) (ls ours theirs : List ℕ) (i : ℕ) (within : i < length ls) (apart : x ≡ y → ⊥)
    (x-left : ours ≡ places x (drop i ls) i) (y-left : theirs ≡ places y (drop i ls) i) where
  -- boundary i is a member of the first set: it leaves the first list, and its pairs are with what is left of the second
  pub passed_x : get_or ls i 0 ≡ x
      → (ours ≡ i ∷ places x (drop (i + 1) ls) (i + 1)) × (theirs ≡ places y (drop (i + 1) ls) (i + 1))
      × (pair_across says x y (drop i ls) i ≡ with_low i (find (says i) theirs) (pair_across says x y (drop (i + 1) ls) (i + 1)))
  passed_x e =
      let other = y-left ∙ places_later y ls i within (λ f. apart (sym e ∙ f)) in (
        x-left ∙ places_here x ls i within e,
        other,
        pair_x says x y ls i within e ∙ ap (λ l. with_low i (find (says i) l) (pair_across says x y (drop (i + 1) ls) (i + 1))) (sym other),
      )

  pub passed_y : (get_or ls i 0 ≡ x → ⊥) → get_or ls i 0 ≡ y
      → (theirs ≡ i ∷ places y (drop (i + 1) ls) (i + 1)) × (ours ≡ places x (drop (i + 1) ls) (i + 1))
      × (pair_across says x y (drop i ls) i ≡ with_low i (find (says i) ours) (pair_across says x y (drop (i + 1) ls) (i + 1)))
  passed_y n e =
      let other = x-left ∙ places_later x ls i within n in (
        y-left ∙ places_here y ls i within e,
        other,
        pair_y says x y ls i within n e ∙ ap (λ l. with_low i (find (says i) l) (pair_across says x y (drop (i + 1) ls) (i + 1))) (sym other),
      )
