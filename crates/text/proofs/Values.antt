-- Reading digits from the left. Assumes nothing.
use Rattle.std.proofs.Common.{◌≡◌, ℕ, ◌+◌, ◌-◌, ◌*◌, ◌^◌, ◌<◌, ◌≤◌, false, List, [], ◌∷◌, length, get_or, drop, Some, None, refl, ◌∙◌, ⊎_elim, arith}
use Rattle.std.proofs.lemmas.List.{at_drop_more, at_drop_all}
use Rattle.std.proofs.lemmas.Bool.{cond-true, cond-false, lt-ltb, le-ltb, cases_Bool}
use Rattle.text.specs.Numbers.{value_after, number_of, zero_led}

pub value_none : (n : ℕ) → value_after n [] ≡ n
unfolding value_after
value_none n = refl

pub value_next : (n d : ℕ) (ds : List ℕ) → value_after n (d ∷ ds) ≡ value_after (10 * n + (d - 48)) ds
unfolding value_after
value_next n d ds = refl

-- more digits make no number smaller
pub value_grows : (n : ℕ) (ds : List ℕ) → n ≤ value_after n ds
unfolding value_after
value_grows n [] = omega arith
value_grows n (d ∷ ds) = let on = value_grows (10 * n + (d - 48)) ds in omega arith

pub value_more : (n : ℕ) (ds : List ℕ) (i : ℕ) → i < length ds → value_after n (drop i ds) ≡ value_after (10 * n + (get_or ds i 0 - 48)) (drop (i + 1) ds)
value_more n ds i h = at_drop_more (value_after n) ds i 0 h ∙ value_next n _ _

pub value_all : (n : ℕ) (ds : List ℕ) (i : ℕ) → length ds ≤ i → value_after n (drop i ds) ≡ n
value_all n ds i h = at_drop_all (value_after n) ds i h ∙ value_none n

pub not_led : (ds : List ℕ) → zero_led ds ≡ false → value_after 0 ds < 2 ^ 32 → number_of ds ≡ Some (value_after 0 ds)
not_led ds e h = cond-false _ _ _ e ∙ cond-true _ _ _ (lt-ltb _ _ h)

pub too_large : (ds : List ℕ) → 2 ^ 32 ≤ value_after 0 ds → number_of ds ≡ None
too_large ds h =
    ⊎_elim (λ e. cond-true _ _ _ e) (λ e. cond-false _ _ _ e ∙ cond-false _ _ _ (le-ltb _ _ h)) (cases_Bool (zero_led ds))

-- a value that is too large stays so, whatever digits follow
pub outgrown : (ds : List ℕ) (i n : ℕ) → i < length ds → value_after n (drop i ds) ≡ value_after 0 ds → 2 ^ 32 ≤ 10 * n + (get_or ds i 0 - 48) → number_of ds ≡ None
outgrown ds i n h is big =
    let on = value_more n ds i h in
    let up = value_grows (10 * n + (get_or ds i 0 - 48)) (drop (i + 1) ds) in
    too_large ds (omega arith)
