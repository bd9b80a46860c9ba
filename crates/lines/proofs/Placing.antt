-- One text written after another: the second goes into what the first leaves of the buffer.
use Rattle.std.proofs.Common.{◌≡◌, ℕ, ◌+◌, ◌-◌, ◌<◌, ◌≤◌, leb, List, [], ◌++◌, length, get_or, take, drop, Some, None, Option, sym, refl, ap, ◌∙◌, subst, ⊎_elim, arith, length-append, length-drop, take-append-drop}
use borrow.Rule.Slice.PartMut.{put_mid}
use lib.Seq.{take-append-add}
use Rattle.std.proofs.lemmas.List.{flat_map_more, take_more, append_assoc, append-nil, take_all, take_at, take-append-le, take_rest, drop_all, drop_at, drop-drop}
use Rattle.std.proofs.lemmas.Bool.{le-leb, lt-leb, leb-true, leb-false, cases_Bool, cond-true, cond-false}
use Rattle.std.proofs.lemmas.Grind.{flat_map-append}
use Rattle.std.specs.List.{flat_map}
use Rattle.lines.specs.Text.{filled, placed, Wrote}
use Rattle.lines.specs.Fits.{Whole}

pub filled_some : (t buf : List ℕ) → length t ≤ length buf → filled t buf ≡ Some (length t)
filled_some t buf h = cond-true _ _ _ (le-leb (length t) (length buf) h)

pub filled_none : (t buf : List ℕ) → length buf < length t → filled t buf ≡ None
filled_none t buf h = cond-false _ _ _ (lt-leb (length t) (length buf) h)

-- a text that filled n places fits and is n long
pub fits : (t buf : List ℕ) (n : ℕ) → Some n ≡ filled t buf → (n ≡ length t) × (length t ≤ length buf)
fits t buf n e =
    ⊎_elim
    (λ b.
    let is = e ∙ cond-true _ _ _ b in
    let same : n ≡ length t = cc in
    (same, leb-true _ _ b))
    (λ b.
    let is = e ∙ cond-false _ _ _ b in
    let apart : ◌≡◌ {A = ℕ} 0 1 = cc in
    absurd (omega arith))
    (cases_Bool (leb (length t) (length buf)))

-- a text that is not written whole is longer than the buffer
pub over : (t buf : List ℕ) → None ≡ filled t buf → length buf < length t
over t buf e =
    ⊎_elim
    (λ b.
    let is = e ∙ cond-true _ _ _ b in
    let apart : ◌≡◌ {A = ℕ} 0 1 = cc in
    absurd (omega arith))
    (λ b. leb-false _ _ b)
    (cases_Bool (leb (length t) (length buf)))

pub placed_whole : (t buf : List ℕ) → length t ≤ length buf → placed t buf ≡ t ++ drop (length t) buf
unfolding placed
placed_whole t buf h = ap (λ x. x ++ drop (length t) buf) (take_all (length buf) t h)

pub placed_cut : (t buf : List ℕ) → length buf ≤ length t → placed t buf ≡ take (length buf) t
unfolding placed
placed_cut t buf h = ap (λ x. take (length buf) t ++ x) (drop_all (length t) buf h) ∙ append-nil _

-- the same text by another name
pub called : {t u buf now : List ℕ} {r : Option ℕ} → t ≡ u → Wrote t buf now r → Wrote u buf now r
called {buf = buf} {now = now} {r = r} e w =
    let P : List ℕ → Type 0 = λ x. Wrote x buf now r in
    subst P e w

-- a text that does not fit leaves no room for more
pub stopped : {t buf now : List ℕ} (u : List ℕ) {r : Option ℕ} → r ≡ None → Wrote t buf now None → Wrote (t ++ u) buf now r
stopped {t} {buf} {now} u {r} is w =
    let far = over t buf w.value in
    let long = length-append t u in
    record {
      value = is ∙ sym (filled_none (t ++ u) buf (omega arith));
      left = w.left ∙ placed_cut t buf (omega arith) ∙ sym (take-append-le (length buf) t u (omega arith)) ∙ sym (placed_cut (t ++ u) buf (omega arith));
    }

-- what is lent of a buffer from n on
abbrev pub lent : List ℕ → ℕ → List ℕ
lent now n = take (length now - n) (drop n now)

placed_append : (t u buf : List ℕ) → length t ≤ length buf → t ++ placed u (drop (length t) buf) ≡ placed (t ++ u) buf
unfolding placed
placed_append t u buf h =
    let rest = length-drop (length t) buf in
    let whole : length t + length (drop (length t) buf) ≡ length buf = omega arith in
    sym (append_assoc t _ _)
    ∙ ap (λ x. x ++ drop (length u) (drop (length t) buf)) (sym (take-append-add t u _) ∙ ap (λ n. take n (t ++ u)) whole)
    ∙ ap (λ x. take (length buf) (t ++ u) ++ x) (drop-drop (length u) (length t) buf ∙ ap (λ n. drop n buf) (sym (length-append t u)))

lent_is : (t buf now : List ℕ) → length t ≤ length buf → now ≡ placed t buf → lent now (length t) ≡ drop (length t) buf
lent_is t buf now h after =
    take_rest now (length t) ∙ ap (drop (length t)) (after ∙ placed_whole t buf h) ∙ drop_at t (drop (length t) buf) (length t) refl

put_back : (t buf now rest : List ℕ) → length t ≤ length buf → now ≡ placed t buf → put_mid (length t) (length now - length t) now rest ≡ t ++ rest
put_back t buf now rest h after =
    let front : take (length t) now ≡ t = ap (take (length t)) (after ∙ placed_whole t buf h) ∙ take_at t (drop (length t) buf) (length t) refl in
    let none : drop (length now - length t) (drop (length t) now) ≡ [] = drop_all (length now - length t) (drop (length t) now) (omega (arith, length-drop (length t) now)) in
    (λ i. front i ++ (rest ++ none i)) ∙ ap (λ x. t ++ x) (append-nil rest)

-- the buffer after a second text was written into what the first left
joined_on : (t u buf now rest : List ℕ) (n : ℕ) → length t ≡ n → length t ≤ length buf → now ≡ placed t buf → rest ≡ placed u (lent now n) → put_mid n (length now - n) now rest ≡ placed (t ++ u) buf
joined_on t u buf now rest n is h after =
    let P : ℕ → Type 0 = λ k. rest ≡ placed u (lent now k) → put_mid k (length now - k) now rest ≡ placed (t ++ u) buf in
    subst P is (λ more. put_back t buf now rest h after ∙ ap (λ x. t ++ x) (more ∙ ap (placed u) (lent_is t buf now h after)) ∙ placed_append t u buf h)

-- how long the rest is
length_lent : (t buf now : List ℕ) (n : ℕ) → length t ≡ n → length t ≤ length buf → now ≡ placed t buf → length (lent now n) ≡ length buf - n
length_lent t buf now n is h after =
    let P : ℕ → Type 0 = λ k. length (lent now k) ≡ length buf - k in
    subst P is (ap length (lent_is t buf now h after) ∙ length-drop (length t) buf)

-- both texts fit
pub went_on : {t u buf now rest : List ℕ} {n k : ℕ} → Wrote t buf now (Some n) → Wrote u (lent now n) rest (Some k) → Wrote (t ++ u) buf (put_mid n (length now - n) now rest) (Some (n + k))
went_on {t} {u} {buf} {now} {rest} {n} {k} first second =
    let f = fits t buf n first.value in
    let is : length t ≡ n = sym f.0 in
    let s = fits u (lent now n) k second.value in
    let room = length_lent t buf now n is f.1 first.left in
    let long = length-append t u in
    let sum : length (t ++ u) ≡ n + k = omega arith in
    record {
      value = ap Some (sym sum) ∙ sym (filled_some (t ++ u) buf (omega arith));
      left = joined_on t u buf now rest n is f.1 first.left second.left;
    }

-- the second does not fit
pub went_over : {t u buf now rest : List ℕ} {n : ℕ} {r : Option ℕ} → r ≡ None → Wrote t buf now (Some n) → Wrote u (lent now n) rest None → Wrote (t ++ u) buf (put_mid n (length now - n) now rest) r
went_over {t} {u} {buf} {now} {rest} {n} {r} none first second =
    let f = fits t buf n first.value in
    let is : length t ≡ n = sym f.0 in
    let s = over u (lent now n) second.value in
    let room = length_lent t buf now n is f.1 first.left in
    let long = length-append t u in
    record {
      value = none ∙ sym (filled_none (t ++ u) buf (omega arith));
      left = joined_on t u buf now rest n is f.1 first.left second.left;
    }

-- nothing is written yet
pub begun : (buf : List ℕ) → Wrote [] buf buf (Some 0)
begun buf = record { value = sym (filled_some [] buf (omega arith)); left = sym (placed_whole [] buf (omega arith)) }

-- the texts of the first elements, and the next one's
pub one_more : {X : Type 0} (f : X → List ℕ) (xs : List X) (i : ℕ) (d : X) → i < length xs → flat_map f (take i xs) ++ f (get_or xs i d) ≡ flat_map f (take (i + 1) xs)
one_more f xs i d h = flat_map_more f [] (take i xs) (get_or xs i d) ∙ ap (flat_map f) (sym (take_more xs i d h))

-- the texts of the first elements, and of the others
pub and_others : {X : Type 0} (f : X → List ℕ) (xs : List X) (i : ℕ) → flat_map f (take i xs) ++ flat_map f (drop i xs) ≡ flat_map f xs
and_others f xs i = sym (flat_map-append f (take i xs) (drop i xs)) ∙ ap (flat_map f) (take-append-drop i xs)

-- a turn of a loop that writes one element's text after another's
pub turned : {X : Type 0} (f : X → List ℕ) (xs : List X) (i : ℕ) (x : X) {buf now rest : List ℕ} {n k : ℕ} → i < length xs → x ≡ get_or xs i x → Wrote (flat_map f (take i xs)) buf now (Some n) → Wrote (f x) (lent now n) rest (Some k) → Wrote (flat_map f (take (i + 1) xs)) buf (put_mid n (length now - n) now rest) (Some (n + k))
turned f xs i x h is first second = called (one_more f xs i x h) (went_on first (called (ap f is) second))

-- a turn whose text does not fit ends the loop
pub turned_over : {X : Type 0} (f : X → List ℕ) (xs : List X) (i : ℕ) (x : X) {buf now rest : List ℕ} {n : ℕ} {r : Option ℕ} → i < length xs → x ≡ get_or xs i x → r ≡ None → Wrote (flat_map f (take i xs)) buf now (Some n) → Wrote (f x) (lent now n) rest None → Wrote (flat_map f xs) buf (put_mid n (length now - n) now rest) r
turned_over f xs i x h is none first second =
    called (and_others f xs (i + 1)) (stopped (flat_map f (drop (i + 1) xs)) none (called (one_more f xs i x h) (went_over refl first (called (ap f is) second))))

-- a loop that came to its end wrote all texts
pub turned_all : {X : Type 0} (f : X → List ℕ) (xs : List X) (i : ℕ) {buf now : List ℕ} {r : Option ℕ} → length xs ≤ i → Wrote (flat_map f (take i xs)) buf now r → Wrote (flat_map f xs) buf now r
turned_all f xs i h w = called (ap (flat_map f) (take_all i xs h)) w

-- a text of at most 16,384 bytes is written whole where there are so many
pub whole : {t buf now : List ℕ} {r : Option ℕ} → Wrote t buf now r → length t ≤ 16384 → Whole t buf r
whole {t} {buf} w few room = w.value ∙ filled_some t buf (omega arith)
