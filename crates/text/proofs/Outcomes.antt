-- Every line is spelled by some tokens or has a fault. Assumes nothing.
use Rattle.std.proofs.Common.{get_or-take, get_or-drop, add-zero, ◌≡◌, ℕ, zero, suc, ◌+◌, ◌<◌, ◌≤◌, ◌⊎◌, List, [], ◌∷◌, ◌++◌, length, get_or, take, drop, replicate, Some, None, Option, sym, refl, ap, ◌∙◌, subst, inl, inr, ⊎_elim, add-one, arith, take-append-drop}
use Rattle.std.proofs.lemmas.List.{append_assoc, replicate-append-replicate, length-take-le, length-drop}
use Rattle.std.proofs.lemmas.Option.{none-some}
use Rattle.std.proofs.lemmas.List.Sums.{prefix_len_passes, prefix_len_stops}
use Rattle.std.proofs.lemmas.Bool.{both_ways}
use Rattle.text.specs.Alphabet.{class, same}
use Rattle.text.specs.Faults.{along}
use Rattle.text.specs.Numbers.{number_of}
use Rattle.text.specs.Runs.{run_length}
use Rattle.text.specs.Spelling.{Between, NotLed, spelling, Fit, Leads, Turns, Opens, AtFault}
use Rattle.text.specs.Tokens.{Symbol, opening, closing, number, word, Spot}
use Rattle.text.specs.declared.alphabet.Class.{Class}
use Rattle.text.specs.declared.alphabet.Class.TheVariants.{Open, Close, Blank, Digit, Letter, Outside}
use Rattle.text.specs.declared.fault.Fault.{Fault}
use Rattle.text.specs.declared.fault.Fault.TheVariants as fault
use Rattle.text.specs.declared.fault.Place.{Place}
use Rattle.text.proofs.Bytes.{class_known, digit_class, letter_class}
use Rattle.text.proofs.Classes.{same_class, class_same}
use Rattle.text.proofs.Cutting.{run_goes_on, run_within}
use Rattle.text.proofs.Decimals.{number_decimal, decimal_number}
use Rattle.text.proofs.Leading.{OfClass, NotClass, along_twice}
use Rattle.text.proofs.Tokening.{along_none}

-- what becomes of the bytes at p with d brackets open
abbrev pub Outcome : Place → ℕ → List ℕ → Type 0
Outcome p d bs =
    ((ts : List Spot) × (q : Place) × Leads p bs ts q [] × Opens d ts 0)
    ⊎ ((f : Fault) × (ts : List Spot) × (q : Place) × (e : ℕ) × (rest : List ℕ) × Leads p bs ts q rest × Opens d ts e × AtFault e q rest f)

-- blanks in front
blanks_lead : (k : ℕ) (p : Place) (bs : List ℕ) (ts : List Spot) (q : Place) (rest : List ℕ) → Leads (along p k) bs ts q rest → Leads p (replicate k 32 ++ bs) ts q rest
blanks_lead k p bs [] q rest h = (
  k + h.0,
  ap (λ b. replicate k 32 ++ b) h.1 ∙ sym (append_assoc (replicate k 32) (replicate h.0 32) rest) ∙ ap (λ b. b ++ rest) (replicate-append-replicate k h.0 32),
  h.2 ∙ along_twice p k h.0,
)
blanks_lead k p bs (t ∷ ts) q rest h = (
  k + h.0,
  h.1,
  ap (λ b. replicate k 32 ++ b) h.2 ∙ sym (append_assoc (replicate k 32) (replicate h.0 32) (spelling t.1 ++ h.1)) ∙ ap (λ b. b ++ (spelling t.1 ++ h.1)) (replicate-append-replicate k h.0 32),
  h.3 ∙ along_twice p k h.0,
  h.4,
  h.5,
)

after_blanks : (k : ℕ) (p : Place) (d : ℕ) (bs : List ℕ) → Outcome (along p k) d bs → Outcome p d (replicate k 32 ++ bs)
after_blanks k p d bs =
    ⊎_elim
    (λ h. inl (h.0, h.1, blanks_lead k p bs h.0 h.1 [] h.2, h.3))
    (λ h. inr (h.0, h.1, h.2, h.3, h.4, blanks_lead k p bs h.1 h.2 h.4 h.5, h.6, h.7))

-- a token in front
after_token : (t : Symbol) (p : Place) (d e : ℕ) (after : List ℕ) → Fit t after → Turns t d e → Outcome (along p (length (spelling t))) e after → Outcome p d (spelling t ++ after)
after_token t p d e after fit turn =
    let here = sym (along_none p) in
    ⊎_elim
    (λ h. inl ((p, t) ∷ h.0, h.1, (0, after, refl, here, fit, h.2), (e, turn, h.3)))
    (λ h. inr (h.0, (p, t) ∷ h.1, h.2, h.3, h.4, (0, after, refl, here, fit, h.5), (e, turn, h.6), h.7))

-- a fault in front
at_once : (p : Place) (d : ℕ) (bs : List ℕ) (f : Fault) → AtFault d p bs f → Outcome p d bs
at_once p d bs f h = inr (f, [], p, d, bs, (0, refl, sym (along_none p)), refl, h)

-- the run that bytes begin with
pub record Front (k : Class) (bs : List ℕ) : Type 0 where
  pub run : List ℕ
  pub after : List ℕ
  pub whole : run ++ after ≡ bs
  pub some : 0 < length run
  pub all : OfClass k run
  pub stops : NotClass k after
  pub shorter : length after < length bs

run_class : (k : Class) (bs : List ℕ) (i : ℕ) → i < run_length k bs → class (get_or (take (run_length k bs) bs) i 0) ≡ k
run_class k bs i h =
    ap class (get_or-take (run_length k bs) bs i 0 h) ∙ same_class _ _ (prefix_len_passes (λ b. same (class b) k) bs i 0 h)

-- a run goes on as far as it can
run_ended : (k : Class) (bs : List ℕ) → NotClass k (drop (run_length k bs) bs)
run_ended k bs h e =
    let n = run_length k bs in
    let left = length-drop n bs in
    let next = get_or-drop n bs 0 0 ∙ ap (λ i. get_or bs i 0) (add-zero n) in
    both_ways _ (prefix_len_stops (λ b. same (class b) k) bs 0 (omega (arith, h))) (class_same _ _ (sym (ap class next) ∙ e))

front : (b : ℕ) (bs : List ℕ) → Front (class b) (b ∷ bs)
front b bs =
    let k = class b in
    let n = run_length k (b ∷ bs) in
    let w = run_within k (b ∷ bs) in
    let on = run_goes_on k b bs refl in
    let long = length-take-le n (b ∷ bs) w in
    let left = length-drop n (b ∷ bs) in
    record {
      run = take n (b ∷ bs);
      after = drop n (b ∷ bs);
      whole = take-append-drop n (b ∷ bs);
      some = omega arith;
      all = λ i h. run_class k (b ∷ bs) i (omega arith);
      stops = run_ended k (b ∷ bs);
      shorter = omega arith;
    }

blank_run : (w : List ℕ) → OfClass Blank w → w ≡ replicate (length w) 32
blank_run [] all = refl
blank_run (b ∷ w) all = λ i. class_known Blank b (all 0 (omega arith)) i ∷ blank_run w (λ i h. all (suc i) (omega arith)) i

pub option_ways : (o : Option ℕ) → (o ≡ None) ⊎ ((n : ℕ) × (o ≡ Some n))
option_ways None = inl refl
option_ways (Some n) = inr (n, refl)

-- digits in front are a number, or a fault
digits_front : (p : Place) (d : ℕ) (run after : List ℕ) → 0 < length run → OfClass Digit run → NotClass Digit after → ((q : Place) → Outcome q d after) → Outcome p d (run ++ after)
digits_front p d run after some all stops next =
    let digits : Between 48 57 run = λ i h. class_known Digit _ (all i h) in
    let ends : NotLed 48 57 after = λ h in-digits. stops h (digit_class _ in-digits) in
    ⊎_elim
    (λ none.
    at_once p d (run ++ after) (fault.Number p) (
      refl,
      run,
      after,
      refl,
      some,
      digits,
      ends,
      λ n small is.
          none-some n (sym none ∙ ap number_of is ∙ number_decimal n small),
    ))
    (λ h.
    let is = decimal_number run h.0 some digits h.1 in
    subst (λ w. Outcome p d (w ++ after)) (sym is.1) (after_token (number h.0) p d d after (is.0, ends) refl (next _)))
    (option_ways (number_of run))

letters_front : (p : Place) (d : ℕ) (run after : List ℕ) → 0 < length run → OfClass Letter run → NotClass Letter after → ((q : Place) → Outcome q d after) → Outcome p d (run ++ after)
letters_front p d run after some all stops next =
    after_token (word run) p d d after
    (some, λ i h. class_known Letter _ (all i h), λ h in_letters. stops h (letter_class _ in_letters))
    refl (next _)

close_front : (p : Place) (d : ℕ) (bs : List ℕ) → ((q : Place) (e : ℕ) → Outcome q e bs) → Outcome p d (41 ∷ bs)
close_front p zero bs next = at_once p 0 (41 ∷ bs) (fault.Bracket p) (refl, inr (bs, refl, refl))
close_front p (suc d) bs next = after_token closing p (suc d) d bs tt (sym (add-one d)) (next _ d)

by_class : (k : Class) (p : Place) (d : ℕ) (b : ℕ) (bs : List ℕ) → class b ≡ k → Front k (b ∷ bs) → ((q : Place) (e : ℕ) (rest : List ℕ) → length rest ≤ length bs → Outcome q e rest) → Outcome p d (b ∷ bs)
by_class Open p d b bs is f next =
    subst (λ x. Outcome p d (x ∷ bs)) (sym (class_known Open b is)) (after_token opening p d (d + 1) bs tt refl (next _ _ bs (omega arith)))
by_class Close p d b bs is f next =
    subst (λ x. Outcome p d (x ∷ bs)) (sym (class_known Close b is)) (close_front p d bs (λ q e. next q e bs (omega arith)))
by_class Blank p d b bs is f next =
    let small = f.shorter in
    subst (Outcome p d) (ap (λ w. w ++ f.after) (sym (blank_run f.run f.all)) ∙ f.whole)
    (after_blanks (length f.run) p d f.after (next _ d f.after (omega arith)))
by_class Digit p d b bs is f next =
    let small = f.shorter in
    subst (Outcome p d) f.whole (digits_front p d f.run f.after f.some f.all f.stops (λ q. next q d f.after (omega arith)))
by_class Letter p d b bs is f next =
    let small = f.shorter in
    subst (Outcome p d) f.whole (letters_front p d f.run f.after f.some f.all f.stops (λ q. next q d f.after (omega arith)))
by_class Outside p d b bs is f next = at_once p d (b ∷ bs) (fault.Outside p) (refl, b, bs, refl, class_known Outside b is)

no_bytes : (p : Place) (d : ℕ) → Outcome p d []
no_bytes p zero = inl ([], p, (0, refl, sym (along_none p)), refl)
no_bytes p (suc d) = at_once p (suc d) [] (fault.Bracket p) (refl, inl (refl, omega arith))

within_turns : (turns : ℕ) (bs : List ℕ) → length bs ≤ turns → (p : Place) (d : ℕ) → Outcome p d bs
within_turns turns [] h p d = no_bytes p d
within_turns zero (b ∷ bs) h p d = absurd (omega arith)
within_turns (suc turns) (b ∷ bs) h p d =
    by_class (class b) p d b bs refl (front b bs) (λ q e rest small. within_turns turns rest (omega arith) q e)

-- every line has an outcome
pub outcome : (p : Place) (d : ℕ) (bs : List ℕ) → Outcome p d bs
outcome p d bs = within_turns (length bs) bs (omega arith) p d
