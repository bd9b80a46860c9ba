-- What is read of tokens that lead up to a place. Assumes nothing.
use Rattle.std.proofs.Common.{◌≡◌, ℕ, zero, suc, ◌+◌, ◌<◌, true, ◌&&◌, List, [], ◌∷◌, ◌++◌, length, get_or, take, drop, replicate, Some, Ok, decimal, Result, sym, refl, ap, ◌∙◌, ⊎_elim, add_assoc, add-one, one-add, arith}
use Rattle.std.proofs.lemmas.Fmt.{decimal_nonempty}
use Rattle.std.proofs.lemmas.List.{take_at, drop_at}
use Rattle.std.proofs.lemmas.Bool.{cond-true, cond-false, cases_Bool}
use Rattle.std.specs.Int.{IsInRange}
use Rattle.text.specs.Alphabet.{class, rank, same, joins}
use Rattle.text.specs.Faults.{along}
use Rattle.text.specs.Judging.{closed, depth_after, judged, sound}
use Rattle.text.specs.Runs.{run_length, Run, before, runs}
use Rattle.text.specs.Spelling.{Between, NotLed, spelling, Fit, Leads, Turns, Opens}
use Rattle.text.specs.Tokens.{Symbol, opening, closing, number, word, Spot, symbol_of, onto, tokens, numeral}
use Rattle.text.specs.declared.alphabet.Class.{Class}
use Rattle.text.specs.declared.alphabet.Class.TheVariants.{Open, Close, Blank, Digit, Letter}
use Rattle.text.specs.declared.fault.Fault.{Fault}
use Rattle.text.specs.declared.fault.Place.{Place}
use Rattle.text.proofs.Bytes.{class_known, digit_class, letter_class}
use Rattle.text.proofs.Classes.{same_class}
use Rattle.text.proofs.Cutting.{run_none, run_goes_on, run_stops, runs_next, runs_alone, runs_joined}
use Rattle.text.proofs.Decimals.{number_decimal, decimal_digits}
use Rattle.text.proofs.Judged.{onward, judged_first}
use Rattle.text.proofs.Tokening.{tokens_past, tokens_at, along_none}

-- all that is read from a place on: the judgement, and the tokens
abbrev pub Read : Type 0
Read = Result (Unit {0}) Fault × List Spot

abbrev pub reading : Place → ℕ → List Run → Read
reading p d rs = (judged p d rs, tokens p rs)

pub along_twice : (p : Place) (m n : ℕ) → along (along p m) n ≡ along p (m + n)
along_twice p m n = ap (λ c. record { line = p.line; column = c }) (add_assoc p.column m n)

-- a blank in front is passed over
past_blank : (p : Place) (d : ℕ) (ds : List ℕ) (rs : List Run) → reading p d ((Blank, ds) ∷ rs) ≡ reading (along p (length ds)) d rs
past_blank p d ds rs = λ i. (judged_first p d (Blank, ds) rs i, tokens_past p (Blank, ds) rs refl i)

one_blank : (p : Place) (d : ℕ) (rs : List Run) → reading p d (before Blank 32 rs) ≡ reading (along p 1) d rs
one_blank p d [] = past_blank p d (32 ∷ []) []
one_blank p d (r ∷ rs) =
    ⊎_elim
    (λ e.
    let is : r.0 ≡ Blank = sym (same_class Blank r.0 e) in
    let more : 1 + length r.1 ≡ length (32 ∷ r.1) = one-add _ in
    ap (reading p d) (cond-true _ _ _ e) ∙ past_blank p d (32 ∷ r.1) rs
    ∙ ap (λ q. reading q d rs) (ap (along p) (sym more) ∙ sym (along_twice p 1 (length r.1)))
    ∙ sym (past_blank (along p 1) d r.1 rs) ∙ ap (λ k. reading (along p 1) d ((k, r.1) ∷ rs)) (sym is))
    (λ e. ap (reading p d) (cond-false _ _ _ e) ∙ past_blank p d (32 ∷ []) (r ∷ rs))
    (cases_Bool (joins Blank && same Blank r.0))

pub past_blanks : (k : ℕ) (p : Place) (d : ℕ) (bs : List ℕ) → reading p d (runs (replicate k 32 ++ bs)) ≡ reading (along p k) d (runs bs)
past_blanks zero p d bs = ap (λ q. reading q d (runs bs)) (sym (along_none p))
past_blanks (suc k) p d bs =
    ap (reading p d) (runs_next 32 (replicate k 32 ++ bs)) ∙ one_blank p d (runs (replicate k 32 ++ bs))
    ∙ past_blanks k (along p 1) d bs ∙ ap (λ q. reading q d (runs bs)) (along_twice p 1 k ∙ ap (along p) (one-add k))

-- bytes of one class with another behind them
abbrev pub OfClass : Class → List ℕ → Type 0
OfClass k w = (i : ℕ) → i < length w → class (get_or w i 0) ≡ k

abbrev pub NotClass : Class → List ℕ → Type 0
NotClass k bs = 0 < length bs → class (get_or bs 0 0) ≡ k → ⊥

run_of : (k : Class) (w after : List ℕ) → OfClass k w → NotClass k after → run_length k (w ++ after) ≡ length w
run_of k [] [] all n = run_none k
run_of k [] (b ∷ after) all n = run_stops k b after (n (omega arith))
run_of k (b ∷ w) after all n =
    run_goes_on k b (w ++ after) (all 0 (omega arith)) ∙ one-add _ ∙ ap suc (run_of k w after (λ i h. all (suc i) (omega arith)) n)

pub runs_of : (k : Class) (w after : List ℕ) → joins k ≡ true → 0 < length w → OfClass k w → NotClass k after → runs (w ++ after) ≡ (k, w) ∷ runs after
runs_of k [] after j h all n = absurd (omega arith)
runs_of k (b ∷ w) after j h all n =
    let long = run_of k w after (λ i h. all (suc i) (omega arith)) n in
    runs_joined k j b (w ++ after) (all 0 (omega arith))
    ∙ (λ i. (k, b ∷ take (long i) (w ++ after)) ∷ runs (drop (long i) (w ++ after)))
    ∙ (λ i. (k, b ∷ take_at w after (length w) refl i) ∷ runs (drop_at w after (length w) refl i))

-- a run that is a token is read as it
past_run : (p : Place) (d e : ℕ) (bs after run : List ℕ) (k : Class) (t : Symbol) → runs bs ≡ (k, run) ∷ runs after → (k ≡ Blank → ⊥) → depth_after p d k run ≡ Ok e → symbol_of k run ≡ Some t → reading p d (runs bs) ≡ (judged (along p (length run)) e (runs after), (p, t) ∷ tokens (along p (length run)) (runs after))
past_run p d e bs after run k t cut n deep is =
    ap (reading p d) cut
    ∙ (λ i. (judged_first p d (k, run) (runs after) i, tokens_at p (k, run) (runs after) n i))
    ∙ (λ i. (onward (deep i) (λ m. judged (along p (length run)) m (runs after)), onto p (is i) (tokens (along p (length run)) (runs after))))

between_class : (k : Class) (lo hi : ℕ) (w : List ℕ) → ((b : ℕ) → IsInRange lo hi b → class b ≡ k) → Between lo hi w → OfClass k w
between_class k lo hi w f all i h = f _ (all i h)

after_class : (k : Class) (lo hi : ℕ) (bs : List ℕ) → ((b : ℕ) → class b ≡ k → IsInRange lo hi b) → NotLed lo hi bs → NotClass k bs
after_class k lo hi bs f n h e = n h (f _ e)

no_blank : (k : Class) → (rank k ≡ 2 → ⊥) → k ≡ Blank → ⊥
no_blank k n e = n (ap rank e)

-- a token in front is read as it stands
pub past_token : (t : Symbol) (p : Place) (d e : ℕ) (after : List ℕ) → Fit t after → Turns t d e → reading p d (runs (spelling t ++ after)) ≡ (judged (along p (length (spelling t))) e (runs after), (p, t) ∷ tokens (along p (length (spelling t))) (runs after))
past_token opening p d e after fit turn =
    past_run p d e (40 ∷ after) after (40 ∷ []) Open opening (runs_alone 40 after refl) (no_blank Open (λ z. omega arith)) (ap Ok (sym turn)) refl
past_token closing p d e after fit turn =
    past_run p d e (41 ∷ after) after (41 ∷ []) Close closing (runs_alone 41 after refl) (no_blank Close (λ z. omega arith)) (ap (closed p) (turn ∙ add-one e)) refl
past_token (number n) p d e after fit turn =
    let all = decimal_digits n fit.0 in
    let some = decimal_nonempty n (omega (arith, fit.0)) in
    past_run p d e (decimal n ++ after) after (decimal n) Digit (number n)
    (runs_of Digit (decimal n) after refl some (between_class Digit 48 57 _ digit_class all) (after_class Digit 48 57 after (class_known Digit) fit.1))
    (no_blank Digit (λ z. omega arith)) (ap (sound p d) (number_decimal n fit.0) ∙ ap Ok (sym turn)) (ap numeral (number_decimal n fit.0))
past_token (word w) p d e after fit turn =
    past_run p d e (w ++ after) after w Letter (word w)
    (runs_of Letter w after refl fit.0 (between_class Letter 97 122 _ letter_class fit.1) (after_class Letter 97 122 after (class_known Letter) fit.2))
    (no_blank Letter (λ z. omega arith)) (ap Ok (sym turn)) refl

-- tokens that lead from p to q are read, and what is left is read from q on
pub leads_read : (ts : List Spot) (p : Place) (bs : List ℕ) (q : Place) (rest : List ℕ) (d e : ℕ) → Leads p bs ts q rest → Opens d ts e → (judged p d (runs bs) ≡ judged q e (runs rest)) × (tokens p (runs bs) ≡ ts ++ tokens q (runs rest))
leads_read [] p bs q rest d e lead deep =
    let all : reading p d (runs bs) ≡ reading q e (runs rest) =
    ap (λ b. reading p d (runs b)) lead.1 ∙ past_blanks lead.0 p d rest ∙ (λ i. reading (sym lead.2 i) (sym deep i) (runs rest)) in
    (ap (λ (r : Read). r.0) all, ap (λ (r : Read). r.1) all)
leads_read (t ∷ ts) p bs q rest d e lead deep =
    let k = lead.0 in
    let after = lead.1 in
    let next = leads_read ts (along t.0 (length (spelling t.1))) after q rest deep.0 e lead.5 deep.2 in
    let all : reading p d (runs bs) ≡ (judged (along t.0 (length (spelling t.1))) deep.0 (runs after), t ∷ tokens (along t.0 (length (spelling t.1))) (runs after)) =
    ap (λ b. reading p d (runs b)) lead.2 ∙ past_blanks k p d (spelling t.1 ++ after)
    ∙ ap (λ o. reading o d (runs (spelling t.1 ++ after))) (sym lead.3)
    ∙ past_token t.1 t.0 d deep.0 after lead.4 deep.1 in
    (ap (λ (r : Read). r.0) all ∙ next.0, ap (λ (r : Read). r.1) all ∙ ap (λ ts. t ∷ ts) next.1)
