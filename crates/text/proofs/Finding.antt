-- How the first token is found among the runs of a line. Assumes nothing.
use Rattle.std.proofs.Common.{◌≡◌, ℕ, ◌+◌, ◌-◌, ◌≤◌, true, false, List, [], length, Some, None, Option, is_some, refl, ap, ◌∙◌, sym, subst, arith}
use Rattle.std.proofs.lemmas.Bool.{both_ways}
use Rattle.std.proofs.lemmas.List.{length-drop}
use Rattle.text.specs.Found.{tokens_left, Next, FindsToken}
use Rattle.text.specs.Runs.{run_length, runs, CutOff}
use Rattle.text.specs.Taken.{Taken, PastBlanks}
use Rattle.text.specs.Tokens.{spot, symbol_of, onto, tokens}
use Rattle.text.specs.declared.alphabet.Class.TheVariants.{Blank}
use Rattle.text.specs.declared.run.Line.{Line}
use Rattle.text.specs.declared.run.Run.{Run}
use Rattle.text.specs.declared.token.Placed.{Placed}
use Rattle.text.proofs.Cutting.{run_within}
use Rattle.text.proofs.Judged.{cut_length}
use Rattle.text.proofs.Tokening.{tokens_skip, not_blank, tokens_cut}

-- the blanks in front are no tokens
pub blanks_passed : (s t : Line) → PastBlanks s t → tokens_left s ≡ tokens_left t
blanks_passed s t past = tokens_skip s.place s.rest.now ∙ (λ i. tokens (sym past.place i) (runs (sym past.rest i)))

-- the columns go on by the bytes that are taken, and a token begins no further than it ends
pub columns_within : (s t u : Line) (x : Run) → PastBlanks s t → Taken t x u → (length u.rest.now + u.place.column ≤ length s.rest.now + s.place.column) × (x.place.column ≤ u.place.column)
columns_within s t u x past taken =
    let w = run_within Blank s.rest.now in
    let skipped : length t.rest.now ≡ length s.rest.now - run_length Blank s.rest.now =
    ap length past.rest ∙ length-drop (run_length Blank s.rest.now) s.rest.now in
    let moved : t.place.column ≡ s.place.column + run_length Blank s.rest.now = ap (λ p. p.column) past.place in
    let long = cut_length t.place 0 t.rest.now x.class x.bytes.now u.rest.now taken.cut in
    let begun : x.place.column ≡ t.place.column = ap (λ p. p.column) taken.begins in
    let on : u.place.column ≡ t.place.column + length x.bytes.now = ap (λ p. p.column) taken.place in (omega arith, omega arith)

-- the tokens at the run after the blanks
pub token_taken : (s t u : Line) (x : Run) → PastBlanks s t → Taken t x u → tokens_left s ≡ onto x.place (symbol_of x.class x.bytes.now) (tokens_left u)
token_taken s t u x past taken =
    let cut = subst (λ bs. CutOff bs x.class x.bytes.now u.rest.now) past.rest taken.cut in
    blanks_passed s t past ∙ tokens_cut t.place t.rest.now x.class x.bytes.now u.rest.now taken.cut (not_blank s.rest.now x.class x.bytes.now u.rest.now cut)
    ∙ (λ i. onto (sym taken.begins i) (symbol_of x.class x.bytes.now) (tokens (sym taken.place i) (runs u.rest.now)))

pub found_next : (s : Line) (r : Option (Placed × Line)) → is_some r ≡ true → FindsToken s r → (f : Placed × Line) × Next s (spot f.0) f.1
found_next s None e found = absurd (both_ways false refl e)
found_next s (Some f) e found = (f, found)

pub none_left : (s : Line) (r : Option (Placed × Line)) → is_some r ≡ false → FindsToken s r → tokens_left s ≡ []
none_left s None e found = found
none_left s (Some f) e found = absurd (both_ways true e refl)
