-- How many bytes the lines take at most.
use Rattle.std.proofs.Common.{◌≡◌, ℕ, zero, suc, ◌+◌, ◌*◌, ◌/◌, ◌%◌, ◌^◌, ◌<◌, ◌≤◌, false, eqb, List, [], ◌∷◌, ◌++◌, length, codes, refl, arith, length-append}
use Rattle.std.specs.List.{flat_map}
use Rattle.std.specs.Fmt.{digit_glyph, digits_onto, digits}
use Rattle.std.proofs.lemmas.Fmt.{length-decimal-le}
use Rattle.std.proofs.lemmas.Bool.{cond_both}
use Rattle.kinds.specs.Codec.{Codec, Within}
use Rattle.links.specs.Ranges.{Range}
use Rattle.links.specs.declared.step.Sign.{Sign}
use Rattle.links.specs.declared.step.Origin.{Origin}
use Rattle.links.specs.declared.step.Step.{Step}
use Rattle.links.specs.Rings.{new_with, new_steps}
use Rattle.ledger.specs.declared.answer.Counts.{Counts}
use Rattle.ledger.specs.declared.answer.Trial.{Trial}
use Rattle.ledger.specs.Answers.{number}
use Rattle.kinds.specs.declared.names.KindName.{KindName}
use Rattle.kinds.specs.Names.{kind_word}
use Rattle.lines.specs.declared.words.Layer.{Layer}
use Rattle.lines.specs.Text.{number_text, form_text}
use Rattle.lines.specs.Words.{layer_word, sign_word, origin_word}
use Rattle.lines.specs.Lines.{numbers, step_text, pair_text, sum_line, withheld_line, trial_text, Tried, tried_text, in_order, tally_line, closed_line, fault_line}
use Rattle.lines.specs.Fits.{EndsWithin, Modest, RehearsalsFit}

-- any number has at most 64 digits as it is written
spelled_long : (k n : ℕ) (acc : List ℕ) → length (digits_onto k 10 false n acc) ≤ k + length acc
spelled_long zero n acc = omega arith
spelled_long (suc k) n acc =
    let front = digit_glyph false (n % 10) ∷ acc in
    let more = spelled_long k (n / 10) front in
    cond_both (eqb (n / 10) 0) front (digits_onto k 10 false (n / 10) front) (λ x. length x ≤ suc k + length acc) (λ _. omega arith) (λ _. omega arith)

any_number : (n : ℕ) → length (number_text n) ≤ 65
unfolding digits
any_number n = let h = spelled_long 64 n [] in omega arith

-- texts of at most m bytes, one after the other
each_long : {X : Type 0} (f : X → List ℕ) (m : ℕ) → ((x : X) → length (f x) ≤ m) → (xs : List X) → length (flat_map f xs) ≤ m * length xs
each_long f m most [] = omega arith
each_long f m most (x ∷ xs) =
    let one = most x in
    let rest = each_long f m most xs in
    omega (arith, length-append (f x) (flat_map f xs))

-- so numbers take at most 65 bytes each
any_numbers : (ns : List ℕ) → length (numbers ns) ≤ 65 * length ns
any_numbers = each_long number_text 65 any_number

form_long : (opening ns closing : List ℕ) → length (form_text opening ns closing) ≤ length opening + 65 * length ns + length closing
form_long opening ns closing =
    let h = any_numbers ns in
    omega (arith, length-append (opening ++ numbers ns) closing, length-append opening (numbers ns))

pub tally_long : (c : Counts) → length (tally_line c) ≤ 16384
tally_long c = let h = form_long (codes "(tally") (in_order c) (codes ")\n") in omega arith

pub closed_long : (c : Counts) → length (closed_line c) ≤ 16384
closed_long c = let h = form_long (codes "(closed") (in_order c) (codes ")\n") in omega arith

pub lost_long : (a b k : ℕ) → length (form_text (codes "(lost") (a ∷ b ∷ k ∷ []) (codes ")\n")) ≤ 16384
lost_long a b k = let h = form_long (codes "(lost") (a ∷ b ∷ k ∷ []) (codes ")\n") in omega arith

pub refused_long : (a b k : ℕ) → length (form_text (codes "(refused") (a ∷ b ∷ k ∷ []) (codes ")\n")) ≤ 16384
refused_long a b k = let h = form_long (codes "(refused") (a ∷ b ∷ k ∷ []) (codes ")\n") in omega arith

layer_long : (l : Layer) → length (layer_word l) ≡ 4
layer_long Layer.Text = refl
layer_long Layer.Form = refl

pub fault_long : (line column : ℕ) (layer : Layer) (n : ℕ) → length (fault_line line column layer n) ≤ 16384
fault_long line column layer n =
    let place = form_text (codes "(fault") (line ∷ column ∷ []) (codes " ") in
    let h = form_long (codes "(fault") (line ∷ column ∷ []) (codes " ") in
    let one = any_numbers (n ∷ []) in
    let word = layer_long layer in
    omega (arith, length-append (place ++ layer_word layer ++ numbers (n ∷ [])) (codes ")\n"), length-append (place ++ layer_word layer) (numbers (n ∷ [])), length-append place (layer_word layer))

pair_long : (opening : List ℕ) (low high : ℕ) (p : Range) (closing : List ℕ) → length (pair_text opening low high p closing) ≤ length opening + 267 + length closing
pair_long opening low high p closing =
    let front = form_text opening (low ∷ high ∷ []) (codes " (range") in
    let h = form_long opening (low ∷ high ∷ []) (codes " (range") in
    let ends = any_numbers (p.low ∷ p.high ∷ []) in
    omega (arith, length-append (front ++ numbers (p.low ∷ p.high ∷ [])) closing, length-append front (numbers (p.low ∷ p.high ∷ [])))

-- a try takes at most 279 bytes, whatever its numbers
pub trial_long : (low high : ℕ) (t : Trial) → length (trial_text low high t) ≤ 279
trial_long low high Trial.Free = let h = form_long (codes " (free") (low ∷ high ∷ []) (codes ")") in omega arith
trial_long low high (Trial.Withheld p) = let h = pair_long (codes " (withheld") low high p (codes "))") in omega arith
trial_long low high (Trial.Refused f) = let h = form_long (codes " (refused") (low ∷ high ∷ number f ∷ []) (codes ")") in omega arith

tries_long : (ts : List Tried) → length (flat_map tried_text ts) ≤ 279 * length ts
tries_long = each_long tried_text 279 (λ t. trial_long t.low t.high t.trial)

pub rehearsals_fit : RehearsalsFit
rehearsals_fit ts few =
    let all = tries_long ts in
    omega (arith, length-append (codes "(rehearsed" ++ flat_map tried_text ts) (codes ")\n"), length-append (codes "(rehearsed") (flat_map tried_text ts))

-- an end of a boundary has at most four digits
end_long : (n : ℕ) → n ≤ 1023 → length (number_text n) ≤ 5
end_long n h = let d = length-decimal-le 4 n (omega arith) (omega arith) (omega arith) in omega arith

sign_long : (s : Sign) → length (sign_word s) ≡ 1
sign_long Sign.Plus = refl
sign_long Sign.Minus = refl

origin_long : (o : Origin) (n : ℕ) → length (origin_word o) + 4 * n ≡ 4 * new_with o n
origin_long Origin.Released n = omega arith
origin_long Origin.New n = omega arith

-- a step takes at most 14 bytes, and 4 more where it goes over the query itself
step_long : (s : Step) → s.low ≤ 1023 → s.high ≤ 1023 → length (step_text s) ≤ 14 + length (origin_word s.origin)
step_long s a b =
    let low = end_long s.low a in
    let high = end_long s.high b in
    let sign = sign_long s.sign in
    let front = codes " (" ++ sign_word s.sign in
    let ends = numbers (s.low ∷ s.high ∷ []) in
    omega (arith, length-append (front ++ ends ++ origin_word s.origin) (codes ")"), length-append (front ++ ends) (origin_word s.origin), length-append front ends, length-append (codes " (") (sign_word s.sign), length-append (number_text s.low) (numbers (s.high ∷ [])), length-append (number_text s.high) [])

chain_long : (ss : List Step) → EndsWithin 1023 ss → length (flat_map step_text ss) ≤ 14 * length ss + 4 * new_steps ss
chain_long [] ends = omega arith
chain_long (s ∷ ss) ends =
    let one = step_long s ends.0.0 ends.0.1 in
    let rest = chain_long ss ends.1 in
    let new = origin_long s.origin (new_steps ss) in
    omega (arith, length-append (step_text s) (flat_map step_text ss))

pub withheld_long : (low high : ℕ) (p : Range) (ss : List Step) → Modest ss → length (withheld_line low high p ss) ≤ 16384
withheld_long low high p ss m =
    let front = pair_text (codes "(withheld") low high p (codes ") (chain") in
    let h = pair_long (codes "(withheld") low high p (codes ") (chain") in
    let chain = chain_long ss m.ends in
    let few = m.few in
    let once = m.once in
    omega (arith, length-append (front ++ flat_map step_text ss) (codes "))\n"), length-append front (flat_map step_text ss))

-- numbers below 2^32 take at most 11 bytes each
row_long : (ns : List ℕ) → Within (2 ^ 32) ns → length (numbers ns) ≤ 11 * length ns
row_long [] within = omega arith
row_long (n ∷ ns) within =
    let small : n < 2 ^ 32 = within 0 (omega arith) in
    let one = length-decimal-le 10 n (omega arith) (omega arith) (omega arith) in
    let rest = row_long ns (λ k h. within (suc k) (omega arith)) in
    omega (arith, length-append (number_text n) (numbers ns))

kind_long : (k : KindName) → length (kind_word k) ≤ 7
kind_long KindName.Wh = omega arith
kind_long KindName.Toggles = omega arith
kind_long KindName.Dials = omega arith

pub sum_long : {V : Type 0} (kind : KindName) (codec : Codec (2 ^ 32) V) (low high : ℕ) (v : V) → codec.size ≤ 255 → length (sum_line kind codec low high v) ≤ 16384
sum_long kind codec low high v few =
    let front = form_text (codes "(sum") (low ∷ high ∷ []) (codes " (") in
    let h = form_long (codes "(sum") (low ∷ high ∷ []) (codes " (") in
    let word = kind_long kind in
    let row = row_long (codec.write v) (codec.fits v) in
    let size = codec.sized v in
    omega (arith, length-append (front ++ kind_word kind ++ numbers (codec.write v)) (codes "))\n"), length-append (front ++ kind_word kind) (numbers (codec.write v)), length-append front (kind_word kind))
