-- How a reader goes from line to line. Assumes nothing.
use Rattle.std.proofs.Common.{◌≡◌, ℕ, ◌+◌, Bool, true, false, ◌⊎◌, List, [], ◌∷◌, is_ok, Ok, Err, Result, sym, refl, ap, ◌∙◌, ⊎_elim, arith}
use Rattle.std.proofs.lemmas.Bool.{both_ways}
use Rattle.text.specs.Judging.{judged}
use Rattle.text.specs.Runs.{runs}
use Rattle.text.specs.Script.{State, begun, stopped, advanced, Begun}
use Rattle.text.specs.Tokens.{Spot, tokens, line_start, meaning}
use Rattle.text.specs.declared.fault.Fault.{Fault}
use Rattle.text.proofs.Tokening.{tokens_none}

-- the tokens are kept where the judgement found no fault
abbrev pub kept : (n : ℕ) (l : List ℕ) → Result (Unit {0}) Fault → Result (List Spot) Fault
kept n l j = elim j [ Ok _ ↦ Ok (tokens (line_start n) (runs l)) | Err f ↦ Err f ]

begun_by : (n : ℕ) (l line : List ℕ) (ls : List (List ℕ)) (j : Result (Unit {0}) Fault) → ((is_ok j ≡ true) × (line ≡ l)) ⊎ ((is_ok j ≡ false) × (line ≡ [])) → ◌≡◌ {A = Result (Unit {0}) Fault × State} (j, record { number = n; left = tokens (line_start n) (runs line); following = ls }) (begun n (kept n l j) ls)
begun_by n l line ls (Ok u) way =
    ⊎_elim
    (λ h i. (Ok u, record { number = n; left = tokens (line_start n) (runs (h.1 i)); following = ls }))
    (λ h. absurd (both_ways true h.0 refl))
    way
begun_by n l line ls (Err f) way =
    ⊎_elim
    (λ h. absurd (both_ways false refl h.0))
    (λ h i. (Err f, record { number = n; left = tokens_none (line_start n) line h.1 i; following = ls }))
    way

pub begun_line : (n : ℕ) (l line : List ℕ) (ls : List (List ℕ)) (j : Result (Unit {0}) Fault) → j ≡ judged (line_start n) 0 (runs l) → ((is_ok j ≡ true) × (line ≡ l)) ⊎ ((is_ok j ≡ false) × (line ≡ [])) → ◌≡◌ {A = Result (Unit {0}) Fault × State} (j, record { number = n; left = tokens (line_start n) (runs line); following = ls }) (begun n (meaning n l) ls)
begun_line n l line ls j e way = begun_by n l line ls j way ∙ ap (λ r. begun n (kept n l r) ls) e

advanced_none : (n : ℕ) → advanced n [] ≡ (Ok false, record { number = n; left = []; following = [] })
unfolding advanced
advanced_none n = refl

advanced_line : (n : ℕ) (l : List ℕ) (ls : List (List ℕ)) → advanced n (l ∷ ls) ≡ stopped (n + 1) (meaning (n + 1) l) ls (advanced (n + 1) ls)
unfolding advanced
advanced_line n l ls = refl

pub at_end : (s : State) → s.following ≡ [] → s.left ≡ [] → advanced s.number s.following ≡ (Ok false, s)
at_end s e f =
    ap (advanced s.number) e ∙ advanced_none s.number
    ∙ (λ i. (Ok false, record { number = s.number; left = sym f i; following = sym e i }))

abbrev Both : Type 0
Both = Result (Unit {0}) Fault × State

stop_fault : (m : Result (List Spot) Fault) (ls : List (List ℕ)) (n : ℕ) (on : Result Bool Fault × State) (r : Result (Unit {0}) Fault) (t : State) → ◌≡◌ {A = Both} (r, t) (begun n m ls) → (f : Fault) → r ≡ Err f → stopped n m ls on ≡ (Err f, t)
stop_fault (Err g) ls n on r t e f is =
    let first : r ≡ Err g = ap (λ (x : Both). x.0) e in
    let same : g ≡ f = cc in
    λ i. (Err (same i), sym (ap (λ (x : Both). x.1) e) i)
stop_fault (Ok ts) ls n on r t e f is = grind arith

stop_tokens : (m : Result (List Spot) Fault) (ls : List (List ℕ)) (n : ℕ) (on : Result Bool Fault × State) (r : Result (Unit {0}) Fault) (t : State) → ◌≡◌ {A = Both} (r, t) (begun n m ls) → r ≡ Ok tt → (x : Spot) (xs : List Spot) → t.left ≡ x ∷ xs → stopped n m ls on ≡ (Ok true, t)
stop_tokens (Err g) ls n on r t e is x xs some = grind arith
stop_tokens (Ok []) ls n on r t e is x xs some = grind arith
stop_tokens (Ok (y ∷ ys)) ls n on r t e is x xs some = λ i. (Ok true, sym (ap (λ (x : Both). x.1) e) i)

stop_none : (m : Result (List Spot) Fault) (ls : List (List ℕ)) (n : ℕ) (on : Result Bool Fault × State) (r : Result (Unit {0}) Fault) (t : State) → ◌≡◌ {A = Both} (r, t) (begun n m ls) → r ≡ Ok tt → t.left ≡ [] → (stopped n m ls on ≡ on) × (t.number ≡ n) × (t.following ≡ ls)
stop_none (Err g) ls n on r t e is none = grind arith
stop_none (Ok []) ls n on r t e is none = grind arith
stop_none (Ok (y ∷ ys)) ls n on r t e is none = grind arith

-- the three ways on from a line that was taken up
module _ (s t : State) (r : Result (Unit {0}) Fault) (b : Begun s r t) where
  taken_up : advanced s.number s.following ≡ stopped (s.number + 1) (meaning (s.number + 1) b.line) b.rest (advanced (s.number + 1) b.rest)
  taken_up = ap (advanced s.number) b.is ∙ advanced_line s.number b.line b.rest

  pub at_fault : (f : Fault) → r ≡ Err f → advanced s.number s.following ≡ (Err f, t)
  at_fault f is = taken_up ∙ stop_fault _ b.rest (s.number + 1) _ r t b.value f is

  pub at_tokens : r ≡ Ok tt → (x : Spot) (xs : List Spot) → t.left ≡ x ∷ xs → advanced s.number s.following ≡ (Ok true, t)
  at_tokens is x xs some = taken_up ∙ stop_tokens _ b.rest (s.number + 1) _ r t b.value is x xs some

  pub at_none : r ≡ Ok tt → t.left ≡ [] → advanced t.number t.following ≡ advanced s.number s.following
  at_none is none =
      let on = stop_none (meaning (s.number + 1) b.line) b.rest (s.number + 1) (advanced (s.number + 1) b.rest) r t b.value is none in
      (λ i. advanced (on.1 i) (on.2 i)) ∙ sym (taken_up ∙ on.0)
