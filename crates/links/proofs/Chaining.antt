-- Leading, sourced and distinct steps put one after another.
use Rattle.std.proofs.Common.{◌≡◌, ℕ, List, [], ◌∷◌, ◌++◌, map, sym, refl, ap, subst, inr}
use Rattle.std.proofs.lemmas.List.{map-append}
use Rattle.links.specs.Ranges.{Range}
use Rattle.links.specs.declared.step.Sign.{Sign}
use Rattle.links.specs.declared.step.Sign.TheVariants.{Plus, Minus}
use Rattle.links.specs.declared.step.Origin.{Origin}
use Rattle.links.specs.declared.step.Origin.TheVariants.{Released, New}
use Rattle.links.specs.declared.step.Step.{Step}
use Rattle.links.specs.Linked.{Listed}
use Rattle.links.specs.Chains.{range_of, start, start_by, end, Leads, Absent, Distinct, Source, Sourced}
use Rattle.links.specs.Forest.{turned, back}

-- each boundary of the list is so
abbrev pub Each : (ℕ → Type 0) → List ℕ → Type 0
Each P [] = Unit {0}
Each P (i ∷ is) = P i × Each P is

pub each_map : (P Q : ℕ → Type 0) → ((i : ℕ) → P i → Q i) → (is : List ℕ) → Each P is → Each Q is
each_map P Q f [] h = tt
each_map P Q f (i ∷ is) h = (f i h.0, each_map P Q f is h.1)

pub each_append : (P : ℕ → Type 0) (is js : List ℕ) → Each P is → Each P js → Each P (is ++ js)
each_append P [] js h k = k
each_append P (i ∷ is) js h k = (h.0, each_append P is js h.1 k)

pub absent_append : (i : ℕ) (is js : List ℕ) → Absent i is → Absent i js → Absent i (is ++ js)
absent_append i [] js h k = k
absent_append i (j ∷ is) js h k = (h.0, absent_append i is js h.1 k)

-- two lists that a property tells apart share no boundary
pub absent_apart : (P Q : ℕ → Type 0) → ((i : ℕ) → P i → Q i → ⊥) → (i : ℕ) (js : List ℕ) → P i → Each Q js → Absent i js
absent_apart P Q no_both i [] p h = tt
absent_apart P Q no_both i (j ∷ js) p h =
    ((λ e. no_both j (subst P e p) h.0), absent_apart P Q no_both i js p h.1)

pub distinct_append : (P Q : ℕ → Type 0) → ((i : ℕ) → P i → Q i → ⊥) → (is js : List ℕ) → Each P is → Each Q js
    → Distinct is → Distinct js → Distinct (is ++ js)
distinct_append P Q no_both [] js h k d e = e
distinct_append P Q no_both (i ∷ is) js h k d e = (
  absent_append i is js d.0 (absent_apart P Q no_both i js h.0 k),
  distinct_append P Q no_both is js h.1 k d.1 e,
)

pub leads_append : (ss ts : List Step) (i j k : ℕ) → Leads ss i j → Leads ts j k → Leads (ss ++ ts) i k
leads_append [] ts i j k h l = subst (λ x. Leads ts x k) (sym h) l
leads_append (s ∷ ss) ts i j k h l = (h.0, leads_append ss ts (end s) j k h.1 l)

pub sourced_append : (js : List Range) (q : Range) (ss ts : List Step) → Sourced js q ss → Sourced js q ts → Sourced js q (ss ++ ts)
sourced_append js q [] ts h k = k
sourced_append js q (s ∷ ss) ts h k = (h.0, sourced_append js q ss ts h.1 k)

pub source_more : (js : List Range) (q r : Range) (o : Origin) (x : Range) → Source js q o x → Source (r ∷ js) q o x
source_more js q r Released x h = inr h
source_more js q r New x h = h

pub sourced_more : (js : List Range) (q r : Range) (ss : List Step) → Sourced js q ss → Sourced (r ∷ js) q ss
sourced_more js q r [] h = tt
sourced_more js q r (s ∷ ss) h = (source_more js q r s.origin (range_of s) h.0, sourced_more js q r ss h.1)

pub source_released : (js : List Range) (q : Range) (o : Origin) (x : Range) → o ≡ Released → Listed x js → Source js q o x
source_released js q o x e h = subst (λ o. Source js q o x) (sym e) h

-- the boundaries of steps with a step between them
pub map_around : (x : ℕ) (ss : List Step) (s : Step) (ts : List Step)
    → ◌≡◌ {A = List ℕ} (x ∷ map end (ss ++ (s ∷ ts))) ((x ∷ map end ss) ++ (end s ∷ map end ts))
map_around x ss s ts = ap (λ l. x ∷ l) (map-append end ss (s ∷ ts))

pub turned_start : (g : Sign) (low high : ℕ) → start_by (turned g) low high ≡ start_by g high low
turned_start Plus low high = refl
turned_start Minus low high = refl

-- a step the other way starts where the step ends, and ends where it starts
pub back_start : (s : Step) → start (back s) ≡ end s
back_start s = turned_start s.sign s.low s.high

pub back_end : (s : Step) → end (back s) ≡ start s
back_end s = turned_start s.sign s.high s.low
