-- How the judgement of a line goes on from run to run. Assumes nothing.
use Rattle.std.proofs.Common.{◌≡◌, ℕ, zero, suc, ◌+◌, ◌<◌, ◌≤◌, List, [], ◌∷◌, length, Some, None, Ok, Err, Option, Result, sym, refl, ap, ◌∙◌, arith, length-append}
use Rattle.text.specs.Faults.{along}
use Rattle.text.specs.Judging.{sound, depth_after, ended, judged}
use Rattle.text.specs.Numbers.{number_of}
use Rattle.text.specs.Runs.{Run, runs, CutOff}
use Rattle.text.specs.declared.alphabet.Class.{Class}
use Rattle.text.specs.declared.alphabet.Class.TheVariants.{Open, Close, Blank, Digit, Letter, Outside}
use Rattle.text.specs.declared.fault.Fault.{Fault}
use Rattle.text.specs.declared.fault.Fault.TheVariants.{Bracket}
use Rattle.text.specs.declared.fault.Place.{Place}
use Rattle.text.proofs.Cutting.{runs_none}

-- go on where a run is sound, else stop with its fault
abbrev pub onward : Result ℕ Fault → (ℕ → Result (Unit {0}) Fault) → Result (Unit {0}) Fault
onward r next = elim r [ Ok d ↦ next d | Err f ↦ Err f ]

pub judged_first : (p : Place) (d : ℕ) (r : Run) (rs : List Run) → judged p d (r ∷ rs) ≡ onward (depth_after p d r.0 r.1) (λ e. judged (along p (length r.1)) e rs)
unfolding judged
judged_first p d r rs = refl

pub judged_last : (p : Place) (d : ℕ) → judged p d [] ≡ ended p d
unfolding judged
judged_last p d = refl

pub judged_end : (p : Place) (d : ℕ) (bs : List ℕ) → bs ≡ [] → judged p d (runs bs) ≡ ended p d
judged_end p d bs e = ap (λ b. judged p d (runs b)) e ∙ ap (judged p d) runs_none ∙ judged_last p d

-- a line that ends with a bracket open
pub left_open : (p : Place) (d : ℕ) → 0 < d → ended p d ≡ Err (Bracket p)
left_open p zero h = absurd (omega arith)
left_open p (suc d) h = refl

module _ (p : Place) (d : ℕ) (bs : List ℕ) (k : Class) (run rest : List ℕ) (cut : CutOff bs k run rest) where
  judged_cut : judged p d (runs bs) ≡ onward (depth_after p d k run) (λ e. judged (along p (length run)) e (runs rest))
  judged_cut = ap (judged p d) cut.first ∙ judged_first p d (k, run) (runs rest)

  pub judged_on : (e : ℕ) → depth_after p d k run ≡ Ok e → judged p d (runs bs) ≡ judged (along p (length run)) e (runs rest)
  judged_on e is = judged_cut ∙ ap (λ r. onward r (λ e. judged (along p (length run)) e (runs rest))) is

  pub judged_stops : (f : Fault) → depth_after p d k run ≡ Err f → judged p d (runs bs) ≡ Err f
  judged_stops f is = judged_cut ∙ ap (λ r. onward r (λ e. judged (along p (length run)) e (runs rest))) is

  pub cut_length : length run + length rest ≡ length bs
  cut_length = sym (length-append run rest) ∙ ap length cut.whole

digits_rise : (p : Place) (d e : ℕ) (o : Option ℕ) → sound p d o ≡ Ok e → e ≤ d + 1
digits_rise p d e (Some n) is = grind arith
digits_rise p d e None is = grind arith

-- a run opens one bracket at most
pub depth_rises : (p : Place) (d : ℕ) (k : Class) (run : List ℕ) (e : ℕ) → depth_after p d k run ≡ Ok e → e ≤ d + 1
depth_rises p d Open run e is = grind arith
depth_rises p zero Close run e is = grind arith
depth_rises p (suc d) Close run e is = grind arith
depth_rises p d Blank run e is = grind arith
depth_rises p d Digit run e is = digits_rise p d e (number_of run) is
depth_rises p d Letter run e is = grind arith
depth_rises p d Outside run e is = grind arith
