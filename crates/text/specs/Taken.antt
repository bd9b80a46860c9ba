-- One run, or the blanks in front, taken from what is left of a line. Assumes nothing.
use Rattle.std.specs.Prelude.{◌≡◌, [], length, drop, Option, MatchOption}
use Rattle.text.specs.Faults.{along}
use Rattle.text.specs.Runs.{CutOff, run_length}
use Rattle.text.specs.declared.alphabet.Class.TheVariants.{Blank}
use Rattle.text.specs.declared.run.Line.{Line}
use Rattle.text.specs.declared.run.Run.{Run}

-- the first run begins at the line's place, and the line goes on behind it
pub record Taken (s : Line) (r : Run) (t : Line) : Type 0 where
  pub cut : CutOff s.rest.now r.class r.bytes.now t.rest.now
  pub begins : r.place ≡ s.place
  pub place : t.place ≡ along s.place (length r.bytes.now)

-- the first run is taken, where a byte is left
abbrev pub TakesRun : Line → Option Run → Line → Type 0
TakesRun s r t = MatchOption r ((s.rest.now ≡ []) × (t ≡ s)) (λ run. Taken s run t)

-- the blanks in front are taken, and the line goes on behind them
pub record PastBlanks (s t : Line) : Type 0 where
  pub rest : t.rest.now ≡ drop (run_length Blank s.rest.now) s.rest.now
  pub place : t.place ≡ along s.place (run_length Blank s.rest.now)
