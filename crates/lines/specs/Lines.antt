-- The printed lines: a definition over what is answered. Each ends with byte 10. Assumes nothing.
use Rattle.std.specs.Prelude.{ℕ, ◌^◌, List, [], ◌∷◌, ◌++◌, take, codes}
use Rattle.std.specs.List.{flat_map}
use Rattle.kinds.specs.Codec.{Codec}
use Rattle.links.specs.Ranges.{Range}
use Rattle.links.specs.declared.step.Step.{Step}
use Rattle.ledger.specs.declared.answer.Answer.{Answer}
use Rattle.ledger.specs.declared.answer.Counts.{Counts}
use Rattle.ledger.specs.declared.answer.Trial.{Trial}
use Rattle.ledger.specs.Answers.{number}
use Rattle.kinds.specs.declared.names.KindName.{KindName}
use Rattle.kinds.specs.Names.{kind_word}
use Rattle.lines.specs.declared.words.Layer.{Layer}
use Rattle.lines.specs.Text.{number_text}
use Rattle.lines.specs.Words.{layer_word, sign_word, origin_word}

-- numbers in base ten, a blank before each
abbrev pub numbers : List ℕ → List ℕ
numbers ns = flat_map number_text ns

-- a step of a chain, after a blank
abbrev pub step_text : Step → List ℕ
step_text s = codes " (" ++ sign_word s.sign ++ numbers (s.low ∷ s.high ∷ []) ++ origin_word s.origin ++ codes ")"

-- a range that would give a pair away, with that pair
abbrev pub pair_text : (opening : List ℕ) (low high : ℕ) → Range → (closing : List ℕ) → List ℕ
pair_text opening low high p closing = opening ++ numbers (low ∷ high ∷ []) ++ codes " (range" ++ numbers (p.low ∷ p.high ∷ []) ++ closing

-- a sum of a range, as the kind's word and numbers
abbrev pub sum_text : KindName → (low high : ℕ) → List ℕ → List ℕ
sum_text kind low high row = codes "(sum" ++ numbers (low ∷ high ∷ []) ++ codes " (" ++ kind_word kind ++ numbers row ++ codes "))\n"

-- the line of a released sum, with the numbers that the kind writes of the value
abbrev pub sum_line : {V : Type 0} → KindName → Codec (2 ^ 32) V → (low high : ℕ) → V → List ℕ
sum_line kind codec low high v = sum_text kind low high (codec.write v)

-- the line of a withheld query: the pair that it would give away, and the chain
abbrev pub withheld_line : (low high : ℕ) → Range → List Step → List ℕ
withheld_line low high p steps = pair_text (codes "(withheld") low high p (codes ") (chain") ++ flat_map step_text steps ++ codes "))\n"

-- the line of a query's answer; the chain of a withheld one is the first steps of its table
abbrev pub answer_line : {V : Type 0} → KindName → Codec (2 ^ 32) V → (low high : ℕ) → Answer V → List Step → List ℕ
answer_line kind codec low high (Answer.Released v) table = sum_line kind codec low high v
answer_line kind codec low high (Answer.Withheld p m) table = withheld_line low high p (take m table)
answer_line kind codec low high (Answer.LostSlot k) table = codes "(lost" ++ numbers (low ∷ high ∷ k ∷ []) ++ codes ")\n"
answer_line kind codec low high (Answer.Refused f) table = codes "(refused" ++ numbers (low ∷ high ∷ number f ∷ []) ++ codes ")\n"

-- a try of a rehearsal and its answer, after a blank
abbrev pub trial_text : (low high : ℕ) → Trial → List ℕ
trial_text low high Trial.Free = codes " (free" ++ numbers (low ∷ high ∷ []) ++ codes ")"
trial_text low high (Trial.Withheld p) = pair_text (codes " (withheld") low high p (codes "))")
trial_text low high (Trial.Refused f) = codes " (refused" ++ numbers (low ∷ high ∷ number f ∷ []) ++ codes ")"

-- a try: its range and what was answered
pub record Tried : Type 0 where
  pub low : ℕ
  pub high : ℕ
  pub trial : Trial

abbrev pub tried_text : Tried → List ℕ
tried_text t = trial_text t.low t.high t.trial

-- the line of a rehearsal: its tries, one after the other
abbrev pub rehearsed_line : List Tried → List ℕ
rehearsed_line ts = codes "(rehearsed" ++ flat_map tried_text ts ++ codes ")\n"

-- the four counts in their order
abbrev pub in_order : Counts → List ℕ
in_order c = c.released ∷ c.withheld ∷ c.lost ∷ c.malformed ∷ []

-- the counts so far
abbrev pub tally_line : Counts → List ℕ
tally_line c = codes "(tally" ++ numbers (in_order c) ++ codes ")\n"

-- the counts at the close
abbrev pub closed_line : Counts → List ℕ
closed_line c = codes "(closed" ++ numbers (in_order c) ++ codes ")\n"

-- a fault of a script, by its place, the layer that found it, and its number
abbrev pub fault_line : (line column : ℕ) → Layer → ℕ → List ℕ
fault_line line column layer n = codes "(fault" ++ numbers (line ∷ column ∷ []) ++ codes " " ++ layer_word layer ++ numbers (n ∷ []) ++ codes ")\n"
