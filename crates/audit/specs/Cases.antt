-- Worked cases of the step machine, of kinds and of packed bytes. Assumes nothing.
use Rattle.std.specs.Prelude.{◌≡◌, ℕ, ◌^◌, Bool, true, false, List, [], ◌∷◌, map, replicate, ◌==◌, slice_index}
use Rattle.std.proofs.Common.{lit<}
use Rattle.links.specs.Ranges.{Range}
use Rattle.links.specs.declared.step.Sign.{Sign}
use Rattle.links.specs.declared.step.Sign.TheVariants.{Plus, Minus}
use Rattle.links.specs.declared.step.Origin.{Origin}
use Rattle.links.specs.declared.step.Origin.TheVariants.{Released, New}
use Rattle.links.specs.declared.step.Step.{Step}
use Rattle.ledger.specs.declared.answer.Fault.{Fault}
use Rattle.ledger.specs.declared.answer.Answer.{Answer}
use Rattle.ledger.specs.declared.answer.Trial.{Trial}
use Rattle.ledger.specs.declared.answer.Counts.{Counts}
use Rattle.kinds.specs.Group.{Group}
use Rattle.kinds.specs.Kinds.{wh_group, wh_meaning, wh_held, wh_bytes, toggles_group, dials_group, dials_meaning, dials_held}
use Rattle.kinds.specs.Residues.{Residue, residue}
use Rattle.rules.specs.Ordered.{short_ordered, spans_ordered, either_ordered}
use Rattle.rules.specs.Pairs.{short as short-pairs, spans, either}
use Rattle.stores.specs.Log.{Log}
use Rattle.stores.specs.Stores.{packed_log}
use Rattle.stores.specs.Sums.{range_sum}
use Rattle.stores.specs.declared.store.Mark.{Mark}
use Rattle.ledger.specs.Rules.{Rule}
use Rattle.ledger.specs.Machine.{Ledger, opened, Try, written}
use Rattle.ledger.specs.State.{rule_of}
use Rattle.audit.specs.Course.{valued_reply}
use Rattle.audit.specs.Runs.{Call, Reply, Runs}

-- yes to ranges shorter than k
abbrev pub short : ℕ → Rule
short k = rule_of (short-pairs k) (short_ordered k)

-- yes to ranges shorter than k, and to the span (i, j)
abbrev pub short_or : ℕ → ℕ → ℕ → Rule
short_or k i j = rule_of (either (short-pairs k) (spans (record { low = i; high = j } ∷ []))) (either_ordered (short-pairs k) (spans (record { low = i; high = j } ∷ [])) (short_ordered k) (spans_ordered (record { low = i; high = j } ∷ [])))

-- lost where the test says so
abbrev lost_at : Bool → Mark
lost_at true = Mark.Lost
lost_at false = Mark.Kept

-- n slots, all kept
abbrev pub kept : {V : Type 0} → ℕ → (ℕ → V) → Log V
kept n r = record { slots = n; reading = r; mark = λ k. Mark.Kept }

-- n slots, only slot l lost
abbrev pub losing : {V : Type 0} → ℕ → ℕ → (ℕ → V) → Log V
losing n l r = record { slots = n; reading = r; mark = λ k. lost_at (k == l) }

-- the range (a, b)
abbrev range : ℕ → ℕ → Range
range a b = record { low = a; high = b }

-- a step over the range (a, b)
abbrev step : Sign → ℕ → ℕ → Origin → Step
step σ a b o = record { low = a; high = b; sign = σ; origin = o }

-- a chain table of just the size asked for
abbrev pub blank : List Step
blank = replicate 1023 (step Plus 0 0 Released)

-- a query with the blank table
abbrev ask : ℕ → ℕ → Call
ask a b = Call.Ask (record { low = a; high = b; table = blank })

-- a try of (a, b) over n slots
abbrev try : Rule → ℕ → ℕ → ℕ → Try
try rule n a b = record { low = a; high = b; rule = rule; slots = n }

-- released, withheld, lost, malformed
abbrev counts : ℕ → ℕ → ℕ → ℕ → Counts
counts r w l m = record { released = r; withheld = w; lost = l; malformed = m }

-- the calls, from a ledger opened on 1,024 distances, draw the replies
abbrev pub Draws : {V : Type 0} → Group V → Log V → Rule → List Call → List (Reply V) → Type 0
Draws {V} G log rule calls replies = (e : Ledger V) × Runs G log rule (opened 1024) calls replies e

-- Short ranges are withheld with a chain of one step, others released; a range between two releases is withheld or known by its chain; bad ranges are turned back.
pub record Cases {V : Type 0} (G : Group V) (r : ℕ → V) : Type 0 where
  pub too_short : Draws G (kept 9 r) (short 3) (ask 0 2 ∷ []) (Reply.Answered (Answer.Withheld (range 0 2) 1) (written (step Plus 0 2 New ∷ []) blank) (counts 0 1 0 0) ∷ [])
  pub long_enough : Draws G (kept 9 r) (short 3) (ask 0 3 ∷ []) (Reply.Answered (Answer.Released (range_sum G r 0 3)) blank (counts 1 0 0 0) ∷ [])
  pub none_short : Draws G (kept 9 r) (short 1) (ask 0 1 ∷ []) (Reply.Answered (Answer.Released (range_sum G r 0 1)) blank (counts 1 0 0 0) ∷ [])
  pub by_difference : Draws G (kept 9 r) (short_or 1 2 4) (ask 0 2 ∷ ask 0 4 ∷ [])
      (Reply.Answered (Answer.Released (range_sum G r 0 2)) blank (counts 1 0 0 0) ∷
      Reply.Answered (Answer.Withheld (range 2 4) 2) (written (step Minus 0 2 Released ∷ step Plus 0 4 New ∷ []) blank) (counts 1 1 0 0) ∷ [])
  pub from_chain : Draws G (kept 4 r) (short 1) (ask 0 3 ∷ ask 0 4 ∷ ask 3 4 ∷ [])
      (Reply.Answered (Answer.Released (range_sum G r 0 3)) blank (counts 1 0 0 0) ∷
      Reply.Answered (Answer.Released (range_sum G r 0 4)) blank (counts 2 0 0 0) ∷
      Reply.Answered (Answer.Released (G.plus (G.inverse (range_sum G r 0 3)) (G.plus (range_sum G r 0 4) G.zero))) blank (counts 3 0 0 0) ∷ [])
  pub no_slots : Draws G (kept 0 r) (short 1) (ask 0 1 ∷ ask 0 0 ∷ []) (Reply.Answered (Answer.Refused Fault.Beyond) blank (counts 0 0 0 1) ∷ Reply.Answered (Answer.Refused Fault.Backward) blank (counts 0 0 0 2) ∷ [])
  pub beyond_first : Draws G (kept 9 r) (short 1) (ask 10 10 ∷ []) (Reply.Answered (Answer.Refused Fault.Beyond) blank (counts 0 0 0 1) ∷ [])

-- the log has one slot, which has this mark and reads 5
abbrev Five : Mark → Log (Residue (2 ^ 32)) → Type 0
Five mark log = (log.slots ≡ 1) × (log.mark 0 ≡ mark) × ((log.reading 0).number ≡ 5)

-- A list with a rehearsal in it, over nine slots of which the last is lost.
abbrev pub Sample : {V : Type 0} → Group V → (ℕ → V) → Type 0
Sample G r =
    Draws G (losing 9 8 r) (short 3)
    (ask 0 4 ∷ ask 1 5 ∷ Call.Rehearse (try (short 3) 9 4 8 ∷ try (short 3) 9 0 5 ∷ try (short 3) 9 3 3 ∷ []) ∷ ask 0 5 ∷ ask 4 8 ∷ ask 0 8 ∷ ask 5 9 ∷ ask 2 10 ∷ [])
    (Reply.Answered (Answer.Released (range_sum G r 0 4)) blank (counts 1 0 0 0) ∷
    Reply.Answered (Answer.Released (range_sum G r 1 5)) blank (counts 2 0 0 0) ∷
    Reply.Tried (Trial.Free ∷ Trial.Withheld (range 0 1) ∷ Trial.Refused Fault.Backward ∷ []) (counts 2 0 0 0) ∷
    Reply.Answered (Answer.Withheld (range 0 1) 2) (written (step Plus 0 5 New ∷ step Minus 1 5 Released ∷ []) blank) (counts 2 1 0 0) ∷
    Reply.Answered (Answer.Released (range_sum G r 4 8)) blank (counts 3 1 0 0) ∷
    Reply.Answered (Answer.Released (G.plus (range_sum G r 0 4) (G.plus (range_sum G r 4 8) G.zero))) blank (counts 4 1 0 0) ∷
    Reply.Answered (Answer.LostSlot 8) blank (counts 4 1 1 0) ∷
    Reply.Answered (Answer.Refused Fault.Beyond) blank (counts 4 1 1 1) ∷ [])

-- four masks, one a slot
abbrev relays : ℕ → Residue (2 ^ 16)
relays k = residue (2 ^ 16) (lit< tt) (slice_index (1 ∷ 2 ∷ 3 ∷ 1 ∷ []) k)

-- the reply with the number of a released sum
abbrev numbered : {m : ℕ} → Reply (Residue m) → Reply ℕ
numbered = valued_reply (λ v. v.number)

-- Sums of masks, the last from the chain; sums that pass a kind's end; a packed record, kept and lost.
pub record Values : Type 0 where
  pub masks : (rs : List (Reply (Residue (2 ^ 16)))) × Draws toggles_group (kept 4 relays) (short 1) (ask 0 3 ∷ ask 0 4 ∷ ask 3 4 ∷ []) rs × (map numbered rs ≡
      Reply.Answered (Answer.Released 0) blank (counts 1 0 0 0) ∷ Reply.Answered (Answer.Released 1) blank (counts 2 0 0 0) ∷ Reply.Answered (Answer.Released 1) blank (counts 3 0 0 0) ∷ [])
  pub dials : dials_held (dials_group.plus (dials_meaning (record { litres = 9999; starts = 999 })) (dials_meaning (record { litres = 1; starts = 1 }))) ≡ record { litres = 0; starts = 0 }
  pub wh : wh_held (wh_group.plus (wh_meaning (record { amount = 4294967295 })) (wh_meaning (record { amount = 1 }))) ≡ record { amount = 0 }
  pub packed : Five Mark.Kept (packed_log wh_group wh_bytes (1 ∷ 5 ∷ 0 ∷ 0 ∷ 0 ∷ []))
  pub packed_lost : Five Mark.Lost (packed_log wh_group wh_bytes (2 ∷ 5 ∷ 0 ∷ 0 ∷ 0 ∷ []))

-- all of these, whatever the readings where no readings are given
pub record Worked {V : Type 0} (G : Group V) : Type 0 where
  pub cases : (r : ℕ → V) → Cases G r
  pub sample : (r : ℕ → V) → Sample G r
  pub values : Values
