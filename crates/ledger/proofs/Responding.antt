-- A query's answer before and after it is counted, as the machine has it. Assumes nothing.
use Rattle.std.proofs.Common.{◌≡◌, ℕ, ◌≤◌, List, length, Some, sym, refl, ◌∙◌, subst, arith}
use Rattle.std.proofs.lemmas.Bool.{eq-eqb, ne_eqb, cond-true, cond-false}
use Rattle.kinds.specs.Group.{Group}
use Rattle.links.specs.declared.links.Links.{Links}
use Rattle.links.specs.declared.step.Step.{Step}
use Rattle.stores.specs.Log.{Log}
use Rattle.ledger.specs.declared.answer.Answer.{Answer}
use Rattle.ledger.specs.declared.answer.Counts.{Counts}
use Rattle.ledger.specs.declared.answer.Fault.{Fault}
use Rattle.ledger.specs.Answers.{counted, count}
use Rattle.ledger.specs.Machine.{range_fault, fault, Asked}
use Rattle.ledger.specs.Rules.{Rule}
use Rattle.ledger.specs.State.{valued_answer, releases_of, state_of, Queried, Responds}

-- an answer is counted alike whatever its value means
pub count_valued : {K V : Type 0} (f : K → V) (answer : Answer K) (counts : Counts) → count (valued_answer f answer) counts ≡ count answer counts
count_valued f (Answer.Released x) counts = refl
count_valued f (Answer.Withheld p m) counts = refl
count_valued f (Answer.LostSlot k) counts = refl
count_valued f (Answer.Refused Fault.Full) counts = refl
count_valued f (Answer.Refused Fault.LongLog) counts = refl
count_valued f (Answer.Refused Fault.FewDistances) counts = refl
count_valued f (Answer.Refused Fault.FewSteps) counts = refl
count_valued f (Answer.Refused Fault.Beyond) counts = refl
count_valued f (Answer.Refused Fault.Backward) counts = refl

module _ {V : Type 0} (G : Group V) (log : Log V) (rule : Rule) (links links' : Links) (table table' : List V) (steps steps' : List Step) (low high : ℕ) where
  -- on a ledger that is not full the first fault is that of the range and the tables
  rest_fault : (counts : Counts) → (counted counts ≡ 65535 → ⊥) → fault (state_of G links table counts) log.slots (record { low = low; high = high; table = steps }) ≡ range_fault log.slots (length table) (length steps) low high
  rest_fault counts room = cond-false _ _ _ (ne_eqb (counted counts) 65535 room)

  pub queried : (answer : Answer V) (counts counts' : Counts) → (counted counts ≡ 65535 → ⊥) → counts' ≡ count answer counts → length table' ≡ length table → Responds G log rule links links' table table' steps steps' low high answer → Queried G log rule links links' table table' counts counts' steps steps' low high answer
  queried answer counts counts' room is long responds =
      subst (Asked G log rule (state_of G links table counts) (record { low = low; high = high; table = steps }))
      (λ i. record { answer = answer; table = steps'; after = record { joined = releases_of G links' table'; distances = sym long i; counts = sym is i } })
      (responds counts room)

module _ {V : Type 0} (G : Group V) (log : Log V) (rule : Rule) (links : Links) (table : List V) (steps : List Step) (low high : ℕ) where
  pub responds_refused : (f : Fault) → range_fault log.slots (length table) (length steps) low high ≡ Some f → Responds G log rule links links table table steps steps low high (Answer.Refused f)
  responds_refused f is = λ counts room. Asked.turned_back (rest_fault G log rule links links table table steps steps low high counts room ∙ is)

  -- a full ledger turns every query back, and stays as it is
  pub queried_full : (counts : Counts) → 65535 ≤ counted counts → counted counts ≤ 65535 → Queried G log rule links links table table counts counts steps steps low high (Answer.Refused Fault.Full)
  queried_full counts most within =
      let full : counted counts ≡ 65535 = omega arith in
      Asked.turned_back (cond-true _ _ _ (eq-eqb (counted counts) 65535 full))
