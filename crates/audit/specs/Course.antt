-- What a list of calls of the code stands for, and how a listener is told the replies to it. Assumes nothing.
use Rattle.std.specs.Prelude.{◌≡◌, ℕ, Bool, List, [], ◌∷◌, ◌++◌, map, length, take}
use Rattle.kinds.specs.Group.{Group}
use Rattle.links.specs.declared.step.Step.{Step}
use Rattle.rules.specs.Ordered.{Ordered}
use Rattle.stores.specs.Log.{Log}
use Rattle.ledger.specs.declared.answer.Counts.{Counts}
use Rattle.ledger.specs.Machine.{Ledger, opened}
use Rattle.ledger.specs.Rules.{Rule}
use Rattle.ledger.specs.State.{valued_answer}
use Rattle.ledger.specs.Tries.{try_of}
use Rattle.audit.specs.declared.call.Call.{Call as Said}
use Rattle.audit.specs.Runs.{Call, Reply, Runs}

-- the same reply, with the value that a released sum means
abbrev pub valued_reply : {K V : Type 0} → (K → V) → Reply K → Reply V
valued_reply f (Reply.Answered a t c) = Reply.Answered (valued_answer f a) t c
valued_reply f (Reply.Tried xs c) = Reply.Tried xs c

-- the table of chain steps after a reply
abbrev pub table_after : {K : Type 0} → List Step → Reply K → List Step
table_after table (Reply.Answered a t c) = t
table_after table (Reply.Tried xs c) = table

-- and after several
abbrev pub table_left : {K : Type 0} → List Step → List (Reply K) → List Step
table_left table [] = table
table_left table (r ∷ rs) = table_left (table_after table r) rs

module _ {R : Type 0} (protects : R → ℕ → ℕ → Bool) (ordered : (rule : R) → Ordered (protects rule)) (room : ℕ) where
  -- the call as it is made: a query brings the table as it stands, a rehearsal ends where there is no more room for answers
  abbrev pub call_made : List Step → Said R → Call
  call_made table (Said.Query range) = Call.Ask (record { low = range.low; high = range.high; table = table })
  call_made table (Said.Rehearsal tries) = Call.Rehearse (map (try_of protects ordered) (take room tries.now))

  -- the calls as they are made one after another, each on the table that the reply before it left
  abbrev pub calls_made : {K : Type 0} → List Step → List (Said R) → List (Reply K) → List Call
  calls_made table [] rs = []
  calls_made table (c ∷ cs) [] = []
  calls_made table (c ∷ cs) (r ∷ rs) = call_made table c ∷ calls_made (table_after table r) cs rs

-- The replies, told one after another, lead a listener from s to e.
pub data Told {S R : Type 0} (hears : S → R → S → Type 0) : S → List R → S → Type 0 where
  none : {s : S} → Told hears s [] s
  next : {s m e : S} {rs : List R} {r : R} → Told hears s rs m → hears m r e → Told hears s (rs ++ (r ∷ [])) e

-- One call was made: the listener heard its reply, which is what the machine answers, and the ledger is as the machine leaves it.
pub record Performed {K V S : Type 0} (G : Group V) (meaning : K → V) (log : Log V) (rule : Rule) (hears : S → Reply K → S → Type 0) (made : List Step → Call) (before after : Ledger V) (steps steps' : List Step) (s s' : S) : Type 0 where
  pub reply : Reply K
  pub heard : hears s reply s'
  pub left : steps' ≡ table_after steps reply
  pub ran : Runs G log rule before (made steps ∷ []) (valued_reply meaning reply ∷ []) after

-- All calls were made from a ledger just opened on d distances: the listener heard a reply to each, the replies are those of the machine, and the
-- counts at the close are the machine's.
pub record Ran {K V S : Type 0} (G : Group V) (meaning : K → V) (log : Log V) (rule : Rule) (hears : S → Reply K → S → Type 0) (d many : ℕ) (made : List Step → List (Reply K) → List Call) (steps steps' : List Step) (s s' : S) (counts : Counts) : Type 0 where
  pub replies : List (Reply K)
  pub end : Ledger V
  pub each : length replies ≡ many
  pub told : Told hears s replies s'
  pub left : steps' ≡ table_left steps replies
  pub ran : Runs G log rule (opened d) (made steps replies) (map (valued_reply meaning) replies) end
  pub closed : counts ≡ end.counts
