-- One call of a script and its printed line. Assumes nothing.
use Rattle.std.specs.Prelude.{ℕ, ◌^◌, List}
use Rattle.kinds.specs.Codec.{Codec}
use Rattle.kinds.specs.Group.{Group}
use Rattle.links.specs.declared.links.Links.{Links}
use Rattle.links.specs.declared.step.Step.{Step}
use Rattle.stores.specs.Log.{Log}
use Rattle.ledger.specs.declared.answer.Answer.{Answer}
use Rattle.ledger.specs.declared.answer.Counts.{Counts}
use Rattle.ledger.specs.declared.trying.Try.{Try}
use Rattle.ledger.specs.Rules.{Rule}
use Rattle.ledger.specs.State.{Queried}
use Rattle.kinds.specs.declared.names.KindName.{KindName}
use Rattle.lines.specs.Lines.{answer_line}

-- the two ends of a try
abbrev pub ends_of : {R : Type 0} → Try R → ℕ × ℕ
ends_of t = (t.range.low, t.range.high)

-- a query was asked of the ledger, and the line of its answer put
pub record AskedAndPrinted {V S : Type 0} (G : Group V) (codec : Codec (2 ^ 32) V) (kind : KindName) (log : Log V) (rule : Rule) (puts : S → List ℕ → S → Type 0) (links links' : Links) (table table' : List V) (counts counts' : Counts) (steps steps' : List Step) (low high : ℕ) (s s' : S) : Type 0 where
  pub answer : Answer V
  pub queried : Queried G log rule links links' table table' counts counts' steps steps' low high answer
  pub put : puts s (answer_line kind codec low high answer steps') s'
