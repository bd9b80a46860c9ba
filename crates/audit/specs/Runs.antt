-- Lists of calls on one ledger, over one log and under one rule, and what they draw. Assumes nothing.
use Rattle.std.specs.Prelude.{◌≡◌, ℕ, List, [], ◌∷◌, ◌++◌}
use Rattle.links.specs.declared.step.Step.{Step}
use Rattle.kinds.specs.Group.{Group}
use Rattle.stores.specs.Log.{Log}
use Rattle.ledger.specs.Rules.{Rule}
use Rattle.ledger.specs.declared.answer.Answer.{Answer}
use Rattle.ledger.specs.declared.answer.Trial.{Trial}
use Rattle.ledger.specs.declared.answer.Counts.{Counts}
use Rattle.ledger.specs.Machine.{Ledger, opened, ranges, Query, Outcome, Asked, Try, Rehearsed}

-- a query, or a rehearsal of any number of tries
pub data Call : Type 0 where
  Ask : Query → Call
  Rehearse : List Try → Call

-- what a call draws: a query's answer with its table afterwards, or the tries' answers; and the counts after it
pub data Reply (V : Type 0) : Type 0 where
  Answered : Answer V → List Step → Counts → Reply V
  Tried : List Trial → Counts → Reply V

-- what a query with this outcome draws
abbrev pub reply_of : {V : Type 0} → Outcome V → Reply V
reply_of o = Reply.Answered o.answer o.table o.after.counts

-- From the ledger s the calls, in their order, draw the replies and leave the ledger e; a rehearsal leaves it as it was.
pub data Runs {V : Type 0} (G : Group V) (log : Log V) (rule : Rule) : Ledger V → List Call → List (Reply V) → Ledger V → Type 0 where
  done : {s : Ledger V} → Runs G log rule s [] [] s
  asks : {s e : Ledger V} {q : Query} {o : Outcome V} {cs : List Call} {rs : List (Reply V)} → Asked G log rule s q o → Runs G log rule o.after cs rs e → Runs G log rule s (Call.Ask q ∷ cs) (reply_of o ∷ rs) e
  rehearses : {s e : Ledger V} {ts : List Try} {xs : List Trial} {cs : List Call} {rs : List (Reply V)} → Rehearsed (ranges s.joined) ts xs → Runs G log rule s cs rs e → Runs G log rule s (Call.Rehearse ts ∷ cs) (Reply.Tried xs s.counts ∷ rs) e

-- A place in a list of calls where a query stands: the calls before it drew `earlier` and left the ledger, and the query drew the outcome there.
pub record Place {V : Type 0} (G : Group V) (log : Log V) (rule : Rule) (d : ℕ) (calls : List Call) (replies : List (Reply V)) : Type 0 where
  pub before : List Call
  pub query : Query
  pub later : List Call
  pub earlier : List (Reply V)
  pub outcome : Outcome V
  pub rest : List (Reply V)
  pub ledger : Ledger V
  pub called : calls ≡ before ++ (Call.Ask query ∷ later)
  pub drawn : replies ≡ earlier ++ (reply_of outcome ∷ rest)
  pub ran : Runs G log rule (opened d) before earlier ledger
  pub asks : Asked G log rule ledger query outcome
