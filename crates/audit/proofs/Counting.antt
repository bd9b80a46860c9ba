-- The four counts stay within their limit. Assumes nothing.
use Rattle.std.proofs.Common.{◌≡◌, ℕ, ◌≤◌, eqb, ◌⊎◌, List, Some, inl, inr, arith}
use Rattle.std.proofs.lemmas.Bool.{cases_Bool, eqb-false, cond-true}
use Rattle.ledger.specs.declared.answer.Fault.{Fault}
use Rattle.ledger.specs.declared.answer.Answer.{Answer}
use Rattle.ledger.specs.declared.answer.Counts.{Counts}
use Rattle.ledger.specs.Answers.{counted, count}
use Rattle.kinds.specs.Group.{Group}
use Rattle.stores.specs.Log.{Log}
use Rattle.ledger.specs.Rules.{Rule}
use Rattle.ledger.specs.Machine.{Ledger, Query, fault, WellFormed, Outcome, Asked}
use Rattle.audit.specs.Runs.{Call, Reply, Runs}
use Rattle.audit.specs.Facts.{CountsWithin}
use Rattle.ledger.proofs.Standing.{passed}

not_full : {V : Type 0} (log : Log V) (s : Ledger V) (q : Query) → WellFormed log s q → counted s.counts ≡ 65535 → ⊥
not_full log s q w = eqb-false (counted s.counts) 65535 (passed (eqb (counted s.counts) 65535) Fault.Full _ w).0

full_or_not : {V : Type 0} (log : Log V) (s : Ledger V) (q : Query) (f : Fault) → fault s log.slots q ≡ Some f → (f ≡ Fault.Full) ⊎ (counted s.counts ≡ 65535 → ⊥)
full_or_not log s q f e =
    elim (cases_Bool (eqb (counted s.counts) 65535)) [
      | inl y ↦ (let full : fault s log.slots q ≡ Some Fault.Full = cond-true (eqb (counted s.counts) 65535) (Some Fault.Full) _ y in inl (cc))
      | inr n ↦ inr (eqb-false (counted s.counts) 65535 n)
    ]

other : (f : Fault) (P : Type 0) → (f ≡ Fault.Full) ⊎ P → (f ≡ Fault.Full → ⊥) → P
other f P (inl e) n = absurd (n e)
other f P (inr p) n = p

count_refused : (V : Type 0) (c : Counts) (f : Fault) → counted c ≤ 65535 → (f ≡ Fault.Full) ⊎ (counted c ≡ 65535 → ⊥) → counted (count {V = V} (Answer.Refused f) c) ≤ 65535
count_refused V c Fault.Full h d = h
count_refused V c Fault.LongLog h d = let n : counted c ≡ 65535 → ⊥ = other Fault.LongLog _ d (λ e. let z : ◌≡◌ {A = ℕ} 0 1 = cc in omega arith) in omega arith
count_refused V c Fault.FewDistances h d = let n : counted c ≡ 65535 → ⊥ = other Fault.FewDistances _ d (λ e. let z : ◌≡◌ {A = ℕ} 0 1 = cc in omega arith) in omega arith
count_refused V c Fault.FewSteps h d = let n : counted c ≡ 65535 → ⊥ = other Fault.FewSteps _ d (λ e. let z : ◌≡◌ {A = ℕ} 0 1 = cc in omega arith) in omega arith
count_refused V c Fault.Beyond h d = let n : counted c ≡ 65535 → ⊥ = other Fault.Beyond _ d (λ e. let z : ◌≡◌ {A = ℕ} 0 1 = cc in omega arith) in omega arith
count_refused V c Fault.Backward h d = let n : counted c ≡ 65535 → ⊥ = other Fault.Backward _ d (λ e. let z : ◌≡◌ {A = ℕ} 0 1 = cc in omega arith) in omega arith

module _ {V : Type 0} (G : Group V) (log : Log V) (rule : Rule) where
  count_asked : (s : Ledger V) (q : Query) (o : Outcome V) → counted s.counts ≤ 65535 → Asked G log rule s q o → counted o.after.counts ≤ 65535
  count_asked s q o h (Asked.turned_back {f = f} e) = count_refused V s.counts f h (full_or_not log s q f e)
  count_asked s q o h (Asked.known e j) = let n = not_full log s q e in omega arith
  count_asked s q o h (Asked.withheld e j) = let n = not_full log s q e in omega arith
  count_asked s q o h (Asked.lost e j l) = let n = not_full log s q e in omega arith
  count_asked s q o h (Asked.released e j k) = let n = not_full log s q e in omega arith

  count_run : {s e : Ledger V} {cs : List Call} {rs : List (Reply V)} → counted s.counts ≤ 65535 → Runs G log rule s cs rs e → counted e.counts ≤ 65535
  count_run h Runs.done = h
  count_run h (Runs.asks {s = s} {q = q} {o = o} a p) = count_run (count_asked s q o h a) p
  count_run h (Runs.rehearses a p) = count_run h p

pub counts_within : {V : Type 0} (G : Group V) → CountsWithin G
counts_within G log rule d calls replies e run = count_run G log rule (omega arith) run
