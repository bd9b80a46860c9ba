-- A list of calls draws just one list of replies, every query in it has its place, and readings show only in released sums. Assumes nothing.
use Rattle.std.proofs.Common.{◌≡◌, ℕ, List, [], ◌∷◌, ◌++◌, map, length, Some, None, Option, sym, refl, ap, ◌∙◌, subst}
use Rattle.links.specs.declared.step.Step.{Step}
use Rattle.links.specs.Ranges.{Range}
use Rattle.links.specs.Rings.{Ringless}
use Rattle.kinds.specs.Group.{Group}
use Rattle.stores.specs.Log.{Log}
use Rattle.audit.specs.Readings.{with_readings}
use Rattle.ledger.specs.Rules.{Rule}
use Rattle.ledger.specs.Judgement.{Verdict, Judged}
use Rattle.ledger.specs.declared.answer.Fault.{Fault}
use Rattle.ledger.specs.declared.answer.Answer.{Answer}
use Rattle.ledger.specs.declared.answer.Counts.{Counts}
use Rattle.ledger.specs.Answers.{count}
use Rattle.ledger.specs.Machine.{Ledger, opened, ranges, Query, asked, fault, written, Outcome, Rehearsed}
use Rattle.audit.specs.Runs.{Call, Reply, reply_of, Runs, Place}
use Rattle.audit.specs.Laws.{veiled, ReadingsUnseen}
use Rattle.audit.specs.Facts.{OneRun, EveryPlace, queries, answers, RehearsalsIdle}
use Rattle.ledger.proofs.Verdicts.{verdict, verdict_judged}
use Rattle.ledger.proofs.Outcomes.{lowest, lowest_reading, settled, answered, asked_settled, asked_answered, asked_only, asked_ringless, rehearsed, rehearsed_there, rehearsed_only}

-- the replies to a list of calls, found by search
unfoldable pub replied : {V : Type 0} → Group V → Log V → Rule → List Call → Ledger V → List (Reply V)
replied G log rule [] s = []
replied G log rule (Call.Ask q ∷ cs) s = reply_of (answered G log rule s q) ∷ replied G log rule cs (answered G log rule s q).after
replied G log rule (Call.Rehearse ts ∷ cs) s = Reply.Tried (rehearsed ts (ranges s.joined)) s.counts ∷ replied G log rule cs s

module _ {V : Type 0} (G : Group V) (log : Log V) (rule : Rule) where
  pub run_ended : (cs : List Call) (s : Ledger V) → Ringless (ranges s.joined) → (e : Ledger V) × Runs G log rule s cs (replied G log rule cs s) e
  unfolding replied
  run_ended [] s ring = (s, Runs.done)
  run_ended (Call.Ask q ∷ cs) s ring =
      let a = asked_answered G log rule s q ring in
      let p = run_ended cs (answered G log rule s q).after (asked_ringless G log rule s q ring (answered G log rule s q) a) in
      (p.0, Runs.asks a p.1)
  run_ended (Call.Rehearse ts ∷ cs) s ring = let p = run_ended cs s ring in (p.0, Runs.rehearses (rehearsed_there ts (ranges s.joined) ring) p.1)

  pub run_only : (cs : List Call) (s : Ledger V) → Ringless (ranges s.joined) → (rs rs' : List (Reply V)) (e e' : Ledger V) → Runs G log rule s cs rs e → Runs G log rule s cs rs' e' → (rs ≡ rs') × (e ≡ e')
  run_only [] s ring rs rs' e e' Runs.done Runs.done = (refl, refl)
  run_only (Call.Ask q ∷ cs) s ring rs rs' e e' (Runs.asks {o = o} {rs = us} a p) (Runs.asks {o = o'} {rs = us'} a' p') =
      let w : o ≡ o' = asked_only G log rule s q ring o a ∙ sym (asked_only G log rule s q ring o' a') in
      let rest = run_only cs o.after (asked_ringless G log rule s q ring o a) us us' e e' p (subst (λ (x : Outcome V). Runs G log rule x.after cs us' e') (sym w) p') in
      (λ i. reply_of (w i) ∷ rest.0 i, rest.1)
  run_only (Call.Rehearse ts ∷ cs) s ring rs rs' e e' (Runs.rehearses {xs = xs} {rs = us} a p) (Runs.rehearses {xs = xs'} {rs = us'} a' p') =
      let w : xs ≡ xs' = rehearsed_only ts (ranges s.joined) ring xs a ∙ sym (rehearsed_only ts (ranges s.joined) ring xs' a') in
      let rest = run_only cs s ring us us' e e' p p' in
      (λ i. Reply.Tried (w i) s.counts ∷ rest.0 i, rest.1)

  -- a run of one list after another is a run of each
  split_run : (bs : List Call) (cs : List Call) (s : Ledger V) (rs : List (Reply V)) (e : Ledger V) → Runs G log rule s (bs ++ cs) rs e → (us : List (Reply V)) × (m : Ledger V) × (ws : List (Reply V)) × (rs ≡ us ++ ws) × Runs G log rule s bs us m × Runs G log rule m cs ws e
  split_run [] cs s rs e p = ([], s, rs, refl, Runs.done, p)
  split_run (Call.Ask q ∷ bs) cs s rs e (Runs.asks {o = o} {rs = xs} a p) =
      let r = split_run bs cs o.after xs e p in
      (reply_of o ∷ r.0, r.1, r.2, ap (λ (zs : List (Reply V)). reply_of o ∷ zs) r.3, Runs.asks a r.4, r.5)
  split_run (Call.Rehearse ts ∷ bs) cs s rs e (Runs.rehearses {xs = xs} {rs = zs} a p) =
      let r = split_run bs cs s zs e p in
      (Reply.Tried xs s.counts ∷ r.0, r.1, r.2, ap (λ (ys : List (Reply V)). Reply.Tried xs s.counts ∷ ys) r.3, Runs.rehearses a r.4, r.5)

  pub place_there : (d : ℕ) (before : List Call) (q : Query) (later : List Call) (replies : List (Reply V)) (e : Ledger V) → Runs G log rule (opened d) (before ++ (Call.Ask q ∷ later)) replies e → (p : Place G log rule d (before ++ (Call.Ask q ∷ later)) replies) × (p.before ≡ before) × (p.query ≡ q) × (p.later ≡ later)
  place_there d before q later replies e run =
      let r = split_run before (Call.Ask q ∷ later) (opened d) replies e run in
      by r.0 r.1 r.2 r.3 r.4 r.5
    where
      by : (us : List (Reply V)) (m : Ledger V) (ws : List (Reply V)) → replies ≡ us ++ ws → Runs G log rule (opened d) before us m → Runs G log rule m (Call.Ask q ∷ later) ws e → (p : Place G log rule d (before ++ (Call.Ask q ∷ later)) replies) × (p.before ≡ before) × (p.query ≡ q) × (p.later ≡ later)
      by us m ws eq ran (Runs.asks {o = o} {rs = zs} a p) =
          (record { before = before; query = q; later = later; earlier = us; outcome = o; rest = zs; ledger = m; called = refl; drawn = eq; ran = ran; asks = a }, refl, refl, refl)

pub one_run : {V : Type 0} (G : Group V) → OneRun G
one_run G log rule d calls =
    let a = run_ended G log rule calls (opened d) tt in
    (replied G log rule calls (opened d), a.0, a.1, λ rs' e' b. run_only G log rule calls (opened d) tt rs' (replied G log rule calls (opened d)) e' a.0 b a.1)

idle_run : {V : Type 0} {G : Group V} {log : Log V} {rule : Rule} {s e : Ledger V} {cs : List Call} {rs : List (Reply V)} → Runs G log rule s cs rs e → Runs G log rule s (queries cs) (answers rs) e
idle_run Runs.done = Runs.done
idle_run (Runs.asks a p) = Runs.asks a (idle_run p)
idle_run (Runs.rehearses a p) = idle_run p

pub rehearsals_idle : {V : Type 0} (G : Group V) → RehearsalsIdle G
rehearsals_idle G log rule d calls replies e run = idle_run run

pub every_place : {V : Type 0} (G : Group V) → EveryPlace G
every_place G log rule d before q later replies e run = place_there G log rule d before q later replies e run

abbrev unseen : Answer (Unit {0}) → List Step → Counts → Reply (Unit {0})
unseen a t c = Reply.Answered a t c

-- two ledgers alike but for the sums
record Twin {V : Type 0} (s s' : Ledger V) : Type 0 where
  joins : ranges s.joined ≡ ranges s'.joined
  room : s.distances ≡ s'.distances
  tally : s.counts ≡ s'.counts

module _ {V : Type 0} (G : Group V) (log : Log V) (r r' : ℕ → V) (s s' : Ledger V) (q : Query) (t : Twin s s') where
  twin_fault : fault s log.slots q ≡ fault s' log.slots q
  twin_fault = let rm : s.distances ≡ s'.distances = t.room in let tl : s.counts ≡ s'.counts = t.tally in λ i. fault {V = V} (record { joined = []; distances = rm i; counts = tl i }) log.slots q

  twin_settled : (f : Option Fault) (v : Verdict) (x : Option ℕ) → (veiled (reply_of (settled G (with_readings log r) s q f v x)) ≡ veiled (reply_of (settled G (with_readings log r') s' q f v x))) × Twin (settled G (with_readings log r) s q f v x).after (settled G (with_readings log r') s' q f v x).after
  twin_settled (Some f) v x = (
    ap (λ (c : Counts). unseen (Answer.Refused f) q.table (count {V = V} (Answer.Refused f) c)) t.tally,
    record { joins = t.joins; room = t.room; tally = ap (count {V = V} (Answer.Refused f)) t.tally },
  )
  twin_settled None (Verdict.Known ss) x = (
    ap (λ (c : Counts). unseen (Answer.Released tt) q.table (count {V = Unit {0}} (Answer.Released tt) c)) t.tally,
    record { joins = t.joins; room = t.room; tally = ap (count {V = Unit {0}} (Answer.Released tt)) t.tally },
  )
  twin_settled None (Verdict.Hidden p ss) x = (
    ap (λ (c : Counts). unseen (Answer.Withheld p (length ss)) (written ss q.table) (count {V = V} (Answer.Withheld p (length ss)) c)) t.tally,
    record { joins = t.joins; room = t.room; tally = ap (count {V = V} (Answer.Withheld p (length ss))) t.tally },
  )
  twin_settled None Verdict.Free (Some k) = (
    ap (λ (c : Counts). unseen (Answer.LostSlot k) q.table (count {V = V} (Answer.LostSlot k) c)) t.tally,
    record { joins = t.joins; room = t.room; tally = ap (count {V = V} (Answer.LostSlot k)) t.tally },
  )
  twin_settled None Verdict.Free None = (
    ap (λ (c : Counts). unseen (Answer.Released tt) q.table (count {V = Unit {0}} (Answer.Released tt) c)) t.tally,
    record { joins = ap (λ (js : List Range). asked q ∷ js) t.joins; room = t.room; tally = ap (count {V = Unit {0}} (Answer.Released tt)) t.tally },
  )

unseen_run : {V : Type 0} (G : Group V) (log : Log V) (rule : Rule) (r r' : ℕ → V) (cs : List Call) (s s' : Ledger V) → Twin s s' → Ringless (ranges s.joined) → (rs rs' : List (Reply V)) (e e' : Ledger V) → Runs G (with_readings log r) rule s cs rs e → Runs G (with_readings log r') rule s' cs rs' e' → map veiled rs ≡ map veiled rs'
unseen_run G log rule r r' [] s s' t ring rs rs' e e' Runs.done Runs.done = refl
unseen_run {V} G log rule r r' (Call.Ask q ∷ cs) s s' t ring rs rs' e e' (Runs.asks {o = o} {rs = us} a p) (Runs.asks {o = o'} {rs = us'} a' p') =
    let ring' : Ringless (ranges s'.joined) = subst Ringless t.joins ring in
    let v = verdict (ranges s.joined) rule (asked q) in
    let j = verdict_judged (ranges s.joined) rule (asked q) ring in
    let x = lowest log.mark q.low q.high in
    let y = lowest_reading log.mark q.low q.high in
    let f = fault s log.slots q in
    let w : o ≡ settled G (with_readings log r) s q f v x = asked_settled G (with_readings log r) rule s q ring v x j y o a in
    let w' : o' ≡ settled G (with_readings log r') s' q f v x = asked_settled G (with_readings log r') rule s' q ring' v x (subst (λ (js : List Range). Judged js rule (asked q) v) t.joins j) y o' a' ∙ ap (λ (z : Option Fault). settled G (with_readings log r') s' q z v x) (sym (twin_fault G log r r' s s' q t)) in
    let m = twin_settled G log r r' s s' q t f v x in
    let next : Twin o.after o'.after = subst (λ (z : Outcome V). Twin z.after o'.after) (sym w) (subst (λ (z : Outcome V). Twin (settled G (with_readings log r) s q f v x).after z.after) (sym w') m.1) in
    let head : veiled (reply_of o) ≡ veiled (reply_of o') = ap (λ (z : Outcome V). veiled (reply_of z)) w ∙ m.0 ∙ sym (ap (λ (z : Outcome V). veiled (reply_of z)) w') in
    let tail = unseen_run G log rule r r' cs o.after o'.after next (asked_ringless G (with_readings log r) rule s q ring o a) us us' e e' p p' in
    λ i. head i ∷ tail i
unseen_run {V} G log rule r r' (Call.Rehearse ts ∷ cs) s s' t ring rs rs' e e' (Runs.rehearses {xs = xs} {rs = us} a p) (Runs.rehearses {xs = xs'} {rs = us'} a' p') =
    let w : xs ≡ xs' = rehearsed_only ts (ranges s.joined) ring xs a ∙ sym (rehearsed_only ts (ranges s.joined) ring xs' (subst (λ (js : List Range). Rehearsed js ts xs') (sym t.joins) a')) in
    let c : s.counts ≡ s'.counts = t.tally in
    let tail = unseen_run G log rule r r' cs s s' t ring us us' e e' p p' in
    λ i. Reply.Tried (w i) (c i) ∷ tail i

pub readings_unseen : {V : Type 0} (G : Group V) → ReadingsUnseen G
readings_unseen G log rule d calls r r' replies replies' e e' p p' = unseen_run G log rule r r' calls (opened d) (opened d) (record { joins = refl; room = refl; tally = refl }) tt replies replies' e e' p p'
