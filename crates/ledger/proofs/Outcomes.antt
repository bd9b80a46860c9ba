-- Every call has just one outcome on a ledger whose joining releases close no ring. Assumes nothing.
use Rattle.std.proofs.Common.{◌≡◌, ℕ, zero, suc, Bool, true, false, ltb, List, [], ◌∷◌, Some, None, Option, sym, refl, ap, ◌∙◌, subst, inl, inr, arith}
use Rattle.std.proofs.lemmas.Bool.{cases_lt, ltb-true, ltb-false}
use Rattle.links.specs.Ranges.{Range}
use Rattle.links.specs.Rings.{Ringless}
use Rattle.kinds.specs.Group.{Group}
use Rattle.stores.specs.Log.{Log}
use Rattle.stores.specs.Sums.{range_sum, AllKept, LowestLost}
use Rattle.stores.specs.declared.store.Mark.{Mark}
use Rattle.ledger.specs.Rules.{Rule}
use Rattle.ledger.specs.Judgement.{Verdict, Judged}
use Rattle.ledger.specs.declared.answer.Fault.{Fault}
use Rattle.ledger.specs.declared.answer.Answer.{Answer}
use Rattle.ledger.specs.declared.answer.Trial.{Trial}
use Rattle.distances.specs.Sums.{chain_sum}
use Rattle.ledger.specs.Machine.{Ledger, ranges, amount_of, Query, asked, fault, Outcome, standing, withholding, joining, Asked, Try, try_range, try_fault, Tried, Rehearsed}
use Rattle.ledger.specs.Truth.{OneOutcome, OneRehearsal}
use Rattle.ledger.proofs.Verdicts.{verdict, verdict_judged, verdict_only}

-- the lowest lost slot, if one is lost
pub data Reading (mark : ℕ → Mark) (a b : ℕ) : Option ℕ → Type 0 where
  stopped : {k : ℕ} → LowestLost mark a b k → Reading mark a b (Some k)
  read : AllKept mark a b → Reading mark a b None

abbrev pub lowest_next : Option ℕ → Mark → Bool → ℕ → Option ℕ
lowest_next (Some k) m below b = Some k
lowest_next None Mark.Kept below b = None
lowest_next None Mark.Lost true b = None
lowest_next None Mark.Lost false b = Some b

-- the slot at which a reading of the slots a to b − 1 stops
unfoldable pub lowest : (ℕ → Mark) → ℕ → ℕ → Option ℕ
lowest mark a zero = None
lowest mark a (suc b) = lowest_next (lowest mark a b) (mark b) (ltb b a) b

reading_next : (mark : ℕ → Mark) (a b : ℕ) (x : Option ℕ) (m : Mark) (below : Bool) → Reading mark a b x → mark b ≡ m → ltb b a ≡ below → Reading mark a (suc b) (lowest_next x m below b)
reading_next mark a b x m below (Reading.stopped l) e t = Reading.stopped (record { above = l.above; below = omega (arith, l.below); lost = l.lost; lowest = l.lowest })
reading_next mark a b x Mark.Kept below (Reading.read kept) e t = Reading.read (λ k h lt. elim (cases_lt k b) [ inl less ↦ kept k h less | inr ge ↦ let same : b ≡ k = omega arith in subst (λ (y : ℕ). mark y ≡ Mark.Kept) same e ])
reading_next mark a b x Mark.Lost true (Reading.read kept) e t = Reading.read (λ k h lt. absurd (omega (arith, ltb-true b a t)))
reading_next mark a b x Mark.Lost false (Reading.read kept) e t = Reading.stopped (record { above = ltb-false b a t; below = omega arith; lost = e; lowest = kept })

pub lowest_reading : (mark : ℕ → Mark) (a b : ℕ) → Reading mark a b (lowest mark a b)
unfolding lowest
lowest_reading mark a zero = Reading.read (λ k h lt. absurd (omega arith))
lowest_reading mark a (suc b) = reading_next mark a b (lowest mark a b) (mark b) (ltb b a) (lowest_reading mark a b) refl refl

kept_lost : (m : Mark) → m ≡ Mark.Kept → m ≡ Mark.Lost → ⊥
kept_lost m e f = let z : ◌≡◌ {A = ℕ} 0 1 = cc in omega arith

pub reading_only : (mark : ℕ → Mark) (a b : ℕ) (x y : Option ℕ) → Reading mark a b x → Reading mark a b y → x ≡ y
reading_only mark a b x y (Reading.stopped {k = k} l) (Reading.stopped {k = k'} l') =
    elim (cases_lt k k') [
      | inl lt ↦ absurd (kept_lost (mark k) (l'.lowest k l.above lt) l.lost)
      | inr ge ↦ elim (cases_lt k' k) [
        | inl more ↦ absurd (kept_lost (mark k') (l.lowest k' l'.above more) l'.lost)
        | inr le ↦ let same : k ≡ k' = omega arith in ap Some same
      ]
    ]
reading_only mark a b x y (Reading.stopped {k = k} l) (Reading.read kept) = absurd (kept_lost (mark k) (kept k l.above l.below) l.lost)
reading_only mark a b x y (Reading.read kept) (Reading.stopped {k = k} l) = absurd (kept_lost (mark k) (kept k l.above l.below) l.lost)
reading_only mark a b x y (Reading.read kept) (Reading.read kept') = refl

-- the outcome that goes with a fault or none, a verdict, and a lost slot or none
abbrev pub settled : {V : Type 0} → Group V → Log V → Ledger V → Query → Option Fault → Verdict → Option ℕ → Outcome V
settled G log s q (Some f) v x = standing s q (Answer.Refused f)
settled G log s q None (Verdict.Known ss) x = standing s q (Answer.Released (chain_sum G (amount_of G s.joined) ss))
settled G log s q None (Verdict.Hidden p ss) x = withholding s q p ss
settled G log s q None Verdict.Free (Some k) = standing s q (Answer.LostSlot k)
settled G log s q None Verdict.Free None = joining s q (range_sum G log.reading q.low q.high)

-- the outcome of a query, found by search
unfoldable pub answered : {V : Type 0} → Group V → Log V → Rule → Ledger V → Query → Outcome V
answered G log rule s q = settled G log s q (fault s log.slots q) (verdict (ranges s.joined) rule (asked q)) (lowest log.mark q.low q.high)

module _ {V : Type 0} (G : Group V) (log : Log V) (rule : Rule) (s : Ledger V) (q : Query) where
  settled_asked : (f : Option Fault) (v : Verdict) (x : Option ℕ) → fault s log.slots q ≡ f → Judged (ranges s.joined) rule (asked q) v → Reading log.mark q.low q.high x → Asked G log rule s q (settled G log s q f v x)
  settled_asked (Some f) v x e j r = Asked.turned_back e
  settled_asked None (Verdict.Known ss) x e j r = Asked.known e j
  settled_asked None (Verdict.Hidden p ss) x e j r = Asked.withheld e j
  settled_asked None Verdict.Free x e j (Reading.stopped l) = Asked.lost e j l
  settled_asked None Verdict.Free x e j (Reading.read k) = Asked.released e j k

  pub asked_settled : Ringless (ranges s.joined) → (v : Verdict) (x : Option ℕ) → Judged (ranges s.joined) rule (asked q) v → Reading log.mark q.low q.high x → (o : Outcome V) → Asked G log rule s q o → o ≡ settled G log s q (fault s log.slots q) v x
  asked_settled ring v x j r o (Asked.turned_back e) = sym (ap (λ (y : Option Fault). settled G log s q y v x) e)
  asked_settled ring v x j r o (Asked.known {ss = ss} e k) = sym (ap (λ (y : Option Fault). settled G log s q y v x) e ∙ ap (λ (y : Verdict). settled G log s q None y x) (verdict_only (ranges s.joined) rule (asked q) ring v (Verdict.Known ss) j k))
  asked_settled ring v x j r o (Asked.withheld {p = p} {ss = ss} e k) = sym (ap (λ (y : Option Fault). settled G log s q y v x) e ∙ ap (λ (y : Verdict). settled G log s q None y x) (verdict_only (ranges s.joined) rule (asked q) ring v (Verdict.Hidden p ss) j k))
  asked_settled ring v x j r o (Asked.lost {k = k} e h l) = sym (ap (λ (y : Option Fault). settled G log s q y v x) e ∙ ap (λ (y : Verdict). settled G log s q None y x) (verdict_only (ranges s.joined) rule (asked q) ring v Verdict.Free j h) ∙ ap (settled G log s q None Verdict.Free) (reading_only log.mark q.low q.high x (Some k) r (Reading.stopped l)))
  asked_settled ring v x j r o (Asked.released e h k) = sym (ap (λ (y : Option Fault). settled G log s q y v x) e ∙ ap (λ (y : Verdict). settled G log s q None y x) (verdict_only (ranges s.joined) rule (asked q) ring v Verdict.Free j h) ∙ ap (settled G log s q None Verdict.Free) (reading_only log.mark q.low q.high x None r (Reading.read k)))

  pub asked_answered : Ringless (ranges s.joined) → Asked G log rule s q (answered G log rule s q)
  unfolding answered
  asked_answered ring = settled_asked (fault s log.slots q) (verdict (ranges s.joined) rule (asked q)) (lowest log.mark q.low q.high) refl (verdict_judged (ranges s.joined) rule (asked q) ring) (lowest_reading log.mark q.low q.high)

  pub asked_only : Ringless (ranges s.joined) → (o : Outcome V) → Asked G log rule s q o → o ≡ answered G log rule s q
  unfolding answered
  asked_only ring o a = asked_settled ring (verdict (ranges s.joined) rule (asked q)) (lowest log.mark q.low q.high) (verdict_judged (ranges s.joined) rule (asked q) ring) (lowest_reading log.mark q.low q.high) o a

  pub asked_ringless : Ringless (ranges s.joined) → (o : Outcome V) → Asked G log rule s q o → Ringless (ranges o.after.joined)
  asked_ringless ring o (Asked.turned_back e) = ring
  asked_ringless ring o (Asked.known e j) = ring
  asked_ringless ring o (Asked.withheld e j) = ring
  asked_ringless ring o (Asked.lost e j l) = ring
  asked_ringless ring o (Asked.released e (Judged.free n w) k) = (n, ring)

pub one_outcome : {V : Type 0} (G : Group V) → OneOutcome G
one_outcome G log rule s ring q =
    let there = asked_answered G log rule s q ring in
    (answered G log rule s q, there, asked_ringless G log rule s q ring (answered G log rule s q) there, asked_only G log rule s q ring)

-- the answer of a try that goes with a fault or none and a verdict
abbrev pub trial : Option Fault → Verdict → Trial
trial (Some f) v = Trial.Refused f
trial None (Verdict.Known ss) = Trial.Free
trial None (Verdict.Hidden p ss) = Trial.Withheld p
trial None Verdict.Free = Trial.Free

-- the ranges that the next try is judged by
abbrev pub judged_next : Option Fault → Verdict → Range → List Range → List Range
judged_next (Some f) v r js = js
judged_next None (Verdict.Known ss) r js = js
judged_next None (Verdict.Hidden p ss) r js = js
judged_next None Verdict.Free r js = r ∷ js

-- what a try leaves to the next closes no ring either
next_ringless : (js : List Range) (rule : Rule) (r : Range) (f : Option Fault) (v : Verdict) → Ringless js → Judged js rule r v → Ringless (judged_next f v r js)
next_ringless js rule r (Some f) v ring j = ring
next_ringless js rule r None v ring (Judged.known l c e) = ring
next_ringless js rule r None v ring (Judged.hidden n m c) = ring
next_ringless js rule r None v ring (Judged.free n w) = (n, ring)

module _ (js : List Range) (t : Try) where
  trial_tried : (f : Option Fault) (v : Verdict) → try_fault t ≡ f → Judged js t.rule (try_range t) v → Tried js t (trial f v) (judged_next f v (try_range t) js)
  trial_tried (Some f) v e j = Tried.turned_back e
  trial_tried None (Verdict.Known ss) e j = Tried.known e j
  trial_tried None (Verdict.Hidden p ss) e j = Tried.withheld e j
  trial_tried None Verdict.Free e j = Tried.free e j

  abbrev IsTrial : Trial → List Range → Option Fault → Verdict → Type 0
  IsTrial x ks f v = (x ≡ trial f v) × (ks ≡ judged_next f v (try_range t) js)

  trial_is : (v w : Verdict) → try_fault t ≡ None → v ≡ w → IsTrial (trial None w) (judged_next None w (try_range t) js) (try_fault t) v
  trial_is v w e u = subst (λ (f : Option Fault). IsTrial (trial None w) (judged_next None w (try_range t) js) f v) (sym e) (ap (trial None) (sym u), ap (λ (z : Verdict). judged_next None z (try_range t) js) (sym u))

  tried_trial : Ringless js → (v : Verdict) → Judged js t.rule (try_range t) v → (x : Trial) (ks : List Range) → Tried js t x ks → IsTrial x ks (try_fault t) v
  tried_trial ring v j x ks (Tried.turned_back {f = f} e) = (ap (λ (z : Option Fault). trial z v) (sym e), ap (λ (z : Option Fault). judged_next z v (try_range t) js) (sym e))
  tried_trial ring v j x ks (Tried.known {ss = ss} e k) = trial_is v (Verdict.Known ss) e (verdict_only js t.rule (try_range t) ring v (Verdict.Known ss) j k)
  tried_trial ring v j x ks (Tried.withheld {p = p} {ss = ss} e k) = trial_is v (Verdict.Hidden p ss) e (verdict_only js t.rule (try_range t) ring v (Verdict.Hidden p ss) j k)
  tried_trial ring v j x ks (Tried.free e k) = trial_is v Verdict.Free e (verdict_only js t.rule (try_range t) ring v Verdict.Free j k)

-- a try's answer, and the ranges for the next, found by search
abbrev pub tried_answer : List Range → Try → Trial
tried_answer js t = trial (try_fault t) (verdict js t.rule (try_range t))

abbrev pub tried_next : List Range → Try → List Range
tried_next js t = judged_next (try_fault t) (verdict js t.rule (try_range t)) (try_range t) js

pub tried_there : (js : List Range) (t : Try) → Ringless js → Tried js t (tried_answer js t) (tried_next js t)
tried_there js t ring = trial_tried js t (try_fault t) (verdict js t.rule (try_range t)) refl (verdict_judged js t.rule (try_range t) ring)

pub next_free : (js : List Range) (t : Try) → Ringless js → Ringless (tried_next js t)
next_free js t ring = next_ringless js t.rule (try_range t) (try_fault t) (verdict js t.rule (try_range t)) ring (verdict_judged js t.rule (try_range t) ring)

pub tried_only : (js : List Range) (t : Try) → Ringless js → (x : Trial) (ks : List Range) → Tried js t x ks → (x ≡ tried_answer js t) × (ks ≡ tried_next js t)
tried_only js t ring x ks a = tried_trial js t ring (verdict js t.rule (try_range t)) (verdict_judged js t.rule (try_range t) ring) x ks a

-- the answers of a rehearsal's tries, found by search
unfoldable pub rehearsed : List Try → List Range → List Trial
rehearsed [] js = []
rehearsed (t ∷ ts) js = tried_answer js t ∷ rehearsed ts (tried_next js t)

pub rehearsed_there : (ts : List Try) (js : List Range) → Ringless js → Rehearsed js ts (rehearsed ts js)
unfolding rehearsed
rehearsed_there [] js ring = Rehearsed.ended
rehearsed_there (t ∷ ts) js ring = Rehearsed.tries (tried_there js t ring) (rehearsed_there ts (tried_next js t) (next_free js t ring))

pub rehearsed_only : (ts : List Try) (js : List Range) → Ringless js → (xs : List Trial) → Rehearsed js ts xs → xs ≡ rehearsed ts js
unfolding rehearsed
rehearsed_only [] js ring xs Rehearsed.ended = refl
rehearsed_only (t ∷ ts) js ring xs (Rehearsed.tries {ks = ks} {x = x} {xs = ys} a p) =
    let is = tried_only js t ring x ks a in
    let head : x ≡ tried_answer js t = is.0 in
    let rest = rehearsed_only ts (tried_next js t) (next_free js t ring) ys (subst (λ (z : List Range). Rehearsed z ts ys) is.1 p) in
    λ i. head i ∷ rest i

pub one_rehearsal : OneRehearsal
one_rehearsal js ring ts = (rehearsed ts js, rehearsed_there ts js ring, λ xs' b. rehearsed_only ts js ring xs' b)
