-- What the joining releases of a list of calls keep, and how they stand to the released ranges. Assumes nothing.
use Rattle.std.proofs.Common.{◌≡◌, ℕ, ◌≤◌, ◌⊎◌, List, ◌∷◌, sym, refl, subst, inl, inr, arith}
use Rattle.links.specs.Ranges.{Range}
use Rattle.links.specs.Linked.{Listed, Linked}
use Rattle.links.proofs.Labels.{linked_range}
use Rattle.kinds.specs.Group.{Group}
use Rattle.stores.specs.Log.{Log}
use Rattle.ledger.specs.declared.answer.Answer.{Answer}
use Rattle.ledger.specs.Judgement.{Judged}
use Rattle.ledger.specs.Machine.{Ledger, ranges, Query, asked, Outcome, Asked}
use Rattle.ledger.specs.Rules.{Rule}
use Rattle.ledger.specs.Truth.{TrueTo}
use Rattle.ledger.proofs.Standing.{well_formed_range, sound_asked}
use Rattle.audit.specs.Runs.{Call, Reply, reply_of, Runs}
use Rattle.audit.specs.Laws.{releases}

module _ {V : Type 0} (G : Group V) (log : Log V) (rule : Rule) where
  pub sound_run : {s e : Ledger V} {cs : List Call} {rs : List (Reply V)} → TrueTo G log rule s.joined → Runs G log rule s cs rs e → TrueTo G log rule e.joined
  sound_run h Runs.done = h
  sound_run h (Runs.asks {s = s} {q = q} {o = o} a p) = sound_run (sound_asked G log rule s q o h a) p
  sound_run h (Runs.rehearses a p) = sound_run h p

  -- a query keeps what was joined
  kept_asked : (s : Ledger V) (q : Query) (o : Outcome V) → Asked G log rule s q o → (x : Range) → Listed x (ranges s.joined) → Listed x (ranges o.after.joined)
  kept_asked s q o (Asked.turned_back e) x m = m
  kept_asked s q o (Asked.known e j) x m = m
  kept_asked s q o (Asked.withheld e j) x m = m
  kept_asked s q o (Asked.lost e j l) x m = m
  kept_asked s q o (Asked.released e j k) x m = inr m

  pub kept_run : {s e : Ledger V} {cs : List Call} {rs : List (Reply V)} → Runs G log rule s cs rs e → (x : Range) → Listed x (ranges s.joined) → Listed x (ranges e.joined)
  kept_run Runs.done x m = m
  kept_run (Runs.asks {s = s} {q = q} {o = o} a p) x m = kept_run p x (kept_asked s q o a x m)
  kept_run (Runs.rehearses a p) x m = kept_run p x m

linked_kept : {js ks : List Range} → ((x : Range) → Listed x js → Listed x ks) → {i j : ℕ} → Linked js i j → Linked ks i j
linked_kept f Linked.here = Linked.here
linked_kept f (Linked.onward r m e p) = Linked.onward r (f r m) e (linked_kept f p)

-- x runs upward between two linked boundaries
abbrev pub Covered : Range → List Range → Type 0
Covered x js = (x.low ≤ x.high) × Linked js x.low x.high

module _ {V : Type 0} (G : Group V) (log : Log V) (rule : Rule) where
  -- what has joined in the end had joined before or was released
  pub joined_released : {s e : Ledger V} {cs : List Call} {rs : List (Reply V)} → Runs G log rule s cs rs e → (x : Range) → Listed x (ranges e.joined) → Listed x (ranges s.joined) ⊎ Listed x (releases cs rs)
  joined_released Runs.done x m = inl m
  joined_released (Runs.asks {s = s} {q = q} {o = o} {cs = cs} {rs = rs} a p) x m = by o a (joined_released p x m)
    where
      by : (o : Outcome V) → Asked G log rule s q o → Listed x (ranges o.after.joined) ⊎ Listed x (releases cs rs) → Listed x (ranges s.joined) ⊎ Listed x (releases (Call.Ask q ∷ cs) (reply_of o ∷ rs))
      by o (Asked.turned_back e) h = h
      by o (Asked.known e j) (inl h) = inl h
      by o (Asked.known e j) (inr h) = inr (inr h)
      by o (Asked.withheld e j) h = h
      by o (Asked.lost e j l) h = h
      by o (Asked.released e j k) (inl (inl h)) = inr (inl h)
      by o (Asked.released e j k) (inl (inr h)) = inl h
      by o (Asked.released e j k) (inr h) = inr (inr h)
  joined_released (Runs.rehearses a p) x m = joined_released p x m

  covered_asked : (s : Ledger V) (q : Query) (o : Outcome V) → Asked G log rule s q o → (v : V) → o.answer ≡ Answer.Released v → Covered (asked q) (ranges o.after.joined)
  covered_asked s q o (Asked.turned_back {f = f} e) v w = absurd (let z : ◌≡◌ {A = ℕ} 0 1 = cc in omega arith)
  covered_asked s q o (Asked.known e (Judged.known l c k)) v w = (let b = well_formed_range log s q e in omega arith, l)
  covered_asked s q o (Asked.withheld e j) v w = absurd (let z : ◌≡◌ {A = ℕ} 0 1 = cc in omega arith)
  covered_asked s q o (Asked.lost e j l) v w = absurd (let z : ◌≡◌ {A = ℕ} 0 1 = cc in omega arith)
  covered_asked s q o (Asked.released e j k) v w = (let b = well_formed_range log s q e in omega arith, linked_range (asked q) (inl refl))

  -- every released range is covered in the end
  pub released_covered : {s e : Ledger V} {cs : List Call} {rs : List (Reply V)} → Runs G log rule s cs rs e → (x : Range) → Listed x (releases cs rs) → Covered x (ranges e.joined)
  released_covered Runs.done x m = absurd m
  released_covered {e = e} (Runs.asks {s = s} {q = q} {o = o} {cs = cs} {rs = rs} a p) x m = by o.answer refl m (released_covered p x)
    where
      by : (b : Answer V) → o.answer ≡ b → Listed x (releases (Call.Ask q ∷ cs) (Reply.Answered b o.table o.after.counts ∷ rs)) → (Listed x (releases cs rs) → Covered x (ranges e.joined)) → Covered x (ranges e.joined)
      by (Answer.Released v) w (inl h) ih =
          let c = covered_asked s q o a v w in
          subst (λ (y : Range). Covered y (ranges e.joined)) (sym h) (c.0, linked_kept (kept_run G log rule p) c.1)
      by (Answer.Released v) w (inr h) ih = ih h
      by (Answer.Withheld y k) w h ih = ih h
      by (Answer.LostSlot k) w h ih = ih h
      by (Answer.Refused f) w h ih = ih h
  released_covered (Runs.rehearses a p) x m = released_covered p x m
