-- The three laws of every list of calls, and the truth of its sums and chains. Assumes nothing.
use Rattle.std.proofs.Common.{◌≡◌, ℕ, ◌<◌, false, List, ◌∷◌, sym, refl, ◌∙◌, subst, inl, inr, arith}
use Rattle.std.proofs.lemmas.Bool.{both_ways}
use Rattle.links.specs.Ranges.{Range}
use Rattle.links.specs.Linked.{Listed, Linked}
use Rattle.links.proofs.Labels.{linked_trans, linked_sym, linked_ways, linked_cases}
use Rattle.kinds.specs.Group.{Group}
use Rattle.stores.specs.Log.{Log}
use Rattle.stores.specs.Sums.{range_sum}
use Rattle.audit.specs.Readings.{with_readings}
use Rattle.ledger.specs.Rules.{Rule}
use Rattle.judgement.specs.Judgement.{Newly}
use Rattle.ledger.specs.Judgement.{Judged}
use Rattle.ledger.specs.Machine.{Ledger, ranges, Query, asked, fault, WellFormed, Outcome, joining, Asked}
use Rattle.audit.specs.Runs.{Call, Reply, Runs}
use Rattle.audit.specs.Laws.{Alike, releases, GivesAway, IsWithheld, WithheldExactly, AnyValue}
use Rattle.ledger.specs.Truth.{TrueTo}
use Rattle.ledger.proofs.Sums.{Upward, cancel}
use Rattle.audit.proofs.Potentials.{linked_alike, any_sum}
use Rattle.ledger.proofs.Standing.{some_none, within_upward, sound_opened, asked_within, newly_protected}
use Rattle.audit.proofs.Standing.{sound_run, kept_run, joined_released, Covered, released_covered}

module _ {V : Type 0} (G : Group V) (log : Log V) (rule : Rule) where
  withheld_gives : (s : Ledger V) (q : Query) (o : Outcome V) (given : List Range) → TrueTo G log rule s.joined → ((x : Range) → Listed x (ranges s.joined) → Listed x given) → Asked G log rule s q o → IsWithheld o.answer → GivesAway G log.slots rule given (asked q)
  withheld_gives s q o given h known (Asked.turned_back e) t = absurd t
  withheld_gives s q o given h known (Asked.known e j) t = absurd t
  withheld_gives s q o given h known (Asked.withheld {p = p} e (Judged.hidden n m c)) t = (
    p.low,
    p.high,
    newly_protected G log rule s q p.low p.high h e m.newly m.said,
    λ r r' alike here. linked_alike G (asked q ∷ ranges s.joined) (within_upward log.slots (asked q ∷ ranges s.joined) (asked_within G log rule s q h e)) r r' (both r r' alike here) p.low p.high (let o : p.low < p.high = m.newly.ordered in omega arith) m.newly.linked,
  )
    where
      both : (r r' : ℕ → V) → ((x : Range) → Listed x given → Alike G r r' x.low x.high) → Alike G r r' q.low q.high → (x : Range) → Listed x (asked q ∷ ranges s.joined) → Alike G r r' x.low x.high
      both r r' alike here x (inl e) = subst (λ (y : Range). Alike G r r' y.low y.high) (sym e) here
      both r r' alike here x (inr m) = alike x (known x m)
  withheld_gives s q o given h known (Asked.lost e j l) t = absurd t
  withheld_gives s q o given h known (Asked.released e j k) t = absurd t

  -- a range given away is linked by the query and the joining releases
  gives_linked : (s : Ledger V) (q : Query) (given : List Range) → TrueTo G log rule s.joined → ((x : Range) → Listed x given → Covered x (ranges s.joined)) → WellFormed log s q → (g : GivesAway G log.slots rule given (asked q)) → Linked (asked q ∷ ranges s.joined) g.0 g.1
  gives_linked s q given h covered w g = elim (linked_cases (asked q ∷ ranges s.joined) g.0 g.1) [ inl l ↦ l | inr n ↦ absurd (free n) ]
    where
      r : ℕ → V
      r k = G.zero

      v : V
      v = G.plus (range_sum G r g.0 g.1) G.unit

      up : Upward (ranges s.joined)
      up = within_upward log.slots (ranges s.joined) h.within

      free : (Linked (asked q ∷ ranges s.joined) g.0 g.1 → ⊥) → ⊥
      free n =
          let a = any_sum G (asked q ∷ ranges s.joined) (within_upward log.slots (asked q ∷ ranges s.joined) (asked_within G log rule s q h w)) g.0 g.1 (let o : g.0 < g.1 = g.2.ordered in omega arith) n r v in
          let same : Alike G r a.0 g.0 g.1 = g.3 r a.0 (λ x m. linked_alike G (ranges s.joined) up r a.0 (λ y k. a.1 y (inr k)) x.low x.high (covered x m).0 (covered x m).1) (a.1 (asked q) (inl refl)) in
          G.proper (sym (cancel G (range_sum G r g.0 g.1) G.zero G.unit (G.zero_right (range_sum G r g.0 g.1) ∙ same ∙ a.2)))

  gives_withheld : (s : Ledger V) (q : Query) (o : Outcome V) (given : List Range) → TrueTo G log rule s.joined → ((x : Range) → Listed x given → Covered x (ranges s.joined)) → WellFormed log s q → Asked G log rule s q o → GivesAway G log.slots rule given (asked q) → IsWithheld o.answer
  gives_withheld s q o given h covered w a g = by o a (gives_linked s q given h covered w g)
    where
      already : Linked (ranges s.joined) g.0 g.1 → ⊥
      already l = both_ways (rule.says g.0 g.1) (h.guarded g.0 g.1 g.2.ordered l) g.2.said

      new : ((i j : ℕ) → Newly (ranges s.joined) (asked q) i j → rule.says i j ≡ false) → Linked (asked q ∷ ranges s.joined) g.0 g.1 → ⊥
      new none l = both_ways (rule.says g.0 g.1) (none g.0 g.1 (record { ordered = g.2.ordered; linked = l; apart = already })) g.2.said

      by : (o : Outcome V) → Asked G log rule s q o → Linked (asked q ∷ ranges s.joined) g.0 g.1 → IsWithheld o.answer
      by o (Asked.turned_back {f = f} e) l = absurd (some_none (fault s log.slots q) f e w)
      by o (Asked.known e (Judged.known k c d)) l =
          absurd (already (elim (linked_ways (ranges s.joined) (asked q) g.0 g.1 l) [
            | inl p ↦ p
            | inr (inl p) ↦ linked_trans p.0 (linked_trans k p.1)
            | inr (inr p) ↦ linked_trans p.0 (linked_trans (linked_sym k) p.1)
          ]))
      by o (Asked.withheld e k) l = tt
      by o (Asked.lost e (Judged.free n none) k) l = absurd (new none l)
      by o (Asked.released e (Judged.free n none) k) l = absurd (new none l)

pub withheld_exactly : {V : Type 0} (G : Group V) → WithheldExactly G
withheld_exactly {V} G log rule d calls replies e run p w =
    let h : TrueTo G log rule p.ledger.joined = sound_run G log rule (sound_opened G log rule) p.ran in (
      withheld_gives G log rule p.ledger p.query p.outcome (releases p.before p.earlier) h (λ x m. elim (joined_released G log rule p.ran x m) [ inl z ↦ absurd z | inr k ↦ k ]) p.asks,
      gives_withheld G log rule p.ledger p.query p.outcome (releases p.before p.earlier) h (released_covered G log rule p.ran) w p.asks,
    )

module _ {V : Type 0} (G : Group V) (log : Log V) (rule : Rule) (r' : ℕ → V) where
  -- the run's joining releases sum to the same over r'
  abbrev Agrees : List Range → Type 0
  Agrees js = (x : Range) → Listed x js → Alike G log.reading r' x.low x.high

  same_asked : (s : Ledger V) (q : Query) (o : Outcome V) → Agrees (ranges o.after.joined) → Asked G log rule s q o → Asked G (with_readings log r') rule s q o
  same_asked s q o agrees (Asked.turned_back e) = Asked.turned_back e
  same_asked s q o agrees (Asked.known e j) = Asked.known e j
  same_asked s q o agrees (Asked.withheld e j) = Asked.withheld e j
  same_asked s q o agrees (Asked.lost e j l) = Asked.lost e j l
  same_asked s q o agrees (Asked.released e j k) = subst (λ (v : V). Asked G (with_readings log r') rule s q (joining s q v)) (sym (agrees (asked q) (inl refl))) (Asked.released e j k)

  same_run : {s e : Ledger V} {cs : List Call} {rs : List (Reply V)} → Agrees (ranges e.joined) → Runs G log rule s cs rs e → Runs G (with_readings log r') rule s cs rs e
  same_run agrees Runs.done = Runs.done
  same_run agrees (Runs.asks {s = s} {q = q} {o = o} a p) = Runs.asks (same_asked s q o (λ x m. agrees x (kept_run G log rule p x m)) a) (same_run agrees p)
  same_run agrees (Runs.rehearses a p) = Runs.rehearses a (same_run agrees p)

pub any_value : {V : Type 0} (G : Group V) → AnyValue G
any_value {V} G log rule d calls replies e run i j p v =
    let h : TrueTo G log rule e.joined = sound_run G log rule (sound_opened G log rule) run in
    let apart : Linked (ranges e.joined) i j → ⊥ = λ l. both_ways (rule.says i j) (h.guarded i j p.ordered l) p.said in
    let a = any_sum G (ranges e.joined) (within_upward log.slots (ranges e.joined) h.within) i j (let o : i < j = p.ordered in omega arith) apart log.reading v in
    (a.0, e, same_run G log rule a.0 a.1 run, a.2)
