-- What the joining releases keep when a query is asked. Assumes nothing.
use Rattle.std.proofs.Common.{◌≡◌, ℕ, ◌<◌, ◌≤◌, Bool, true, false, cond, eqb, ltb, leb, ◌⊎◌, List, [], ◌∷◌, length, Some, None, Option, sym, refl, subst, inl, inr, arith}
use Rattle.std.proofs.lemmas.Bool.{ltb-false, leb-false}
use Rattle.links.specs.Ranges.{Range}
use Rattle.links.specs.Linked.{Listed, Linked}
use Rattle.links.proofs.Labels.{linked_sym, linked_cases}
use Rattle.kinds.specs.Group.{Group}
use Rattle.stores.specs.Log.{Log}
use Rattle.ledger.specs.Rules.{Rule, Protected}
use Rattle.judgement.specs.Judgement.{Newly}
use Rattle.ledger.specs.Judgement.{Judged}
use Rattle.ledger.specs.declared.answer.Fault.{Fault}
use Rattle.ledger.specs.Answers.{counted}
use Rattle.ledger.specs.Machine.{Ledger, ranges, Query, asked, WellFormed, Outcome, Asked}
use Rattle.ledger.specs.Truth.{Within, TrueTo}
use Rattle.ledger.proofs.Sums.{Upward}

pub some_none : {A : Type 0} (o : Option A) (x : A) → o ≡ Some x → o ≡ None → ⊥
some_none o x e f = let z : ◌≡◌ {A = ℕ} 0 1 = cc in omega arith

pub passed : {A : Type 0} (b : Bool) (x : A) (o : Option A) → cond b (Some x) o ≡ None → (b ≡ false) × (o ≡ None)
passed true x o e = absurd (some_none (Some x) x refl e)
passed false x o e = (refl, e)

-- what a query that meets no fault has
pub record Formed {V : Type 0} (log : Log V) (q : Query) : Type 0 where
  pub short : log.slots ≤ 1023
  pub table : 1023 ≤ length q.table
  pub within : q.high ≤ log.slots
  pub forward : q.low < q.high

pub formed : {V : Type 0} (log : Log V) (s : Ledger V) (q : Query) → WellFormed log s q → Formed log q
formed log s q w =
    let a = passed (eqb (counted s.counts) 65535) Fault.Full _ w in
    let b = passed (ltb 1023 log.slots) Fault.LongLog _ a.1 in
    let c = passed (ltb s.distances 1024) Fault.FewDistances _ b.1 in
    let d = passed (ltb (length q.table) 1023) Fault.FewSteps _ c.1 in
    let e = passed (ltb log.slots q.high) Fault.Beyond _ d.1 in
    let f = passed (leb q.high q.low) Fault.Backward None e.1 in
    record {
      short = ltb-false 1023 log.slots b.0;
      table = ltb-false (length q.table) 1023 d.0;
      within = ltb-false log.slots q.high e.0;
      forward = leb-false q.high q.low f.0;
    }

-- a well-formed query is for a range within the log
pub well_formed_range : {V : Type 0} (log : Log V) (s : Ledger V) (q : Query) → WellFormed log s q → (q.low < q.high) × (q.high ≤ log.slots)
well_formed_range log s q w = ((formed log s q w).forward, (formed log s q w).within)

pub within_listed : (n : ℕ) (js : List Range) → Within n js → (x : Range) → Listed x js → (x.low < x.high) × (x.high ≤ n)
within_listed n [] w x m = absurd m
within_listed n (r ∷ js) w x (inl e) = subst (λ (y : Range). (y.low < y.high) × (y.high ≤ n)) (sym e) w.0
within_listed n (r ∷ js) w x (inr m) = within_listed n js w.1 x m

pub within_upward : (n : ℕ) (js : List Range) → Within n js → Upward js
within_upward n js w x m = let b = within_listed n js w x m in omega arith

-- all that ranges within the log link to another boundary lies within the log
pub within_linked : {n : ℕ} {js : List Range} {i j : ℕ} → Within n js → Linked js i j → (i ≡ j) ⊎ (i ≤ n)
within_linked w Linked.here = inl refl
within_linked {n} {js} w (Linked.onward r m (inl e) p) = let b = within_listed n js w r m in inr (omega arith)
within_linked {n} {js} w (Linked.onward r m (inr e) p) = let b = within_listed n js w r m in inr (omega arith)

module _ {V : Type 0} (G : Group V) (log : Log V) (rule : Rule) where
  pub sound_opened : TrueTo G log rule []
  sound_opened = record { ring = tt; within = tt; guarded = λ i j h p. absurd (unlinked i j h p); amounts = tt }
    where
      unlinked : (i j : ℕ) → i < j → Linked [] i j → ⊥
      unlinked i j h Linked.here = omega arith
      unlinked i j h (Linked.onward r m e p) = m

  pub sound_asked : (s : Ledger V) (q : Query) (o : Outcome V) → TrueTo G log rule s.joined → Asked G log rule s q o → TrueTo G log rule o.after.joined
  sound_asked s q o h (Asked.turned_back e) = h
  sound_asked s q o h (Asked.known e j) = h
  sound_asked s q o h (Asked.withheld e j) = h
  sound_asked s q o h (Asked.lost e j l) = h
  sound_asked s q o h (Asked.released e (Judged.free n w) k) =
      record {
        ring = (n, h.ring);
        within = (well_formed_range log s q e, h.within);
        guarded = λ i j lt p. elim (linked_cases (ranges s.joined) i j) [ inl old ↦ h.guarded i j lt old | inr apart ↦ w i j (record { ordered = lt; linked = p; apart = apart }) ];
        amounts = (refl, h.amounts);
      }

  -- the query's own range lies within the log too
  pub asked_within : (s : Ledger V) (q : Query) → TrueTo G log rule s.joined → WellFormed log s q → Within log.slots (asked q ∷ ranges s.joined)
  asked_within s q h w = (well_formed_range log s q w, h.within)

  -- a pair that the query newly links, with a yes, is a protected range of the log
  pub newly_protected : (s : Ledger V) (q : Query) (i j : ℕ) → TrueTo G log rule s.joined → WellFormed log s q → Newly (ranges s.joined) (asked q) i j → rule.says i j ≡ true → Protected log.slots rule i j
  newly_protected s q i j h w n y =
      record {
        ordered = n.ordered;
        within = elim (within_linked (asked_within s q h w) (linked_sym n.linked)) [ inl e ↦ absurd (omega (arith, n.ordered)) | inr le ↦ le ];
        said = y;
      }
