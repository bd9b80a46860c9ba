-- One call after another makes a list of calls, as the machine runs it. Assumes nothing.
use Rattle.std.proofs.Common.{◌≡◌, ℕ, suc, ◌+◌, ◌<◌, ◌≤◌, min, Bool, List, [], ◌∷◌, ◌++◌, map, length, get_or, take, sym, refl, ap, ◌∙◌, subst, ⊎_elim, arith, length-append, length-take, take_all}
use mathlib.Core.List.{map-append}
use native.Mathlib.Nat.{min-eq_left, min-eq_right}
use lib.Seq.{take-length}
use Rattle.std.proofs.lemmas.List.{take_more}
use Rattle.std.proofs.lemmas.Bool.{cases_lt}
use Rattle.kinds.specs.Group.{Group}
use Rattle.links.specs.declared.links.Links.{Links}
use Rattle.links.specs.Ranges.{Range}
use Rattle.links.specs.declared.step.Step.{Step}
use Rattle.links.specs.Joined.{joined}
use Rattle.rules.specs.Ordered.{Ordered}
use Rattle.stores.specs.Log.{Log}
use Rattle.ledger.specs.declared.answer.Answer.{Answer}
use Rattle.ledger.specs.declared.answer.Counts.{Counts}
use Rattle.ledger.specs.declared.answer.Trial.{Trial}
use Rattle.ledger.specs.Machine.{Ledger, opened, ranges, Try, Rehearsed}
use Rattle.ledger.specs.Rules.{Rule}
use Rattle.ledger.specs.State.{valued_answer, state_of, Queried}
use Rattle.ledger.proofs.Releases.{ranges_of}
use Rattle.audit.specs.declared.call.Call.{Call as Said}
use Rattle.audit.specs.Course.{valued_reply, table_after, table_left, call_made, calls_made, Told, Performed, Ran}
use Rattle.audit.specs.Runs.{Call, Reply, Runs}

module _ {K V S : Type 0} (G : Group V) (meaning : K → V) (log : Log V) (rule : Rule) (hears : S → Reply K → S → Type 0) (made : List Step → Call) (links links' : Links) (counts counts' told : Counts) (s s' : S) where
  pub performed_query : (table table' : List V) (steps steps' : List Step) (low high : ℕ) (answer : Answer K) → made steps ≡ Call.Ask (record { low = low; high = high; table = steps }) → told ≡ counts' →
      Queried G log rule links links' table table' counts counts' steps steps' low high (valued_answer meaning answer) → hears s (Reply.Answered answer steps' told) s' →
      Performed G meaning log rule hears made (state_of G links table counts) (state_of G links' table' counts') steps steps' s s'
  performed_query table table' steps steps' low high answer is same asked heard =
      record {
        reply = Reply.Answered answer steps' counts';
        heard = subst (λ (c : Counts). hears s (Reply.Answered answer steps' c) s') same heard;
        left = refl;
        ran = subst (λ (c : Call). Runs G log rule (state_of G links table counts) (c ∷ []) (Reply.Answered (valued_answer meaning answer) steps' counts' ∷ []) (state_of G links' table' counts')) (sym is) (Runs.asks asked Runs.done);
      }

  pub performed_rehearsal : (table : List V) (steps : List Step) (ts : List Try) (xs : List Trial) → made steps ≡ Call.Rehearse ts → links' ≡ links → counts' ≡ counts → told ≡ counts' →
      Rehearsed (joined links) ts xs → hears s (Reply.Tried xs told) s' →
      Performed G meaning log rule hears made (state_of G links table counts) (state_of G links' table counts') steps steps s s'
  performed_rehearsal table steps ts xs is links_same Counts-same same tried heard =
      let before = state_of G links table counts in
      let judged : Rehearsed (ranges before.joined) ts xs = subst (λ (js : List Range). Rehearsed js ts xs) (sym (ranges_of G links table)) tried in
      let ran : Runs G log rule before (Call.Rehearse ts ∷ []) (Reply.Tried xs counts ∷ []) before = Runs.rehearses judged Runs.done in
      record {
        reply = Reply.Tried xs counts;
        heard = subst (λ (c : Counts). hears s (Reply.Tried xs c) s') (same ∙ Counts-same) heard;
        left = refl;
        ran = subst (λ (c : Call). Runs G log rule before (c ∷ []) (Reply.Tried xs counts ∷ []) (state_of G links' table counts')) (sym is)
            (subst (λ (e : Ledger V). Runs G log rule before (Call.Rehearse ts ∷ []) (Reply.Tried xs counts ∷ []) e) (λ i. state_of G (sym links_same i) table (sym Counts-same i)) ran);
      }

-- as many elements as there are or as there is room for
pub take_min : {X : Type 0} (xs : List X) (room : ℕ) → take (min (length xs) room) xs ≡ take room xs
take_min xs room =
    ⊎_elim
    (λ (less : room < length xs). let le : room ≤ length xs = omega arith in ap (λ (k : ℕ). take k xs) (min-eq_right le))
    (λ (all : length xs ≤ room). ap (λ (k : ℕ). take k xs) (min-eq_left all) ∙ take-length xs ∙ sym (take_all room xs all))
    (cases_lt room (length xs))

module _ {V : Type 0} (G : Group V) (log : Log V) (rule : Rule) where
  -- a list of calls and then one more
  pub run_more : {s m e : Ledger V} {cs ds : List Call} {rs us : List (Reply V)} → Runs G log rule s cs rs m → Runs G log rule m ds us e → Runs G log rule s (cs ++ ds) (rs ++ us) e
  run_more Runs.done q = q
  run_more (Runs.asks a p) q = Runs.asks a (run_more p q)
  run_more (Runs.rehearses a p) q = Runs.rehearses a (run_more p q)

pub left_more : {K : Type 0} (table : List Step) (rs : List (Reply K)) (r : Reply K) → table_left table (rs ++ (r ∷ [])) ≡ table_after (table_left table rs) r
left_more table [] r = refl
left_more table (x ∷ rs) r = left_more (table_after table x) rs r

module _ {R K : Type 0} (protects : R → ℕ → ℕ → Bool) (ordered : (rule : R) → Ordered (protects rule)) (room : ℕ) where
  pub made_more : (table : List Step) (cs : List (Said R)) (c : Said R) (rs : List (Reply K)) (r : Reply K) → length cs ≡ length rs → calls_made protects ordered room table (cs ++ (c ∷ [])) (rs ++ (r ∷ [])) ≡ calls_made protects ordered room table cs rs ++ (call_made protects ordered room (table_left table rs) c ∷ [])
  made_more table [] c [] r e = refl
  made_more table [] c (x ∷ rs) r e = absurd (let z : 0 ≡ suc (length rs) = e in omega arith)
  made_more table (d ∷ cs) c [] r e = absurd (let z : suc (length cs) ≡ 0 = e in omega arith)
  made_more table (d ∷ cs) c (x ∷ rs) r e = ap (λ (ys : List Call). call_made protects ordered room table d ∷ ys) (made_more (table_after table x) cs c rs r (let z : suc (length cs) ≡ suc (length rs) = e in omega arith))

module _ {K V S R : Type 0} (G : Group V) (meaning : K → V) (log : Log V) (rule : Rule) (hears : S → Reply K → S → Type 0) (protects : R → ℕ → ℕ → Bool) (ordered : (rule : R) → Ordered (protects rule)) (room : ℕ) (calls : List (Said R)) (first : Ledger V) (steps : List Step) (s : S) where
  -- the first i calls drew some replies, which were told, and left the ledger e and the table
  abbrev pub IsSoFar : ℕ → Ledger V → List Step → S → Type 0
  IsSoFar i e table t =
      (rs : List (Reply K)) × (length rs ≡ i) × Told hears s rs t × (table ≡ table_left steps rs)
      × Runs G log rule first (calls_made protects ordered room steps (take i calls) rs) (map (valued_reply meaning) rs) e

  pub far_none : IsSoFar 0 first steps s
  far_none = ([], refl, Told.none, refl, Runs.done)

  pub far_next : (i : ℕ) (call : Said R) (before after : Ledger V) (table table' : List Step) (t t' : S) → i < length calls → call ≡ get_or calls i call →
      IsSoFar i before table t → Performed G meaning log rule hears (λ x. call_made protects ordered room x call) before after table table' t t' → IsSoFar (i + 1) after table' t'
  far_next i call before after table table' t t' here is far p =
      let rs = far.0 in
      let many : length rs ≡ i = far.1 in
      let r = p.reply in
      let front : length (take i calls) ≡ length rs = omega (arith, length-take i calls) in
      let taken : take (i + 1) calls ≡ take i calls ++ (call ∷ []) = take_more calls i call here ∙ ap (λ (c : Said R). take i calls ++ (c ∷ [])) (sym is) in
      let made : calls_made protects ordered room steps (take (i + 1) calls) (rs ++ (r ∷ [])) ≡ calls_made protects ordered room steps (take i calls) rs ++ (call_made protects ordered room table call ∷ []) =
      ap (λ (cs : List (Said R)). calls_made protects ordered room steps cs (rs ++ (r ∷ []))) taken
      ∙ made_more protects ordered room steps (take i calls) call rs r front
      ∙ ap (λ (x : List Step). calls_made protects ordered room steps (take i calls) rs ++ (call_made protects ordered room x call ∷ [])) (sym far.3) in (
        rs ++ (r ∷ []),
        omega (arith, length-append rs (r ∷ [])),
        Told.next far.2 p.heard,
        p.left ∙ ap (λ (x : List Step). table_after x r) far.3 ∙ sym (left_more steps rs r),
        subst (λ (cs : List Call). Runs G log rule first cs (map (valued_reply meaning) (rs ++ (r ∷ []))) after) (sym made)
            (subst (λ (us : List (Reply V)). Runs G log rule first (calls_made protects ordered room steps (take i calls) rs ++ (call_made protects ordered room table call ∷ [])) us after) (sym (map-append (valued_reply meaning) rs (r ∷ [])))
            (run_more G log rule far.4 p.ran)),
      )

  pub far_all : (d : ℕ) (counts : Counts) (e : Ledger V) (table : List Step) (t : S) (i : ℕ) → first ≡ opened d → i ≡ length calls → counts ≡ e.counts → IsSoFar i e table t → Ran G meaning log rule hears d (length calls) (λ x rs. calls_made protects ordered room x calls rs) steps table s t counts
  far_all d counts e table t i begun all closed far =
      let whole : take i calls ≡ calls = ap (λ (k : ℕ). take k calls) all ∙ take-length calls in
      record {
        replies = far.0;
        end = e;
        each = far.1 ∙ all;
        told = far.2;
        left = far.3;
        ran = subst (λ (f : Ledger V). Runs G log rule f (calls_made protects ordered room steps calls far.0) (map (valued_reply meaning) far.0) e) begun
            (subst (λ (cs : List (Said R)). Runs G log rule first (calls_made protects ordered room steps cs far.0) (map (valued_reply meaning) far.0) e) whole far.4);
        closed = closed;
      }
