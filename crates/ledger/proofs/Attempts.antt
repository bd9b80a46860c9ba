-- What a judgement says of a try, as the machine has it. Assumes nothing.
use Rattle.std.proofs.Common.{◌≡◌, ℕ, ◌+◌, ◌<◌, ◌≤◌, false, List, [], ◌∷◌, ◌++◌, map, length, get_or, take, drop, set, Some, None, Option, sym, ap, ◌∙◌, subst, ⊎_elim, arith, drop-drop, drop-set-lt, take_all, MatchOption}
use mathlib.Core.List.{map-append}
use Rattle.std.proofs.lemmas.List.{take_more, take_more_set}
use Rattle.links.specs.declared.links.Links.{Links}
use Rattle.links.specs.declared.links.join.Hung.{Hung}
use Rattle.links.specs.Ranges.{Range}
use Rattle.links.specs.Join.{Made, Declined}
use Rattle.links.specs.Joined.{joined}
use Rattle.links.specs.Linked.{Linked}
use Rattle.links.proofs.Chained.{acyclic}
use Rattle.links.proofs.Paths.{path, released, with_new, earlier_path, chain_path}
use Rattle.judgement.specs.Judgement.{Newly, Named}
use Rattle.ledger.specs.declared.answer.Trial.{Trial}
use Rattle.ledger.specs.Judgement.{Judged}
use Rattle.ledger.specs.Machine.{Try, try_range, try_fault, Tried, Rehearsed}

-- what is said of links and two boundaries, said of their equals
pub moved : (P : Links → ℕ → ℕ → Type 0) {l l' : Links} {a a' b b' : ℕ} → l ≡ l' → a ≡ a' → b ≡ b' → P l a b → P l' a' b'
moved P {l} {l'} {a} {a'} {b} {b'} same low high x =
    subst (λ (y : ℕ). P l' a' y) high (subst (λ (y : ℕ). P l' y b) low (subst (λ (y : Links). P y a b) same x))

module _ (links : Links) (t : Try) (none : try_fault t ≡ None) where
  pub tried_linked : Linked (joined links) t.low t.high → Tried (joined links) t Trial.Free (joined links)
  tried_linked l =
      let found = earlier_path (joined links) (try_range t) (acyclic links).ringless t.low t.high l in
      Tried.known {ss = path (released (joined links)) t.low t.high} none (Judged.known l found.0 found.1)

  pub tried_withheld : (p : Range) → (Linked (joined links) t.low t.high → ⊥) → Named (joined links) t.rule.says (try_range t) p → Tried (joined links) t (Trial.Withheld p) (joined links)
  tried_withheld p apart named =
      Tried.withheld {ss = path (with_new (try_range t) (joined links)) p.low p.high} none
      (Judged.hidden apart named (chain_path (joined links) (try_range t) (apart, (acyclic links).ringless) p.low p.high named.newly.linked))

  -- a free try joins, since its ends are apart and in order
  pub tried_free : (links' : Links) (hung : Option Hung) → t.low < t.high → (Linked (joined links) t.low t.high → ⊥) → ((i j : ℕ) → Newly (joined links) (try_range t) i j → t.rule.says i j ≡ false) →
      MatchOption hung (Declined links links' t.low t.high) (λ h. Made links links' t.low t.high h.leader.index h.under.index) →
      Tried (joined links) t Trial.Free (joined links')
  tried_free links' None range apart nothing declined = absurd (⊎_elim (λ back. omega arith) apart declined.reason)
  tried_free links' (Some h) range apart nothing made = subst (Tried (joined links) t Trial.Free) (sym made.first) (Tried.free none (Judged.free apart nothing))

-- The tries answer one after another, and leave the ranges ks to judge the next by.
pub data Reaches : List Range → List Try → List Trial → List Range → Type 0 where
  none : {js : List Range} → Reaches js [] [] js
  more : {js ks ms : List Range} {t : Try} {ts : List Try} {x : Trial} {xs : List Trial} → Tried js t x ks → Reaches ks ts xs ms → Reaches js (t ∷ ts) (x ∷ xs) ms

-- one try more
pub reaches_more : {js ks ms : List Range} {t : Try} {ts : List Try} {x : Trial} {xs : List Trial} → Reaches js ts xs ks → Tried ks t x ms → Reaches js (ts ++ (t ∷ [])) (xs ++ (x ∷ [])) ms
reaches_more Reaches.none a = Reaches.more a Reaches.none
reaches_more (Reaches.more b r) a = Reaches.more b (reaches_more r a)

rehearsed_reaches : {js ks : List Range} {ts : List Try} {xs : List Trial} → Reaches js ts xs ks → Rehearsed js ts xs
rehearsed_reaches Reaches.none = Rehearsed.ended
rehearsed_reaches (Reaches.more a r) = Rehearsed.tries a (rehearsed_reaches r)

-- the same from links that are equal
pub rehearsed_from : {ks : List Range} {ts : List Try} {xs : List Trial} (l l' : Links) → l ≡ l' → Reaches (joined l) ts xs ks → Rehearsed (joined l') ts xs
rehearsed_from {ts = ts} {xs = xs} l l' same r = subst (λ (x : Links). Rehearsed (joined x) ts xs) same (rehearsed_reaches r)

-- the next try of a list, and its answer at its place in a table
pub reaches_next : {R : Type 0} (f : R → Try) {js ks ms : List Range} (ts : List R) (xs : List Trial) (i : ℕ) (t : R) (x : Trial) → i < length ts → i < length xs → t ≡ get_or ts i t →
    Reaches js (map f (take i ts)) (take i xs) ks → Tried ks (f t) x ms → Reaches js (map f (take (i + 1) ts)) (take (i + 1) (set xs i x)) ms
reaches_next {R} f {js} {ks} {ms} ts xs i t x here there is r a =
    let tries : map f (take i ts) ++ (f t ∷ []) ≡ map f (take (i + 1) ts) =
    sym (ap (map f) (take_more ts i t here) ∙ map-append f (take i ts) (get_or ts i t ∷ []) ∙ ap (λ (y : R). map f (take i ts) ++ (f y ∷ [])) (sym is)) in
    subst (λ (us : List Try). Reaches js us (take (i + 1) (set xs i x)) ms) tries
    (subst (λ (ys : List Trial). Reaches js (map f (take i ts) ++ (f t ∷ [])) ys ms) (sym (take_more_set xs i x there)) (reaches_more r a))

-- the first n tries of a list are all of its first n
pub all_reached : {R : Type 0} (f : R → Try) {js ks : List Range} (ts : List R) (xs : List Trial) (n i : ℕ) → length (take n ts) ≤ i → i ≡ n →
    Reaches js (map f (take i (take n ts))) (take i xs) ks → Reaches js (map f (take n ts)) (take n xs) ks
all_reached {R} f {js} {ks} ts xs n i whole end r =
    subst (λ (us : List R). Reaches js (map f us) (take n xs) ks) (take_all i (take n ts) whole)
    (subst (λ (m : ℕ). Reaches js (map f (take i (take n ts))) (take m xs) ks) end r)

-- what lies past a place stays when that place is set
pub drop_past : {X : Type 0} (xs ys : List X) (i : ℕ) (x : X) → drop i xs ≡ drop i ys → drop (i + 1) (set xs i x) ≡ drop (i + 1) ys
drop_past xs ys i x e = drop-set-lt (i + 1) xs i x (omega arith) ∙ sym (drop-drop 1 i xs) ∙ ap (drop 1) e ∙ drop-drop 1 i ys
