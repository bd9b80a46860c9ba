-- Over ranges that close no ring, exactly one chain without repeats joins two linked boundaries. Assumes nothing.
use Rattle.std.proofs.Common.{◌≡◌, ℕ, suc, cond, ◌⊎◌, List, [], ◌∷◌, ◌++◌, map, sym, refl, ap, ◌∙◌, subst, inl, inr}
use Rattle.std.proofs.lemmas.Bool.{cond-true, cond-false}
use Rattle.links.specs.Ranges.{Range}
use Rattle.links.specs.declared.step.Sign.{Sign}
use Rattle.links.specs.declared.step.Sign.TheVariants.{Plus, Minus}
use Rattle.links.specs.declared.step.Origin.{Origin}
use Rattle.links.specs.declared.step.Origin.TheVariants.{Released, New}
use Rattle.links.specs.declared.step.Step.{Step}
use Rattle.links.specs.Linked.{Listed, Ends, Linked}
use Rattle.links.specs.Chains.{range_of, start, end, Leads, Absent, Distinct, Source, Sourced, Chain}
use Rattle.links.specs.Rings.{Ringless, Earlier, new_with, new_steps}
use Rattle.links.proofs.Labels.{linked_trans, linked_sym, linked_same, linked_ways, linked?, linked_true, linked_false}

-- a range with where it comes from
pub record Edge : Type 0 where
  pub origin : Origin
  pub range : Range

abbrev pub In : Edge → List Edge → Type 0
In e [] = ⊥
In e (f ∷ es) = (e ≡ f) ⊎ In e es

abbrev pub edge_of : Step → Edge
edge_of s = record { origin = s.origin; range = range_of s }

abbrev pub Over : List Edge → List Step → Type 0
Over es [] = Unit {0}
Over es (s ∷ ss) = In (edge_of s) es × Over es ss

abbrev pub ranges : List Edge → List Range
ranges [] = []
ranges (e ∷ es) = e.range ∷ ranges es

-- a chain from i to j over the edges
abbrev pub Route : List Edge → ℕ → ℕ → List Step → Type 0
Route es i j ss = Leads ss i j × Over es ss × Distinct (i ∷ map end ss)

-- the step over an edge, up or down
abbrev pub step_over : Edge → Sign → Step
step_over e σ = record { low = e.range.low; high = e.range.high; sign = σ; origin = e.origin }

in_listed : (es : List Edge) (e : Edge) → In e es → Listed e.range (ranges es)
in_listed [] e m = m
in_listed (f ∷ es) e (inl q) = inl (ap (λ (x : Edge). x.range) q)
in_listed (f ∷ es) e (inr m) = inr (in_listed es e m)

sign_ends : (σ : Sign) (e : Edge) → Ends e.range (start (step_over e σ)) (end (step_over e σ))
sign_ends Plus e = inl (refl, refl)
sign_ends Minus e = inr (refl, refl)

linked_step : (es : List Edge) (s : Step) → In (edge_of s) es → Linked (ranges es) (start s) (end s)
linked_step es s m = Linked.onward (range_of s) (in_listed es (edge_of s) m) (sign_ends s.sign (edge_of s)) Linked.here

linked_leads : (es : List Edge) (i j : ℕ) (ss : List Step) → Leads ss i j → Over es ss → Linked (ranges es) i j
linked_leads es i j [] l o = linked_same l
linked_leads es i j (s ∷ ss) l o = linked_trans (subst (λ (x : ℕ). Linked (ranges es) x (end s)) l.0 (linked_step es s o.0)) (linked_leads es (end s) j ss l.1 o.1)

pub linked_route : (es : List Edge) (i j : ℕ) (ss : List Step) → Route es i j ss → Linked (ranges es) i j
linked_route es i j ss r = linked_leads es i j ss r.0 r.1

over_more : (e : Edge) (es : List Edge) (ss : List Step) → Over es ss → Over (e ∷ es) ss
over_more e es [] o = tt
over_more e es (s ∷ ss) o = (inr o.0, over_more e es ss o.1)

leads_join : (xs ys : List Step) (s : Step) (i j : ℕ) → Leads xs i (start s) → Leads ys (end s) j → Leads (xs ++ (s ∷ ys)) i j
leads_join [] ys s i j l k = (sym l, k)
leads_join (x ∷ xs) ys s i j l k = (l.0, leads_join xs ys s (end x) j l.1 k)

over_join : (es : List Edge) (xs ys : List Step) (s : Step) → Over es xs → In (edge_of s) es → Over es ys → Over es (xs ++ (s ∷ ys))
over_join es [] ys s o m p = (m, p)
over_join es (x ∷ xs) ys s o m p = (o.0, over_join es xs ys s o.1 m p)

-- a boundary that is not linked with k stands nowhere on a chain from k
absent_far : (es : List Edge) (i k j : ℕ) (ys : List Step) → Leads ys k j → Over es ys → (Linked (ranges es) i k → ⊥) → Absent i (k ∷ map end ys)
absent_far es i k j [] l o n = (λ e. n (linked_same e), tt)
absent_far es i k j (y ∷ ys) l o n = (λ e. n (linked_same e), absent_far es i (end y) j ys l.1 o.1 (λ p. n (linked_trans p (linked_sym (subst (λ (x : ℕ). Linked (ranges es) x (end y)) l.0 (linked_step es y o.0))))))

absent_join : (i : ℕ) (xs ys : List Step) (s : Step) → Absent i (map end xs) → Absent i (end s ∷ map end ys) → Absent i (map end (xs ++ (s ∷ ys)))
absent_join i [] ys s a b = b
absent_join i (x ∷ xs) ys s a b = (a.0, absent_join i xs ys s a.1 b)

absent_front : (i : ℕ) (xs ys : List Step) → Absent i (map end (xs ++ ys)) → Absent i (map end xs)
absent_front i [] ys a = tt
absent_front i (x ∷ xs) ys a = (a.0, absent_front i xs ys a.1)

distinct_join : (es : List Edge) (xs ys : List Step) (s : Step) (i m j : ℕ) → Leads xs i m → Over es xs → Distinct (i ∷ map end xs) → Leads ys (end s) j → Over es ys → Distinct (end s ∷ map end ys) → (Linked (ranges es) i (end s) → ⊥) → Distinct (i ∷ map end (xs ++ (s ∷ ys)))
distinct_join es [] ys s i m j l o d k p f n = (absent_far es i (end s) j ys k p n, f)
distinct_join es (x ∷ xs) ys s i m j l o d k p f n =
    let near : Linked (ranges es) i (end x) = subst (λ (t : ℕ). Linked (ranges es) t (end x)) l.0 (linked_step es x o.0) in
    ((d.0.0, absent_join i xs ys s d.0.1 (absent_far es i (end s) j ys k p n)), distinct_join es xs ys s (end x) m j l.1 o.1 d.1 k p f (λ q. n (linked_trans near q)))

-- one step over a new edge between two chains that the edges before do not link
route_join : (e : Edge) (es : List Edge) (σ : Sign) (xs ys : List Step) (i j : ℕ) → Route es i (start (step_over e σ)) xs → Route es (end (step_over e σ)) j ys → (Linked (ranges es) i (end (step_over e σ)) → ⊥) → Route (e ∷ es) i j (xs ++ (step_over e σ ∷ ys))
route_join e es σ xs ys i j p q n = (
  leads_join xs ys (step_over e σ) i j p.0 q.0,
  over_join (e ∷ es) xs ys (step_over e σ) (over_more e es xs p.1) (inl refl) (over_more e es ys q.1),
  distinct_join es xs ys (step_over e σ) i (start (step_over e σ)) j p.0 p.1 p.2 q.0 q.1 q.2 n,
)

-- the chain from i to j
unfoldable pub path : List Edge → ℕ → ℕ → List Step
path [] i j = []
path (e ∷ es) i j =
    cond (linked? (ranges es) i j) (path es i j) (cond (linked? (ranges es) i e.range.low)
    (path es i e.range.low ++ (step_over e Plus ∷ path es e.range.high j))
    (path es i e.range.high ++ (step_over e Minus ∷ path es e.range.low j)))

path_same : (e : Edge) (es : List Edge) (i j : ℕ) → Linked (ranges es) i j → path (e ∷ es) i j ≡ path es i j
unfolding path
path_same e es i j p = cond-true _ _ _ (linked_true (ranges es) i j p)

apart : (es : List Edge) (r : Range) (i j : ℕ) → (Linked (ranges es) r.low r.high → ⊥) → Linked (ranges es) i r.low → Linked (ranges es) r.high j → Linked (ranges es) i j → ⊥
apart es r i j n p q l = n (linked_trans (linked_sym p) (linked_trans l (linked_sym q)))

path_up : (e : Edge) (es : List Edge) (i j : ℕ) → (Linked (ranges es) e.range.low e.range.high → ⊥) → Linked (ranges es) i e.range.low → Linked (ranges es) e.range.high j → path (e ∷ es) i j ≡ path es i e.range.low ++ (step_over e Plus ∷ path es e.range.high j)
unfolding path
path_up e es i j n p q = cond-false _ _ _ (linked_false (ranges es) i j (apart es e.range i j n p q)) ∙ cond-true _ _ _ (linked_true (ranges es) i e.range.low p)

path_down : (e : Edge) (es : List Edge) (i j : ℕ) → (Linked (ranges es) e.range.low e.range.high → ⊥) → Linked (ranges es) i e.range.high → Linked (ranges es) e.range.low j → path (e ∷ es) i j ≡ path es i e.range.high ++ (step_over e Minus ∷ path es e.range.low j)
unfolding path
path_down e es i j n p q =
    cond-false _ _ _ (linked_false (ranges es) i j (λ l. n (linked_trans q (linked_trans (linked_sym l) p))))
    ∙ cond-false _ _ _ (linked_false (ranges es) i e.range.low (λ l. n (linked_trans (linked_sym l) p)))

pub path_route : (es : List Edge) → Ringless (ranges es) → (i j : ℕ) → Linked (ranges es) i j → Route es i j (path es i j)
unfolding path
path_route [] f i j p = (none p, tt, (tt, tt))
  where
    none : {a b : ℕ} → Linked [] a b → a ≡ b
    none Linked.here = refl
    none (Linked.onward r m e q) = absurd m
path_route (e ∷ es) f i j p = by (linked_ways (ranges es) e.range i j p) (path_route es f.1)
  where
    by : Linked (ranges es) i j ⊎ ((Linked (ranges es) i e.range.low × Linked (ranges es) e.range.high j) ⊎ (Linked (ranges es) i e.range.high × Linked (ranges es) e.range.low j)) → ((a b : ℕ) → Linked (ranges es) a b → Route es a b (path es a b)) → Route (e ∷ es) i j (path (e ∷ es) i j)
    by (inl l) ih = subst (Route (e ∷ es) i j) (sym (path_same e es i j l)) ((ih i j l).0, over_more e es (path es i j) (ih i j l).1, (ih i j l).2)
    by (inr (inl w)) ih = subst (Route (e ∷ es) i j) (sym (path_up e es i j f.0 w.0 w.1)) (route_join e es Plus (path es i e.range.low) (path es e.range.high j) i j (ih i e.range.low w.0) (ih e.range.high j w.1) (λ l. f.0 (linked_trans (linked_sym w.0) l)))
    by (inr (inr w)) ih = subst (Route (e ∷ es) i j) (sym (path_down e es i j f.0 w.0 w.1)) (route_join e es Minus (path es i e.range.high) (path es e.range.low j) i j (ih i e.range.high w.0) (ih e.range.low j w.1) (λ l. f.0 (linked_trans (linked_sym l) w.0)))

-- A chain over e and the edges before it that takes e once: what lies before that step, its sign, and what lies after.
record Once (e : Edge) (es : List Edge) (i j : ℕ) (ss : List Step) : Type 0 where
  front : List Step
  sign : Sign
  back : List Step
  whole : ss ≡ front ++ (step_over e sign ∷ back)
  before : Route es i (start (step_over e sign)) front
  after : Route es (end (step_over e sign)) j back

step_is : (s : Step) (e : Edge) → edge_of s ≡ e → s ≡ step_over e s.sign
step_is s e q = ap (λ (x : Edge). step_over x s.sign) q

absent_at : (i : ℕ) (xs ys : List Step) (s : Step) → Absent i (map end (xs ++ (s ∷ ys))) → i ≡ end s → ⊥
absent_at i [] ys s a = a.0
absent_at i (x ∷ xs) ys s a = absent_at i xs ys s a.1

-- two steps over one edge: the second ends where the first started or ended
second_end : (e : Edge) (σ τ : Sign) → (start (step_over e σ) ≡ end (step_over e τ)) ⊎ (end (step_over e σ) ≡ end (step_over e τ))
second_end e Plus Plus = inr refl
second_end e Plus Minus = inl refl
second_end e Minus Plus = inl refl
second_end e Minus Minus = inr refl

split_step : (e : Edge) (es : List Edge) (i j : ℕ) (s : Step) (ss : List Step) → start s ≡ i → Absent i (end s ∷ map end ss) → Distinct (end s ∷ map end ss) → In (edge_of s) (e ∷ es) → Route es (end s) j ss ⊎ Once e es (end s) j ss → Route es i j (s ∷ ss) ⊎ Once e es i j (s ∷ ss)
split_step e es i j s ss l a d (inr m) (inl r) = inl ((l, r.0), (m, r.1), (a, d))
split_step e es i j s ss l a d (inr m) (inr p) =
    inr (record {
      front = s ∷ p.front;
      sign = p.sign;
      back = p.back;
      whole = ap (λ (xs : List Step). s ∷ xs) p.whole;
      before = ((l, p.before.0), (m, p.before.1), ((a.0, absent_front i p.front (step_over e p.sign ∷ p.back) (subst (λ (xs : List Step). Absent i (map end xs)) p.whole a.1)), p.before.2));
      after = p.after;
    })
split_step e es i j s ss l a d (inl q) (inl r) =
    inr (record {
      front = [];
      sign = s.sign;
      back = ss;
      whole = ap (λ (x : Step). x ∷ ss) (step_is s e q);
      before = (sym l ∙ ap start (step_is s e q), tt, (tt, tt));
      after = subst (λ (x : Step). Route es (end x) j ss) (step_is s e q) r;
    })
split_step e es i j s ss l a d (inl q) (inr p) =
    let starts : start (step_over e s.sign) ≡ i = sym (ap start (step_is s e q)) ∙ l in
    let ends : end (step_over e s.sign) ≡ end s = sym (ap end (step_is s e q)) in
    let from-i : Absent i (map end (p.front ++ (step_over e p.sign ∷ p.back))) = subst (λ (xs : List Step). Absent i (map end xs)) p.whole a.1 in
    let from_end : Absent (end s) (map end (p.front ++ (step_over e p.sign ∷ p.back))) = subst (λ (xs : List Step). Absent (end s) (map end xs)) p.whole d.0 in
    absurd (elim (second_end e s.sign p.sign) [
      | inl c ↦ absent_at i p.front p.back (step_over e p.sign) from-i (sym starts ∙ c)
      | inr c ↦ absent_at (end s) p.front p.back (step_over e p.sign) from_end (sym ends ∙ c)
    ])

split : (e : Edge) (es : List Edge) (j : ℕ) (ss : List Step) (i : ℕ) → Route (e ∷ es) i j ss → Route es i j ss ⊎ Once e es i j ss
split e es j [] i r = inl (r.0, tt, r.2)
split e es j (s ∷ ss) i r = split_step e es i j s ss r.0.0 r.2.0 r.2.1 r.1.0 (split e es j ss (end s) (r.0.1, r.1.1, r.2.1))

pub path_only : (es : List Edge) → Ringless (ranges es) → (i j : ℕ) (ss : List Step) → Route es i j ss → ss ≡ path es i j
unfolding path
path_only [] f i j [] r = refl
path_only [] f i j (s ∷ ss) r = absurd r.1.0
path_only (e ∷ es) f i j ss r = by (split e es j ss i r) (path_only es f.1)
  where
    over : (σ : Sign) (xs ys : List Step) → Route es i (start (step_over e σ)) xs → Route es (end (step_over e σ)) j ys → xs ≡ path es i (start (step_over e σ)) → ys ≡ path es (end (step_over e σ)) j → xs ++ (step_over e σ ∷ ys) ≡ path (e ∷ es) i j
    over Plus xs ys p q u v = ap (λ (zs : List Step). zs ++ (step_over e Plus ∷ ys)) u ∙ ap (λ (zs : List Step). path es i e.range.low ++ (step_over e Plus ∷ zs)) v ∙ sym (path_up e es i j f.0 (linked_route es i e.range.low xs p) (linked_route es e.range.high j ys q))
    over Minus xs ys p q u v = ap (λ (zs : List Step). zs ++ (step_over e Minus ∷ ys)) u ∙ ap (λ (zs : List Step). path es i e.range.high ++ (step_over e Minus ∷ zs)) v ∙ sym (path_down e es i j f.0 (linked_route es i e.range.high xs p) (linked_route es e.range.low j ys q))

    by : Route es i j ss ⊎ Once e es i j ss → ((a b : ℕ) (zs : List Step) → Route es a b zs → zs ≡ path es a b) → ss ≡ path (e ∷ es) i j
    by (inl p) ih = ih i j ss p ∙ sym (path_same e es i j (linked_route es i j ss p))
    by (inr p) ih = p.whole ∙ over p.sign p.front p.back p.before p.after (ih i (start (step_over e p.sign)) p.front p.before) (ih (end (step_over e p.sign)) j p.back p.after)

-- the ranges of js as earlier releases
abbrev pub released : List Range → List Edge
released [] = []
released (r ∷ js) = record { origin = Released; range = r } ∷ released js

-- the ranges of js as earlier releases, and the query q
abbrev pub with_new : Range → List Range → List Edge
with_new q js = record { origin = New; range = q } ∷ released js

pub ranges_released : (js : List Range) → ranges (released js) ≡ js
ranges_released [] = refl
ranges_released (r ∷ js) = ap (λ (xs : List Range). r ∷ xs) (ranges_released js)

in_released : (js : List Range) (r : Range) → Listed r js → In (record { origin = Released; range = r }) (released js)
in_released [] r m = m
in_released (s ∷ js) r (inl e) = inl (ap (λ (x : Range). record { origin = Released; range = x }) e)
in_released (s ∷ js) r (inr m) = inr (in_released js r m)

source_in : (js : List Range) (q : Range) (s : Step) (o : Origin) → Source js q o (range_of s) → In (record { origin = o; range = range_of s }) (with_new q js)
source_in js q s Released m = inr (in_released js (range_of s) m)
source_in js q s New e = inl (ap (λ (x : Range). record { origin = New; range = x }) e)

sourced_over : (js : List Range) (q : Range) (ss : List Step) → Sourced js q ss → Over (with_new q js) ss
sourced_over js q [] o = tt
sourced_over js q (s ∷ ss) o = (source_in js q s s.origin o.0, sourced_over js q ss o.1)

abbrev OriginIs : Edge → List Range → Range → Type 0
OriginIs e js q = Source js q e.origin e.range

origin_in : (js : List Range) (e : Edge) → In e (released js) → e.origin ≡ Released
origin_in [] e m = absurd m
origin_in (r ∷ js) e (inl p) = ap (λ (x : Edge). x.origin) p
origin_in (r ∷ js) e (inr m) = origin_in js e m

in_source : (js : List Range) (q : Range) (e : Edge) → In e (released js) → OriginIs e js q
in_source js q e m = subst (λ (x : Origin). Source js q x e.range) (sym (origin_in js e m)) (subst (Listed e.range) (ranges_released js) (in_listed (released js) e m))

over_sourced : (js : List Range) (q : Range) (ss : List Step) → Over (with_new q js) ss → Sourced js q ss
over_sourced js q [] o = tt
over_sourced js q (s ∷ ss) o = (by o.0, over_sourced js q ss o.1)
  where
    by : In (edge_of s) (with_new q js) → Source js q s.origin (range_of s)
    by (inl p) = subst (λ (x : Edge). OriginIs x js q) (sym p) refl
    by (inr m) = in_source js q (edge_of s) m

earlier_over : (js : List Range) (q : Range) (ss : List Step) → Earlier ss → Sourced js q ss → Over (released js) ss
earlier_over js q [] e o = tt
earlier_over js q (s ∷ ss) e o = (by s.origin e.0 o.0, earlier_over js q ss e.1 o.1)
  where
    by : (x : Origin) → x ≡ Released → Source js q x (range_of s) → In (record { origin = x; range = range_of s }) (released js)
    by x p h = subst (λ (y : Origin). In (record { origin = y; range = range_of s }) (released js)) (sym p) (in_released js (range_of s) (subst (λ (y : Origin). Source js q y (range_of s)) p h))

over_earlier : (js : List Range) (ss : List Step) → Over (released js) ss → Earlier ss
over_earlier js [] o = tt
over_earlier js (s ∷ ss) o = (origin_in js (edge_of s) o.0, over_earlier js ss o.1)

chain_ringless : (js : List Range) (q : Range) → Ringless (q ∷ js) → Ringless (ranges (with_new q js))
chain_ringless js q f = subst (λ (xs : List Range). Ringless (q ∷ xs)) (sym (ranges_released js)) f

-- a chain over the query and the ranges before it links its ends by them
pub chain_linked : (js : List Range) (q : Range) (i j : ℕ) (ss : List Step) → Chain js q i j ss → Linked (q ∷ js) i j
chain_linked js q i j ss c = subst (λ (xs : List Range). Linked (q ∷ xs) i j) (ranges_released js) (linked_leads (with_new q js) i j ss c.0 (sourced_over js q ss c.1))

-- boundaries linked by the query and the ranges before it have a chain
pub chain_path : (js : List Range) (q : Range) → Ringless (q ∷ js) → (i j : ℕ) → Linked (q ∷ js) i j → Chain js q i j (path (with_new q js) i j)
chain_path js q f i j p =
    let r : Route (with_new q js) i j (path (with_new q js) i j) = path_route (with_new q js) (chain_ringless js q f) i j (subst (λ (xs : List Range). Linked (q ∷ xs) i j) (sym (ranges_released js)) p) in
    (r.0, over_sourced js q (path (with_new q js) i j) r.1, r.2)

-- and only one
pub chain_only : (js : List Range) (q : Range) → Ringless (q ∷ js) → (i j : ℕ) (ss zs : List Step) → Chain js q i j ss → Chain js q i j zs → ss ≡ zs
chain_only js q f i j ss zs c d =
    path_only (with_new q js) (chain_ringless js q f) i j ss (c.0, sourced_over js q ss c.1, c.2)
    ∙ sym (path_only (with_new q js) (chain_ringless js q f) i j zs (d.0, sourced_over js q zs d.1, d.2))

-- the same of the earlier ranges alone
pub earlier_path : (js : List Range) (q : Range) → Ringless js → (i j : ℕ) → Linked js i j → Chain js q i j (path (released js) i j) × Earlier (path (released js) i j)
earlier_path js q f i j p =
    let r : Route (released js) i j (path (released js) i j) = path_route (released js) (subst Ringless (sym (ranges_released js)) f) i j (subst (λ (xs : List Range). Linked xs i j) (sym (ranges_released js)) p) in
    ((r.0, over_sourced js q (path (released js) i j) (over_more (record { origin = New; range = q }) (released js) (path (released js) i j) r.1), r.2), over_earlier js (path (released js) i j) r.1)

pub earlier_only : (js : List Range) (q : Range) → Ringless js → (i j : ℕ) (ss zs : List Step) → Chain js q i j ss → Earlier ss → Chain js q i j zs → Earlier zs → ss ≡ zs
earlier_only js q f i j ss zs c e d g =
    path_only (released js) (subst Ringless (sym (ranges_released js)) f) i j ss (c.0, earlier_over js q ss e c.1, c.2)
    ∙ sym (path_only (released js) (subst Ringless (sym (ranges_released js)) f) i j zs (d.0, earlier_over js q zs g d.1, d.2))

earlier_none : (ss : List Step) → Earlier ss → new_steps ss ≡ 0
earlier_none [] e = refl
earlier_none (s ∷ ss) e = ap (λ (o : Origin). new_with o (new_steps ss)) e.0 ∙ earlier_none ss e.1

new_append : (xs ys : List Step) → Earlier xs → new_steps (xs ++ ys) ≡ new_steps ys
new_append [] ys e = refl
new_append (x ∷ xs) ys e = ap (λ (o : Origin). new_with o (new_steps (xs ++ ys))) e.0 ∙ new_append xs ys e.1

-- a chain between boundaries that only the query links goes over it just once
pub chain_new_once : (js : List Range) (q : Range) (i j : ℕ) (ss : List Step) → (Linked js i j → ⊥) → Chain js q i j ss → new_steps ss ≡ 1
chain_new_once js q i j ss n c = by (split (record { origin = New; range = q }) (released js) j ss i (c.0, sourced_over js q ss c.1, c.2))
  where
    by : Route (released js) i j ss ⊎ Once (record { origin = New; range = q }) (released js) i j ss → new_steps ss ≡ 1
    by (inl r) = absurd (n (subst (λ (xs : List Range). Linked xs i j) (ranges_released js) (linked_route (released js) i j ss r)))
    by (inr p) =
        ap new_steps p.whole
        ∙ new_append p.front (step_over (record { origin = New; range = q }) p.sign ∷ p.back) (over_earlier js p.front p.before.1)
        ∙ ap suc (earlier_none p.back (over_earlier js p.back p.after.1))
