-- A join keeps the invariant: one leader's row is hung below another's, whose size grows, and all other rows stay.
use Rattle.std.proofs.Common.{◌≡◌, ℕ, zero, suc, ◌+◌, ◌<◌, ◌≤◌, cond, eqb, List, ◌∷◌, length, set, is_some, Some, sym, refl, ap, ◌∙◌, subst, ⊎_elim, arith}
use Rattle.std.proofs.lemmas.List.{length-set, get_or-set_same, get_or-set_other}
use Rattle.std.proofs.lemmas.Bool.{cases_lt, cases_eq, eqb-true, eq-eqb}
use Rattle.links.specs.declared.step.Step.{Step}
use Rattle.links.specs.declared.row.Edge.{Edge}
use Rattle.links.specs.declared.row.Row.{Row}
use Rattle.links.specs.Chains.{range_of, start, end}
use Rattle.links.specs.Forest.{leader, ranges}
use Rattle.links.specs.Rows.{row_at, parent_at, size_at, number_by, number_at, step_by, hung, over, out, leader_at, members_at}
use Rattle.links.specs.Join.{Joins, Hangs}
use Rattle.links.proofs.History.{Grown, leader_cong}
use Rattle.links.proofs.Counts.{pick_only}
use Rattle.links.proofs.Sets.{members_cong, members_joined, members_kept, members_two, joins_few}
use Rattle.links.proofs.Sound.{Sound, hung_below}

pub ranges_cong : (out out' : ℕ → Step) (t : ℕ) → ((s : ℕ) → s < t → out' s ≡ out s) → ranges out' t ≡ ranges out t
unfolding ranges
ranges_cong out out' zero e = refl
ranges_cong out out' (suc t) e =
    let ih = ranges_cong out out' t (λ s h. e s (omega arith)) in
    λ i. range_of (e t (let z : t < suc t = omega arith in z) i) ∷ ih i

-- the row whose join number is t is the one that join t hung
pub hung_only : (rows : List Row) (t i : ℕ) → i < 1024 → number_at rows i ≡ t → ((j : ℕ) → number_at rows j ≡ t → j ≡ i)
    → hung rows t ≡ i
unfolding hung
hung_only rows t i l e u = pick_only (λ j. eqb (number_at rows j) t) i 1024 l (eq-eqb _ _ e) (λ j h. u j (eqb-true _ _ h))

module _ (rows rows' : List Row) (k h w : ℕ) (e : Edge) (s : Sound rows k) (a : Joins rows k h w e) (d : Hangs rows rows' h w e) where
  number_h : number_at rows' h ≡ k
  number_h = ap (λ (r : Row). number_by r.edge) d.hangs ∙ a.next

  number_other : (i : ℕ) → (i ≡ h → ⊥) → number_at rows' i ≡ number_at rows i
  number_other i ne =
      ⊎_elim
      (λ (q : i ≡ w).
      ap (number_at rows') q ∙ (ap (λ (r : Row). number_by r.edge) d.grows ∙ ap (number_at rows) (sym q)))
      (λ (nw : i ≡ w → ⊥). ap (λ (r : Row). number_by r.edge) (d.rest i ne nw))
      (cases_eq i w)

  parent_h : parent_at rows' h ≡ w
  parent_h = ap (λ (r : Row). r.parent) d.hangs

  parent_other : (i : ℕ) → (i ≡ h → ⊥) → parent_at rows' i ≡ parent_at rows i
  parent_other i ne =
      ⊎_elim
      (λ (q : i ≡ w). ap (parent_at rows') q ∙ (ap (λ (r : Row). r.parent) d.grows ∙ ap (parent_at rows) (sym q)))
      (λ (nw : i ≡ w → ⊥). ap (λ (r : Row). r.parent) (d.rest i ne nw))
      (cases_eq i w)

  edge_other : (i : ℕ) → (i ≡ h → ⊥) → (row_at rows' i).edge ≡ (row_at rows i).edge
  edge_other i ne =
      ⊎_elim
      (λ (q : i ≡ w).
      ap (λ j. (row_at rows' j).edge) q ∙ (ap (λ (r : Row). r.edge) d.grows ∙ ap (λ j. (row_at rows j).edge) (sym q)))
      (λ (nw : i ≡ w → ⊥). ap (λ (r : Row). r.edge) (d.rest i ne nw))
      (cases_eq i w)

  hung_not_h : (t : ℕ) → t < k → hung rows t ≡ h → ⊥
  hung_not_h t l q =
      let f = s.found t l in
      let m = ap (number_at rows) q in
      let b = a.h_leads in
      let c = s.few in
      omega arith

  hung_old : (t : ℕ) → t < k → hung rows' t ≡ hung rows t
  hung_old t l =
      hung_only rows' t (hung rows t) (hung_below rows t) (number_other (hung rows t) (hung_not_h t l) ∙ s.found t l)
      (λ j q.
      let nh : j ≡ h → ⊥ = λ p. let m = ap (number_at rows') p in let b = number_h in omega arith in
      let m = number_other j nh in
      let v : number_at rows j ≡ t = omega arith in
      sym (s.once j (let z : number_at rows j < k = omega arith in z)) ∙ ap (hung rows) v)

  hung_new : hung rows' k ≡ h
  hung_new =
      hung_only rows' k h a.h_in number_h
      (λ j q.
      ⊎_elim (λ (p : j ≡ h). p)
      (λ (ne : j ≡ h → ⊥).
      let m = number_other j ne in
      let f = s.few in
      let b = s.numbered j (let z : number_at rows j < 1024 = omega arith in z) in
      absurd (omega arith))
      (cases_eq j h))

  over_old : (t : ℕ) → t < k → over rows' t ≡ over rows t
  over_old t l = ap (parent_at rows') (hung_old t l) ∙ parent_other (hung rows t) (hung_not_h t l)

  over_new : over rows' k ≡ w
  over_new = ap (parent_at rows') hung_new ∙ parent_h

  out_old : (t : ℕ) → t < k → out rows' t ≡ out rows t
  out_old t l =
      ap (λ i. step_by (row_at rows' i).edge) (hung_old t l) ∙ ap step_by (edge_other (hung rows t) (hung_not_h t l))

  out_new : out rows' k ≡ step_by (Some e)
  out_new = ap (λ i. step_by (row_at rows' i).edge) hung_new ∙ ap (λ (r : Row). step_by r.edge) d.hangs

  leader_old : (t x : ℕ) → t ≤ k → leader_at rows' t x ≡ leader_at rows t x
  leader_old t x l =
      leader_cong (hung rows) (over rows) (hung rows') (over rows') t x
      (λ s h. hung_old s (omega arith))
      (λ s h. over_old s (omega arith))

  -- the newest join comes first, and the older ones stay
  pub ranges_joined : ranges (out rows') (suc k) ≡ record { low = e.low; high = e.high } ∷ ranges (out rows) k
  unfolding ranges
  ranges_joined =
      let more = ranges_cong (out rows) (out rows') k out_old in
      λ i. range_of (out_new i) ∷ more i

  -- the members of the hung set change their leader, and no one else does
  pub leader_joined : (x : ℕ) → leader_at rows' (suc k) x ≡ cond (eqb (leader_at rows k x) h) w (leader_at rows k x)
  unfolding leader
  leader_joined x =
      let old = leader_old k x (omega arith) in
      λ i. cond (eqb (old i) (hung_new i)) (over_new i) (old i)

  grown_joined : Grown (parent_at rows') (number_at rows') (hung rows') (suc k)
  grown_joined =
      record {
        found =
            λ t l.
            ⊎_elim
            (λ (o : t < k).
            ap (number_at rows') (hung_old t o) ∙ (number_other (hung rows t) (hung_not_h t o) ∙ s.found t o))
            (λ (o : k ≤ t).
            let q : t ≡ k = omega arith in
            ap (λ t. number_at rows' (hung rows' t)) q ∙ (ap (number_at rows') hung_new ∙ (number_h ∙ sym q)))
            (cases_lt t k);
        once =
            λ i l.
            ⊎_elim
            (λ (q : i ≡ h).
            ap (λ i. hung rows' (number_at rows' i)) q ∙ (ap (hung rows') number_h ∙ (hung_new ∙ sym q)))
            (λ (ne : i ≡ h → ⊥).
            let m = number_other i ne in
            let f = s.few in
            let b = s.numbered i (let z : number_at rows i < 1024 = omega arith in z) in
            ap (hung rows') m ∙ (hung_old (number_at rows i) b ∙ s.once i b))
            (cases_eq i h);
        rising =
            λ i l.
            ⊎_elim
            (λ (q : i ≡ h).
            let a1 = ap (number_at rows') q in
            let a2 = number_h in
            let a3 = ap (λ i. number_at rows' (parent_at rows' i)) q in
            let a4 = ap (number_at rows') parent_h in
            let a5 = number_other w (λ z. a.two (sym z)) in
            let a6 = a.w_leads in
            let a7 = s.few in
            let z : number_at rows' i < number_at rows' (parent_at rows' i) = omega arith in
            z)
            (λ (ne : i ≡ h → ⊥).
            let m = number_other i ne in
            let f = s.few in
            let b = s.numbered i (let z : number_at rows i < 1024 = omega arith in z) in
            let p = ap (number_at rows') (parent_other i ne) in
            let r = s.rising i b in
            ⊎_elim
            (λ (q : parent_at rows i ≡ h).
            let a1 = ap (number_at rows') q in
            let a2 = number_h in
            let z : number_at rows' i < number_at rows' (parent_at rows' i) = omega arith in
            z)
            (λ (nq : parent_at rows i ≡ h → ⊥).
            let a1 = number_other (parent_at rows i) nq in
            let z : number_at rows' i < number_at rows' (parent_at rows' i) = omega arith in
            z)
            (cases_eq (parent_at rows i) h))
            (cases_eq i h);
      }

  few_joined : suc k < 1024
  few_joined =
      joins_few (parent_at rows') (number_at rows') (hung rows') (suc k) 1024 w grown_joined (λ t l. hung_below rows' t) a.w_in
      (let m = number_other w (λ z. a.two (sym z)) in
      let b = a.w_leads in
      let f = s.few in
      let z : suc k ≤ number_at rows' w = omega arith in
      z)

  apart_new : hung rows' k ≡ over rows' k → ⊥
  apart_new q = a.two (sym hung_new ∙ (q ∙ over_new))

  members_old : (v : ℕ) → members_at rows' k v ≡ members_at rows k v
  members_old v = members_cong (hung rows) (over rows) (hung rows') (over rows') 1024 k v hung_old over_old

  sized_joined : (i : ℕ) → i < 1024 → 1024 ≤ number_at rows' i → size_at rows' i ≡ members_at rows' (suc k) i
  sized_joined i l b =
      ⊎_elim
      (λ (q : i ≡ w).
      let both : members_at rows' (suc k) w ≡ members_at rows' k h + members_at rows' k w =
      ap (members_at rows' (suc k)) (sym over_new)
      ∙ (members_joined (hung rows') (over rows') 1024 k apart_new
      ∙ (λ i. members_at rows' k (hung_new i) + members_at rows' k (over_new i))) in
      let sh = s.sized h a.h_in a.h_leads in
      let sw = s.sized w a.w_in a.w_leads in
      let mh = members_old h in
      let mw = members_old w in
      let grew = ap (λ (r : Row). r.size) d.grows in
      ap (size_at rows') q ∙ ((let z : size_at rows' w ≡ members_at rows' (suc k) w = omega arith in z) ∙ ap (members_at rows' (suc k)) (sym q)))
      (λ (nw : i ≡ w → ⊥).
      let nh : i ≡ h → ⊥ = λ q. let m = ap (number_at rows') q in let n = number_h in let f = s.few in omega arith in
      let m = number_other i nh in
      ap (λ (r : Row). r.size) (d.rest i nh nw)
      ∙ (s.sized i l (let z : 1024 ≤ number_at rows i = omega arith in z)
      ∙ (sym (members_old i)
      ∙ sym
      (members_kept (hung rows') (over rows') 1024 k apart_new i (λ q. nh (q ∙ hung_new)) (λ q. nw (q ∙ over_new))))))
      (cases_eq i w)

  pub sound_joined : Sound rows' (suc k)
  sound_joined =
      record {
        long = d.long;
        inside =
            λ i.
            ⊎_elim
            (λ (q : i ≡ h).
            let a1 = ap (parent_at rows') q in
            let a2 = parent_h in
            let a3 = a.w_in in
            let z : parent_at rows' i < 1024 = omega arith in
            z)
            (λ (ne : i ≡ h → ⊥).
            let a1 = parent_other i ne in
            let a2 = s.inside i in
            let z : parent_at rows' i < 1024 = omega arith in
            z)
            (cases_eq i h);
        few = few_joined;
        numbered =
            λ i l.
            ⊎_elim
            (λ (q : i ≡ h). let a1 = ap (number_at rows') q in let a2 = number_h in let z : number_at rows' i < suc k = omega arith in z)
            (λ (ne : i ≡ h → ⊥).
            let m = number_other i ne in
            let b = s.numbered i (let z : number_at rows i < 1024 = omega arith in z) in
            let z : number_at rows' i < suc k = omega arith in
            z)
            (cases_eq i h);
        rising = grown_joined.rising;
        bare =
            λ i b.
            let nh : i ≡ h → ⊥ = λ q. let m = ap (number_at rows') q in let n = number_h in let f = s.few in omega arith in
            let m = number_other i nh in
            ap is_some (edge_other i nh) ∙ s.bare i (let z : 1024 ≤ number_at rows i = omega arith in z);
        own =
            λ i l b.
            let nh : i ≡ h → ⊥ = λ q. let m = ap (number_at rows') q in let n = number_h in let f = s.few in omega arith in
            let m = number_other i nh in
            parent_other i nh ∙ s.own i l (let z : 1024 ≤ number_at rows i = omega arith in z);
        found = grown_joined.found;
        once = grown_joined.once;
        near =
            λ t l.
            ⊎_elim
            (λ (o : t < k).
            leader_old t (start (out rows' t)) (omega arith)
            ∙ (ap (λ x. leader_at rows t (start x)) (out_old t o) ∙ (s.near t o ∙ sym (hung_old t o))))
            (λ (o : k ≤ t).
            let q : k ≡ t = omega arith in
            subst (λ t. leader_at rows' t (start (out rows' t)) ≡ hung rows' t) q
            (leader_old k (start (out rows' k)) (omega arith)
            ∙ (ap (λ x. leader_at rows k (start x)) out_new ∙ (a.from ∙ sym hung_new))))
            (cases_lt t k);
        far =
            λ t l.
            ⊎_elim
            (λ (o : t < k).
            leader_old t (end (out rows' t)) (omega arith)
            ∙ (ap (λ x. leader_at rows t (end x)) (out_old t o) ∙ (s.far t o ∙ sym (over_old t o))))
            (λ (o : k ≤ t).
            let q : k ≡ t = omega arith in
            subst (λ t. leader_at rows' t (end (out rows' t)) ≡ over rows' t) q
            (leader_old k (end (out rows' k)) (omega arith)
            ∙ (ap (λ x. leader_at rows k (end x)) out_new ∙ (a.into ∙ sym over_new))))
            (cases_lt t k);
        ordered =
            λ t l.
            ⊎_elim
            (λ (o : t < k). subst (λ (x : Step). x.low < x.high) (sym (out_old t o)) (s.ordered t o))
            (λ (o : k ≤ t).
            let q : k ≡ t = omega arith in
            subst (λ t. (out rows' t).low < (out rows' t).high) q
            (subst (λ (x : Step). x.low < x.high) (sym out_new) a.low_high))
            (cases_lt t k);
        ended =
            λ t l.
            ⊎_elim
            (λ (o : t < k). subst (λ (x : Step). x.high < 1024) (sym (out_old t o)) (s.ended t o))
            (λ (o : k ≤ t).
            let q : k ≡ t = omega arith in
            subst (λ t. (out rows' t).high < 1024) q (subst (λ (x : Step). x.high < 1024) (sym out_new) a.high_in))
            (cases_lt t k);
        sized = sized_joined;
      }

-- two writes, of the row of h and then of that of w, make such rows
module _ (rows : List Row) (h w i j : ℕ) (e : Edge) (rh rw : Row) (long : length rows ≡ 1024) (h_in : h < 1024) (w_in : w < 1024)
    (two : h ≡ w → ⊥) (hi : i ≡ h) (wj : j ≡ w) where
  first_at : row_at (set rows i rh) w ≡ row_at rows w
  first_at = get_or-set_other rows i w rh _ (λ q. two (sym (q ∙ hi)))

  pub row_before : row_at (set rows i rh) j ≡ row_at rows w
  row_before = ap (row_at (set rows i rh)) wj ∙ first_at

  pub two_writes : rh ≡ record { parent = w; size = size_at rows h; edge = Some e }
      → rw ≡ record { parent = (row_at (set rows i rh) j).parent; size = (row_at (set rows i rh) j).size + size_at rows h; edge = (row_at (set rows i rh) j).edge }
      → Hangs rows (set (set rows i rh) j rw) h w e
  two_writes eh ew =
      let rows₁ : List Row = set rows i rh in
      let rows₂ : List Row = set rows₁ j rw in
      let long₁ : length rows₁ ≡ 1024 = length-set rows i rh ∙ long in
      let i-in : i < length rows = omega arith in
      let j-in : j < length rows₁ = omega arith in
      let same : row_at rows₁ h ≡ rh = ap (row_at rows₁) (sym hi) ∙ get_or-set_same rows i rh _ i-in in
      record {
        long = length-set rows₁ j rw ∙ long₁;
        hangs = get_or-set_other rows₁ j h rw _ (λ q. two (q ∙ wj)) ∙ (same ∙ eh);
        grows =
            ap (row_at rows₂) (sym wj)
            ∙ (get_or-set_same rows₁ j rw _ j-in
            ∙ (ew ∙ ap (λ (r : Row). record { parent = r.parent; size = r.size + size_at rows h; edge = r.edge }) row_before));
        rest =
            λ x nh nw. get_or-set_other rows₁ j x rw _ (λ q. nw (q ∙ wj)) ∙ get_or-set_other rows i x rh _ (λ q. nh (q ∙ hi));
      }

-- the sizes of two leaders add to no more than there are boundaries
pub sizes_fit : (rows : List Row) (k h w : ℕ) (e : Edge) → Sound rows k → Joins rows k h w e → size_at rows w + size_at rows h ≤ 1024
sizes_fit rows k h w e s a =
    let sh = s.sized h a.h_in a.h_leads in
    let sw = s.sized w a.w_in a.w_leads in
    let both = members_two (hung rows) (over rows) 1024 k h w a.two in
    omega arith
