-- What a join does to the distances: the hung set moves as one by the new entry, and all else stays.
use Rattle.std.proofs.Common.{◌≡◌, ℕ, zero, suc, ◌<◌, ◌≤◌, ◌⊎◌, List, map, length, get_or, set, sym, refl, ap, ◌∙◌, subst, inl, ⊎_elim, arith}
use Rattle.std.proofs.lemmas.List.{length-set, get_or-set_other}
use Rattle.std.proofs.lemmas.Bool.{cases_eq}
use Rattle.kinds.specs.Group.{Group}
use Rattle.links.specs.declared.row.Row.{Row}
use Rattle.links.specs.Ranges.{Range}
use Rattle.links.specs.declared.step.Step.{Step}
use Rattle.links.specs.declared.links.Links.{Links}
use Rattle.links.specs.Linked.{Listed, here, onward}
use Rattle.links.specs.Forest.{leader, ranges}
use Rattle.links.specs.Rows.{parent_at, number_by, number_at, hung, over, out}
use Rattle.links.specs.Joined.{joined, leader_of}
use Rattle.links.specs.Join.{Made}
use Rattle.links.proofs.History.{leader_cong}
use Rattle.links.proofs.Invariant.{sound, leaders_tell}
use Rattle.links.proofs.Making.{leader_free}
use Rattle.distances.specs.Distance.{entry, minus, distance_after, distance, amount}
use Rattle.distances.specs.Kept.{Laid}
use Rattle.distances.proofs.Entries.{entry_set, entry_kept}
use Rattle.distances.proofs.Groups.{swap, undone, minus_plus, minus_is, minus_shift}
use Rattle.distances.proofs.Far.{far_moved, far_stayed, far_cong}

ranges_length : (out : ℕ → Step) (t : ℕ) → length (ranges out t) ≡ t
unfolding ranges
ranges_length out zero = refl
ranges_length out (suc t) = ap suc (ranges_length out t)

module _ (links links' : Links) (a b h w : ℕ) (m : Made links links' a b h w) where
  pub one_more : links'.joins ≡ suc links.joins
  one_more =
      sym (ranges_length (out links'.rows) links'.joins)
      ∙ (ap length m.first ∙ ap suc (ranges_length (out links.rows) links.joins))

  -- the hung leader was not hung before
  free : 1024 ≤ number_at links.rows h
  free =
      ⊎_elim
      (λ (e : (leader_of links a ≡ h) × (leader_of links b ≡ w)).
      subst (λ v. 1024 ≤ number_at links.rows v) e.0 (leader_free links.rows links.joins a (sound links)))
      (λ (e : (leader_of links b ≡ h) × (leader_of links a ≡ w)).
      subst (λ v. 1024 ≤ number_at links.rows v) e.0 (leader_free links.rows links.joins b (sound links)))
      m.leaders

  number_h : number_at links'.rows h ≡ links.joins
  number_h = ap (λ (r : Row). number_by r.edge) m.hangs

  number_kept : (i : ℕ) → (i ≡ h → ⊥) → number_at links'.rows i ≡ number_at links.rows i
  number_kept i n =
      ⊎_elim
      (λ (e : i ≡ w).
      ap (number_at links'.rows) e
      ∙ (ap (λ (r : Row). number_by r.edge) m.grows ∙ ap (number_at links.rows) (sym e)))
      (λ (ne : i ≡ w → ⊥). ap (λ (r : Row). number_by r.edge) (m.rest i n ne))
      (cases_eq i w)

  parent_kept : (i : ℕ) → (i ≡ h → ⊥) → parent_at links'.rows i ≡ parent_at links.rows i
  parent_kept i n =
      ⊎_elim
      (λ (e : i ≡ w).
      ap (parent_at links'.rows) e ∙ (ap (λ (r : Row). r.parent) m.grows ∙ ap (parent_at links.rows) (sym e)))
      (λ (ne : i ≡ w → ⊥). ap (λ (r : Row). r.parent) (m.rest i n ne))
      (cases_eq i w)

  -- no earlier join hung h
  other : (t : ℕ) → t < links.joins → hung links.rows t ≡ h → ⊥
  other t l e =
      let n = links.found t l in
      let f = free in
      let few = links.few in
      let q = ap (number_at links.rows) e in
      omega arith

  hung_kept : (t : ℕ) → t < links.joins → hung links'.rows t ≡ hung links.rows t
  hung_kept t l =
      let i = hung links.rows t in
      let n : number_at links'.rows i ≡ t = number_kept i (other t l) ∙ links.found t l in
      let more = one_more in
      ap (hung links'.rows) (sym n) ∙ links'.once i (let z : number_at links'.rows i < links'.joins = omega arith in z)

  hung_new : hung links'.rows links.joins ≡ h
  hung_new =
      let n = number_h in
      let more = one_more in
      ap (hung links'.rows) (sym n) ∙ links'.once h (let z : number_at links'.rows h < links'.joins = omega arith in z)

  over_kept : (t : ℕ) → t < links.joins → over links'.rows t ≡ over links.rows t
  over_kept t l = ap (parent_at links'.rows) (hung_kept t l) ∙ parent_kept (hung links.rows t) (other t l)

  leader_kept : (x : ℕ) → leader (hung links'.rows) (over links'.rows) links.joins x ≡ leader_of links x
  leader_kept x =
      leader_cong (hung links.rows) (over links.rows) (hung links'.rows) (over links'.rows) links.joins x hung_kept
      over_kept

  module _ {V : Type 0} (G : Group V) (table table' : List V)
      (kept : (i : ℕ) → (i ≡ h → ⊥) → entry G table' i ≡ entry G table i) where
    far_old : (x : ℕ) → distance_after G (hung links'.rows) (over links'.rows) (entry G table') links.joins x
        ≡ distance G links table x
    far_old x =
        far_cong G (hung links.rows) (over links.rows) (hung links'.rows) (over links'.rows) (entry G table) (entry G table')
        links.joins x hung_kept over_kept (λ s l. kept (hung links.rows s) (other s l))

    -- the hung set moves by its leader's entry
    pub moved : (x : ℕ) → leader_of links x ≡ h → distance G links' table' x ≡ G.plus (entry G table' h) (distance G links table x)
    moved x e =
        ap (λ k. distance_after G (hung links'.rows) (over links'.rows) (entry G table') k x) one_more
        ∙ (far_moved G (hung links'.rows) (over links'.rows) (entry G table') links.joins x
        (leader_kept x ∙ (e ∙ sym hung_new))
        ∙ (λ i. G.plus (entry G table' (hung_new i)) (far_old x i)))

    -- every other boundary stays where it was
    pub stayed : (x : ℕ) → (leader_of links x ≡ h → ⊥) → distance G links' table' x ≡ distance G links table x
    stayed x n =
        ap (λ k. distance_after G (hung links'.rows) (over links'.rows) (entry G table') k x) one_more
        ∙ (far_stayed G (hung links'.rows) (over links'.rows) (entry G table') links.joins x
        (λ e. n (sym (leader_kept x) ∙ (e ∙ hung_new)))
        ∙ far_old x)

    pub old_amount : (r : Range) → Listed r (joined links) → amount G links' table' r ≡ amount G links table r
    old_amount r l =
        let one = (leaders_tell links r.low r.high).1 (onward r l (inl (refl, refl)) here) in
        ⊎_elim
        (λ (e : leader_of links r.low ≡ h).
        (λ i. minus G (moved r.high (sym one ∙ e) i) (moved r.low e i))
        ∙ minus_shift G (entry G table' h) (distance G links table r.high) (distance G links table r.low))
        (λ (n : leader_of links r.low ≡ h → ⊥).
        λ i. minus G (stayed r.high (λ e. n (one ∙ e)) i) (stayed r.low n i))
        (cases_eq (leader_of links r.low) h)

    module _ (sum rise : V)
        (rises : rise ≡ minus G (G.plus sum (distance G links table a)) (distance G links table b)) where
      lifted : G.plus rise (distance G links table b) ≡ G.plus sum (distance G links table a)
      lifted =
          ap (λ v. G.plus v (distance G links table b)) rises
          ∙ minus_plus G (G.plus sum (distance G links table a)) (distance G links table b)

      -- the set of the low end was hung
      pub new_low : leader_of links a ≡ h → entry G table' h ≡ G.inverse rise
          → amount G links' table' (record { low = a; high = b }) ≡ sum
      new_low e set =
          let da = distance G links table a in
          let db = distance G links table b in
          (λ i.
          minus G (stayed b (λ q. m.apart ((leaders_tell links a b).0 (e ∙ sym q))) i)
          ((moved a e ∙ ap (λ v. G.plus v da) set) i))
          ∙ minus_is G db (G.plus (G.inverse rise) da) sum
          (sym (undone G rise db) ∙ (ap (G.plus (G.inverse rise)) lifted ∙ swap G (G.inverse rise) sum da))

      -- the set of the high end was hung
      pub new_high : (leader_of links a ≡ h → ⊥) → entry G table' h ≡ rise
          → amount G links' table' (record { low = a; high = b }) ≡ sum
      new_high n set =
          let da = distance G links table a in
          let db = distance G links table b in
          let e : leader_of links b ≡ h = ⊎_elim
          (λ (p : (leader_of links a ≡ h) × (leader_of links b ≡ w)). absurd (n p.0))
          (λ (p : (leader_of links b ≡ h) × (leader_of links a ≡ w)). p.0)
          m.leaders in
          (λ i. minus G ((moved b e ∙ ap (λ v. G.plus v db) set) i) (stayed a n i)) ∙ minus_is G (G.plus rise db) da sum lifted

-- the entry of the hung leader lays the sum between the two sets: up from the high end's leader, or down from the low end's
pub laid : {K V : Type 0} (G : Group V) (meaning : K → V) (links links' : Links) (table table' : List K) (a b h w i : ℕ) (x : K)
    (sum rise : V) → Made links links' a b h w → 1024 ≤ length table → i < 1024 → i ≡ h → table' ≡ set table i x
    → rise ≡ minus G (G.plus sum (distance G links (map meaning table) a)) (distance G links (map meaning table) b)
    → ((leader_of links a ≡ h) × (meaning x ≡ G.inverse rise)) ⊎ ((leader_of links a ≡ h → ⊥) × (meaning x ≡ rise))
    → Laid G meaning links links' table table' a b h w sum
laid {K = K} G meaning links links' table table' a b h w i x sum rise m room below at after rises way =
    let vs = map meaning table in
    let vs' = map meaning table' in
    let put : table' ≡ set table h x = after ∙ ap (λ j. set table j x) at in
    let own : entry G vs' h ≡ meaning x =
    ap (λ (t : List K). entry G (map meaning t) h) put ∙ entry_set G meaning table h x (omega arith) in
    let kept : (j : ℕ) → (j ≡ h → ⊥) → entry G vs' j ≡ entry G vs j =
    λ j n. ap (λ (t : List K). entry G (map meaning t) j) put ∙ entry_kept G meaning table h j x n in
    record {
      room = room;
      made = m;
      new =
          ⊎_elim
          (λ (p : (leader_of links a ≡ h) × (meaning x ≡ G.inverse rise)).
          new_low links links' a b h w m G vs vs' kept sum rise rises p.0 (own ∙ p.1))
          (λ (p : (leader_of links a ≡ h → ⊥) × (meaning x ≡ rise)).
          new_high links links' a b h w m G vs vs' kept sum rise rises p.0 (own ∙ p.1))
          way;
      old = old_amount links links' a b h w m G vs vs' kept;
      long = ap length put ∙ length-set table h x;
      rest = λ j d n. ap (λ (t : List K). get_or t j d) put ∙ get_or-set_other table h j x d n;
    }
