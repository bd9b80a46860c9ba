-- From the rows that a join wrote to what the join did.
use Rattle.std.proofs.Common.{◌≡◌, ℕ, suc, ◌+◌, ◌<◌, ◌≤◌, cond, List, ◌∷◌, Some, sym, refl, ap, ◌∙◌, subst, inl, inr, add-one, arith}
use Rattle.std.proofs.lemmas.Bool.{cases_lt, eq-eqb, ne_eqb}
use Rattle.links.specs.declared.step.Sign.TheVariants.{Plus, Minus}
use Rattle.links.specs.declared.row.Edge.{Edge}
use Rattle.links.specs.declared.row.Row.{Row}
use Rattle.links.specs.declared.links.Links.{Links}
use Rattle.links.specs.Linked.{Linked}
use Rattle.links.specs.Forest.{ranges}
use Rattle.links.specs.Rows.{size_at, parent_at, number_at, hung, out, leader_at}
use Rattle.links.specs.Joined.{joined, leader_of}
use Rattle.links.specs.Join.{Yields, Leaders, edge_for, Made, Joins, Hangs}
use Rattle.links.proofs.History.{leads}
use Rattle.links.proofs.Sound.{Sound, grown}
use Rattle.links.proofs.Invariant.{sound, leaders_tell}
use Rattle.links.proofs.Joining.{ranges_joined, leader_joined}

-- a leader's row has no edge
pub leader_free : (rows : List Row) (k i : ℕ) → Sound rows k → 1024 ≤ number_at rows (leader_at rows k i)
leader_free rows k i s =
    let up = leads (parent_at rows) (number_at rows) (hung rows) k (grown rows k s) k i (omega arith) in
    let v = leader_at rows k i in
    let few = s.few in
    let z : 1024 ≤ number_at rows v =
    elim (cases_lt (number_at rows v) 1024) [ inl l ↦ (let b = s.numbered v l in absurd (omega arith)) | inr g ↦ g ] in
    z

module _ (links : Links) (a b low high x y : ℕ) (la : low ≡ a) (hb : high ≡ b) (ax : x ≡ leader_of links a) (by : y ≡ leader_of links b)
    (x-in : x < 1024) (y-in : y < 1024) (two : x ≡ y → ⊥) (range : low < high) (high_in : high < 1024) where
  free_a : 1024 ≤ number_at links.rows x
  free_a = subst (λ v. 1024 ≤ number_at links.rows v) (sym ax) (leader_free links.rows links.joins a (sound links))

  free_b : 1024 ≤ number_at links.rows y
  free_b = subst (λ v. 1024 ≤ number_at links.rows v) (sym by) (leader_free links.rows links.joins b (sound links))

  -- the leader of the low end may be hung by a step up, that of the high end by a step down
  pub joins_up : Joins links.rows links.joins x y (record { low = low; high = high; sign = Plus; number = links.joins })
  joins_up =
      record {
        h_in = x-in;
        w_in = y-in;
        h_leads = free_a;
        w_leads = free_b;
        two = two;
        next = refl;
        from = ap (leader_of links) la ∙ sym ax;
        into = ap (leader_of links) hb ∙ sym by;
        low_high = range;
        high_in = high_in;
      }

  pub joins_down : Joins links.rows links.joins y x (record { low = low; high = high; sign = Minus; number = links.joins })
  joins_down =
      record {
        h_in = y-in;
        w_in = x-in;
        h_leads = free_b;
        w_leads = free_a;
        two = λ q. two (sym q);
        next = refl;
        from = ap (leader_of links) hb ∙ sym by;
        into = ap (leader_of links) la ∙ sym ax;
        low_high = range;
        high_in = high_in;
      }

  pub not_linked : Linked (joined links) a b → ⊥
  not_linked l = two (ax ∙ ((leaders_tell links a b).1 l ∙ sym by))

  edge_up : edge_for links a b x ≡ record { low = low; high = high; sign = Plus; number = links.joins }
  edge_up =
      let up = eq-eqb (leader_of links a) x (sym ax) in
      λ i. record { low = sym la i; high = sym hb i; sign = cond (up i) Plus Minus; number = links.joins }

  edge_down : edge_for links a b y ≡ record { low = low; high = high; sign = Minus; number = links.joins }
  edge_down =
      let down = ne_eqb (leader_of links a) y (λ q. two (ax ∙ q)) in
      λ i. record { low = sym la i; high = sym hb i; sign = cond (down i) Plus Minus; number = links.joins }

  module _ (links' : Links) (more : links'.joins ≡ links.joins + 1) where
    made : (h w : ℕ) (e : Edge) → Joins links.rows links.joins h w e → Hangs links.rows links'.rows h w e
        → edge_for links a b h ≡ e → Leaders links a b h w → Yields links h w → Made links links' a b h w
    made h w e j d q ls ys =
        let k : links'.joins ≡ suc links.joins = more ∙ add-one links.joins in
        record {
          range = (let z : a < b = omega arith in z);
          apart = not_linked;
          first =
              ap (ranges (out links'.rows)) k
              ∙ (ranges_joined links.rows links'.rows links.joins h w e (sound links) j d
              ∙ ap (λ (e : Edge). record { low = e.low; high = e.high } ∷ joined links) (sym q));
          leaders = ls;
          yields = ys;
          hangs = d.hangs ∙ ap (λ (e : Edge). record { parent = w; size = size_at links.rows h; edge = Some e }) (sym q);
          grows = d.grows;
          rest = d.rest;
          moves =
              λ i.
              ap (λ k. leader_at links'.rows k i) k
              ∙ leader_joined links.rows links'.rows links.joins h w e (sound links) j d i;
        }

    pub made_up : Hangs links.rows links'.rows x y (record { low = low; high = high; sign = Plus; number = links.joins })
        → Yields links x y → Made links links' a b x y
    made_up d ys = made x y _ joins_up d edge_up (inl (sym ax, sym by)) ys

    pub made_down : Hangs links.rows links'.rows y x (record { low = low; high = high; sign = Minus; number = links.joins })
        → Yields links y x → Made links links' a b y x
    made_down d ys = made y x _ joins_down d edge_down (inr (sym by, sym ax)) ys
