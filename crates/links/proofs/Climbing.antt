-- Two climbs from boundaries of one set: the lower join number goes first, and where they meet is the newest join on the way.
use Rattle.std.proofs.Common.{◌≡◌, ℕ, suc, ◌<◌, ◌≤◌, true, false, List, sym, ap, ◌∙◌, ⊎_elim, arith}
use Rattle.std.proofs.lemmas.Bool.{cases_lt, cases_eq}
use Rattle.links.specs.declared.row.Row.{Row}
use Rattle.links.specs.Rows.{parent_at, number_at, hung, leader_at}
use Rattle.links.specs.Newest.{MakesOne}
use Rattle.links.proofs.History.{leads, lasts, leader_moved}
use Rattle.links.proofs.Sound.{Sound, grown}

-- after the first j joins the two lead the sets of x and y, which are still apart
pub record Apart (rows : List Row) (k x y p q : ℕ) : Type 0 where
  pub two : p ≡ q → ⊥
  pub j : ℕ
  pub within : j ≤ k
  pub from_x : leader_at rows j x ≡ p
  pub from_y : leader_at rows j y ≡ q

pub swapped : (rows : List Row) (k x y p q : ℕ) → Apart rows k x y p q → Apart rows k y x q p
swapped rows k x y p q a =
    record { two = λ e. a.two (sym e); j = a.j; within = a.within; from_x = a.from_y; from_y = a.from_x }

module _ (rows : List Row) (k : ℕ) (s : Sound rows k) (x y p q : ℕ) (one : leader_at rows k x ≡ leader_at rows k y) (a : Apart rows k x y p q) where
  -- the sets come together, so that the lower of the two join numbers is that of a join
  pub lower_joined : number_at rows p ≤ number_at rows q → number_at rows p < k
  lower_joined le =
      ⊎_elim (λ (h : number_at rows p < k). h)
      (λ (h : k ≤ number_at rows p).
      absurd
      (a.two
      (sym (lasts (parent_at rows) (number_at rows) (hung rows) k (grown rows k s) a.j k x p a.within (omega arith) a.from_x h)
      ∙ (one
      ∙ lasts (parent_at rows) (number_at rows) (hung rows) k (grown rows k s) a.j k y q a.within (omega arith) a.from_y
      (omega arith)))))
      (cases_lt (number_at rows p) k)

  -- two rows do not share a join number
  pub strictly_lower : number_at rows p ≤ number_at rows q → number_at rows p < number_at rows q
  strictly_lower le =
      let l = lower_joined le in
      ⊎_elim
      (λ (e : number_at rows p ≡ number_at rows q).
      absurd (a.two (sym (s.once p l) ∙ (ap (hung rows) e ∙ s.once q (let z : number_at rows q < k = omega arith in z)))))
      (λ (ne : number_at rows p ≡ number_at rows q → ⊥). let z : number_at rows p < number_at rows q = omega arith in z)
      (cases_eq (number_at rows p) (number_at rows q))

  module _ (lt : number_at rows p < number_at rows q) where
    joined : number_at rows p < k
    joined = lower_joined (omega arith)

    not_yet : a.j ≤ number_at rows p
    not_yet =
        let l = leads (parent_at rows) (number_at rows) (hung rows) k (grown rows k s) a.j x a.within in
        let e = ap (number_at rows) a.from_x in
        omega arith

    at_x : leader_at rows (number_at rows p) x ≡ p
    at_x =
        let b = joined in
        lasts (parent_at rows) (number_at rows) (hung rows) k (grown rows k s) a.j (number_at rows p) x p not_yet (omega arith) a.from_x
        (omega arith)

    at_y : leader_at rows (number_at rows p) y ≡ q
    at_y =
        let b = joined in
        lasts (parent_at rows) (number_at rows) (hung rows) k (grown rows k s) a.j (number_at rows p) y q not_yet (omega arith) a.from_y
        (omega arith)

    above_x : leader_at rows (suc (number_at rows p)) x ≡ parent_at rows p
    above_x =
        leader_moved (hung rows) (λ t. parent_at rows (hung rows t)) (number_at rows p) x (at_x ∙ sym (s.once p joined))
        ∙ ap (parent_at rows) (s.once p joined)

    above_y : leader_at rows (suc (number_at rows p)) y ≡ q
    above_y =
        let b = joined in
        let c = not_yet in
        lasts (parent_at rows) (number_at rows) (hung rows) k (grown rows k s) a.j (suc (number_at rows p)) y q (omega arith) b a.from_y lt

    -- a parent has the higher join number
    pub rises : number_at rows p < number_at rows (parent_at rows p)
    rises = s.rising p joined

    -- one climb on, the two lead the sets after that join
    pub climbed : (parent_at rows p ≡ q → ⊥) → Apart rows k x y (parent_at rows p) q
    climbed ne = record { two = ne; j = suc (number_at rows p); within = joined; from_x = above_x; from_y = above_y }

    -- where the climbs meet
    pub met_x : parent_at rows p ≡ q → MakesOne rows k x y p true
    met_x e =
        record {
          joined = joined;
          apart = λ f. a.two (sym at_x ∙ (f ∙ at_y));
          side = at_x;
          one = above_x ∙ (e ∙ sym above_y);
        }

    pub met_y : parent_at rows p ≡ q → MakesOne rows k y x p false
    met_y e =
        record {
          joined = joined;
          apart = λ f. a.two (sym at_x ∙ (sym f ∙ at_y));
          side = at_x;
          one = sym (above_x ∙ (e ∙ sym above_y));
        }
