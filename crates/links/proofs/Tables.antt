-- The table of leaders, which is filled from the boundary that the newest join hung to the one that the oldest did.
use Rattle.std.proofs.Common.{◌≡◌, ℕ, suc, ◌+◌, ◌<◌, ◌≤◌, List, [], ◌∷◌, ◌++◌, length, get_or, set, take, sym, ap, ◌∙◌, ⊎_elim, arith}
use Rattle.std.proofs.lemmas.List.{length-set, length-append, length-take-le, get_or-take, get_or-set_same, get_or-set_other, get_or_append_left}
use Rattle.std.proofs.Math.Seq.{get_or-append_seam}
use Rattle.std.proofs.lemmas.Bool.{cases_eq, cases_lt}
use Rattle.links.specs.declared.links.Links.{Links}
use Rattle.links.specs.Rows.{parent_at, number_at, hung}
use Rattle.links.specs.Joined.{leader_of}
use Rattle.links.proofs.Sound.{hung_below}
use Rattle.links.proofs.Invariant.{sound, leader_own, leader_up}

module _ (links : Links) where
  abbrev number : ℕ → ℕ
  number i = number_at links.rows i

  -- a join hung one boundary only
  once : (i k : ℕ) → number i < 1024 → number k ≡ number i → k ≡ i
  once i k h e =
      let n = links.numbered i h in
      let m = links.numbered k (let z : number k < 1024 = omega arith in z) in
      sym (links.once k m) ∙ (ap (hung links.rows) e ∙ links.once i n)

  -- what the oldest joins hung is still to be looked at; the boundaries that newer joins hung, and those that none hung, have their leaders
  pub record Led (left table : List ℕ) : Type 0 where
    pub few : length left ≤ links.joins
    pub hangs : (t : ℕ) → t < length left → get_or left t 0 ≡ hung links.rows t
    pub long : length table ≡ 1024
    pub each : (k : ℕ) → k < 1024 → length left ≤ number k → get_or table k 0 ≡ leader_of links k

  pub led_none : (hangings left table : List ℕ) → links.joins ≤ length hangings → left ≡ take links.joins hangings
      → ((t : ℕ) → t < links.joins → get_or hangings t 0 ≡ hung links.rows t) → length table ≡ 1024 → ((k : ℕ) → k < 1024 → get_or table k 0 ≡ k)
      → Led left table
  led_none hangings left table enough first hangs long own =
      let all : length left ≡ links.joins = ap length first ∙ length-take-le links.joins hangings enough in
      record {
        few = omega arith;
        hangs = λ t l. let h : t < links.joins = omega arith in ap (λ xs. get_or xs t 0) first ∙ (get_or-take links.joins hangings t 0 h ∙ hangs t h);
        long = long;
        each =
            λ k l n.
            own k l
            ∙ sym (leader_own links.rows links.joins (sound links) k
            (⊎_elim (λ (h : number k < 1024). absurd (let m = links.numbered k h in omega arith)) (λ (h : 1024 ≤ number k). h) (cases_lt (number k) 1024)));
      }

  module _ (left next table : List ℕ) (b : ℕ) (f : Led left table) (last : left ≡ next ++ b ∷ []) where
    longer : length left ≡ suc (length next)
    longer = ap length last ∙ (length-append next (b ∷ []) ∙ (let z : length next + 1 ≡ suc (length next) = omega arith in z))

    pub is_hung : b ≡ hung links.rows (length next)
    is_hung =
        sym (get_or-append_seam next b [] 0)
        ∙ (ap (λ xs. get_or xs (length next) 0) (sym last) ∙ f.hangs (length next) (let e = longer in let z : length next < length left = omega arith in z))

    pub within : b < 1024
    within = let e = is_hung in let h = hung_below links.rows (length next) in omega arith

    number_b : number b ≡ length next
    number_b = ap number is_hung ∙ links.found (length next) (let e = longer in let m = f.few in let z : length next < links.joins = omega arith in z)

    joined : number b < links.joins
    joined = let e = longer in let m = f.few in let n = number_b in omega arith

    value : get_or table (parent_at links.rows b) 0 ≡ leader_of links b
    value =
        let e = longer in
        let n = number_b in
        let few = links.few in
        let m = joined in
        let rise = links.rising b m in
        f.each (parent_at links.rows b) (links.inside b) (let z : length left ≤ number (parent_at links.rows b) = omega arith in z)
        ∙ leader_up links.rows links.joins (sound links) b (let z : number b < 1024 = omega arith in z)

    pub led_more : Led next (set table b (get_or table (parent_at links.rows b) 0))
    led_more =
        let v = get_or table (parent_at links.rows b) 0 in
        let e = longer in
        record {
          few = let m = f.few in omega arith;
          hangs =
              λ t l.
              sym (get_or_append_left next (b ∷ []) 0 t l)
              ∙ (ap (λ xs. get_or xs t 0) (sym last) ∙ f.hangs t (let z : t < length left = omega arith in z));
          long = length-set table b v ∙ f.long;
          each =
              λ k l n.
              ⊎_elim
              (λ (e : k ≡ b).
              ap (λ i. get_or (set table b v) i 0) e
              ∙ (get_or-set_same table b v 0 (let w = within in let h = f.long in let z : b < length table = omega arith in z)
              ∙ (value ∙ ap (leader_of links) (sym e))))
              (λ (ne : k ≡ b → ⊥).
              get_or-set_other table b k v 0 ne
              ∙ f.each k l
              (⊎_elim
              (λ (h : number k < length left).
              absurd (ne (let nb = number_b in let j = joined in let few = links.few in once b k (let z : number b < 1024 = omega arith in z) (omega arith))))
              (λ (h : length left ≤ number k). h)
              (cases_lt (number k) (length left))))
              (cases_eq k b);
        }
