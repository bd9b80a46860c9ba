-- Where ranges close no ring, chains between the same two boundaries go over the same ranges the same way.
use Rattle.std.proofs.Common.{◌≡◌, ℕ, ◌⊎◌, List, [], ◌∷◌, ◌++◌, map, sym, refl, ap, ◌∙◌, subst, inl, inr, ⊎_elim}
use Rattle.std.proofs.lemmas.List.{map-append}
use Rattle.links.specs.Ranges.{Range}
use Rattle.links.specs.declared.step.Sign.{Sign}
use Rattle.links.specs.declared.step.Sign.TheVariants.{Plus, Minus}
use Rattle.links.specs.declared.step.Step.{Step}
use Rattle.links.specs.Linked.{Listed, Linked, here, onward}
use Rattle.links.specs.Chains.{range_of, start, start_by, end, Leads, Absent}
use Rattle.links.specs.Forest.{turned}
use Rattle.links.specs.Rings.{Ringless, Over, Path, course, OneWay}
use Rattle.links.proofs.Linking.{linked_trans, linked_sym, linked_at, ends_of}
use Rattle.links.proofs.Chaining.{turned_start}

-- steps over listed ranges link where they start and where they end
pub over_linked : (js : List Range) (ss : List Step) (i j : ℕ) → Leads ss i j → Over js ss → Linked js i j
over_linked js [] i j h o = linked_at js refl h here
over_linked js (s ∷ ss) i j h o =
    linked_at js h.0 refl (onward (range_of s) o.0 (ends_of s) (over_linked js ss (end s) j h.1 o.1))

-- an end of a step's range is where the step starts or where it ends
end_of : (s : Step) (v : ℕ) → (v ≡ s.low) ⊎ (v ≡ s.high) → (v ≡ start s) ⊎ (v ≡ end s)
end_of s v e =
    elim (ends_of s) [
      | inl p ↦ ⊎_elim (λ (q : v ≡ s.low). inl (q ∙ p.0)) (λ (q : v ≡ s.high). inr (q ∙ p.1)) e
      | inr p ↦ ⊎_elim (λ (q : v ≡ s.low). inr (q ∙ p.0)) (λ (q : v ≡ s.high). inl (q ∙ p.1)) e
    ]

-- steps that do not meet an end of r do not go over r
avoids : (r : Range) (js : List Range) (v : ℕ) → (v ≡ r.low) ⊎ (v ≡ r.high) → (ss : List Step) (i j : ℕ) → Leads ss i j → Over (r ∷ js) ss
    → Absent v (i ∷ map end ss) → Over js ss
avoids r js v e [] i j h o a = tt
avoids r js v e (s ∷ ss) i j h o a = (
  ⊎_elim
      (λ (p : range_of s ≡ r).
      absurd
      (⊎_elim (λ (q : v ≡ start s). a.0 (q ∙ h.0)) (λ (q : v ≡ end s). a.1.0 q)
      (end_of s v
      (⊎_elim
      (λ (q : v ≡ r.low). inl (q ∙ ap (λ (x : Range). x.low) (sym p)))
      (λ (q : v ≡ r.high). inr (q ∙ ap (λ (x : Range). x.high) (sym p)))
      e))))
      (λ (l : Listed (range_of s) js). l)
      o.0,
  avoids r js v e ss (end s) j h.1 o.1 a.1,
)

absent_front : (i : ℕ) (is js : List ℕ) → Absent i (is ++ js) → Absent i is
absent_front i [] js h = tt
absent_front i (k ∷ is) js h = (h.0, absent_front i is js h.1)

-- ss goes over r once, by the step mid, and over ranges of js before and after it
record Split (r : Range) (js : List Range) (i j : ℕ) (ss : List Step) : Type 0 where
  front : List Step
  mid : Step
  rear : List Step
  is : ss ≡ front ++ (mid ∷ rear)
  on : range_of mid ≡ r
  before : Path js i (start mid) front
  after : Path js (end mid) j rear

split_here : (r : Range) (js : List Range) (s : Step) (ss : List Step) (i j : ℕ) → Path (r ∷ js) i j (s ∷ ss) → range_of s ≡ r
    → Split r js i j (s ∷ ss)
split_here r js s ss i j p e =
    let start-end : (i ≡ r.low) ⊎ (i ≡ r.high) =
    elim (ends_of s) [
      | inl q ↦ inl (sym p.0.0 ∙ (sym q.0 ∙ ap (λ (x : Range). x.low) e))
      | inr q ↦ inr (sym p.0.0 ∙ (sym q.1 ∙ ap (λ (x : Range). x.high) e))
    ] in
    record {
      front = [];
      mid = s;
      rear = ss;
      is = refl;
      on = e;
      before = (sym p.0.0, tt, (tt, tt));
      after = (p.0.1, avoids r js i start-end ss (end s) j p.0.1 p.1.1 p.2.0, p.2.1);
    }

split_later : (r : Range) (js : List Range) (s : Step) (ss : List Step) (i j : ℕ) → Path (r ∷ js) i j (s ∷ ss) → Listed (range_of s) js
    → Over js ss ⊎ Split r js (end s) j ss → Over js (s ∷ ss) ⊎ Split r js i j (s ∷ ss)
split_later r js s ss i j p l (inl o) = inl (l, o)
split_later r js s ss i j p l (inr d) =
    inr
    (record {
      front = s ∷ d.front;
      mid = d.mid;
      rear = d.rear;
      is = ap (λ x. s ∷ x) d.is;
      on = d.on;
      before = (
        (p.0.0, d.before.0),
        (l, d.before.1),
        (
          absent_front i (end s ∷ map end d.front) (map end (d.mid ∷ d.rear))
              (subst (λ x. Absent i (end s ∷ x)) (ap (map end) d.is ∙ map-append end d.front (d.mid ∷ d.rear)) p.2.0),
          d.before.2,
        ),
      );
      after = d.after;
    })

split : (r : Range) (js : List Range) (ss : List Step) (i j : ℕ) → Path (r ∷ js) i j ss → Over js ss ⊎ Split r js i j ss
split r js [] i j p = inl tt
split r js (s ∷ ss) i j p =
    let later = split r js ss (end s) j (p.0.1, p.1.1, p.2.1) in
    ⊎_elim
    (λ (e : range_of s ≡ r). inr (split_here r js s ss i j p e))
    (λ (l : Listed (range_of s) js). split_later r js s ss i j p l later)
    p.1.0

-- a list that links the two ends of a step over r links the two ends of r
ends_linked : (js : List Range) (r : Range) (s : Step) → range_of s ≡ r → Linked js (start s) (end s) → Linked js r.low r.high
ends_linked js r s e l =
    let low = ap (λ (x : Range). x.low) e in
    let high = ap (λ (x : Range). x.high) e in
    elim (ends_of s) [
      | inl q ↦ linked_at js (sym q.0 ∙ low) (sym q.1 ∙ high) l
      | inr q ↦ linked_at js (sym q.0 ∙ low) (sym q.1 ∙ high) (linked_sym l)
    ]

sign_cases : (g h : Sign) → (g ≡ h) ⊎ (g ≡ turned h)
sign_cases Plus Plus = inl refl
sign_cases Plus Minus = inr refl
sign_cases Minus Plus = inr refl
sign_cases Minus Minus = inl refl

module _ (r : Range) (js : List Range) (ring : Linked js r.low r.high → ⊥) (older : OneWay js) where
  -- a chain without r and one with it would close a ring
  mixed : (i j : ℕ) (ss ts : List Step) → Path (r ∷ js) i j ss → Over js ss → Split r js i j ts → ⊥
  mixed i j ss ts p o d =
      ring
      (ends_linked js r d.mid d.on
      (linked_trans (linked_sym (over_linked js d.front i (start d.mid) d.before.0 d.before.1))
      (linked_trans (over_linked js ss i j p.0 o)
      (linked_sym (over_linked js d.rear (end d.mid) j d.after.0 d.after.1)))))

  courses : (ss ts : List Step) (s : Step) → map course (ss ++ (s ∷ ts)) ≡ map course ss ++ (course s ∷ map course ts)
  courses ss ts s = map-append course ss (s ∷ ts)

  both : (i j : ℕ) (ss ts : List Step) → Split r js i j ss → Split r js i j ts → map course ss ≡ map course ts
  both i j ss ts d e =
      ⊎_elim
      (λ (g : d.mid.sign ≡ e.mid.sign).
      let mids : course d.mid ≡ course e.mid = λ x. ((d.on ∙ sym e.on) x, g x) in
      let starts : start d.mid ≡ start e.mid = ap (λ (c : Range × Sign). start_by c.1 c.0.low c.0.high) mids in
      let ends : end d.mid ≡ end e.mid = ap (λ (c : Range × Sign). start_by c.1 c.0.high c.0.low) mids in
      let fronts = older i (start e.mid) d.front e.front (subst (λ v. Path js i v d.front) starts d.before) e.before in
      let rears = older (end e.mid) j d.rear e.rear (subst (λ v. Path js v j d.rear) ends d.after) e.after in
      ap (map course) d.is
      ∙ (courses d.front d.rear d.mid
      ∙ ((λ x. fronts x ++ (mids x ∷ rears x)) ∙ (sym (courses e.front e.rear e.mid) ∙ sym (ap (map course) e.is)))))
      (λ (g : d.mid.sign ≡ turned e.mid.sign).
      let on : range_of d.mid ≡ range_of e.mid = d.on ∙ sym e.on in
      let crossed : start d.mid ≡ end e.mid =
      (λ x. start_by (g x) (on x).low (on x).high) ∙ turned_start e.mid.sign e.mid.low e.mid.high in
      absurd
      (ring
      (ends_linked js r e.mid e.on
      (linked_trans (linked_sym (over_linked js e.front i (start e.mid) e.before.0 e.before.1))
      (linked_at js refl crossed (over_linked js d.front i (start d.mid) d.before.0 d.before.1))))))
      (sign_cases d.mid.sign e.mid.sign)

  one_more : OneWay (r ∷ js)
  one_more i j ss ts p q =
      elim (split r js ss i j p) [
        | inl o ↦
            elim (split r js ts i j q)
            [ inl o' ↦ older i j ss ts (p.0, o, p.2) (q.0, o', q.2) | inr e ↦ absurd (mixed i j ss ts p o e) ]
        | inr d ↦
            elim (split r js ts i j q) [ inl o ↦ absurd (mixed i j ts ss q o d) | inr e ↦ both i j ss ts d e ]
      ]

no_range : (i j : ℕ) (ss ts : List Step) → Path [] i j ss → Path [] i j ts → map course ss ≡ map course ts
no_range i j [] [] p q = refl
no_range i j [] (t ∷ ts) p q = absurd q.1.0
no_range i j (s ∷ ss) ts p q = absurd p.1.0

pub one_way : (js : List Range) → Ringless js → OneWay js
one_way [] h = no_range
one_way (r ∷ js) h = one_more r js h.0 (one_way js h.1)
