-- Linked is an equivalence that grows with the list, and a step links its two ends.
use Rattle.std.proofs.Common.{◌≡◌, ℕ, List, ◌∷◌, refl, subst, inl, inr, ⊎_elim}
use Rattle.links.specs.Ranges.{Range}
use Rattle.links.specs.declared.step.Sign.{Sign}
use Rattle.links.specs.declared.step.Sign.TheVariants.{Plus, Minus}
use Rattle.links.specs.declared.step.Step.{Step}
use Rattle.links.specs.Linked.{Ends, Linked, here, onward}
use Rattle.links.specs.Chains.{range_of, start_by, start, end}

pub linked_more : {js : List Range} {r : Range} {i j : ℕ} → Linked js i j → Linked (r ∷ js) i j
linked_more here = here
linked_more (onward s l e rest) = onward s (inr l) e (linked_more rest)

pub linked_trans : {js : List Range} {i j k : ℕ} → Linked js i j → Linked js j k → Linked js i k
linked_trans here more = more
linked_trans (onward s l e rest) more = onward s l e (linked_trans rest more)

pub ends_sym : (r : Range) (i j : ℕ) → Ends r i j → Ends r j i
ends_sym r i j = ⊎_elim inr inl

pub linked_sym : {js : List Range} {i j : ℕ} → Linked js i j → Linked js j i
linked_sym here = here
linked_sym (onward {i = i} {j = j} s l e rest) = linked_trans (linked_sym rest) (onward s l (ends_sym s i j e) here)

pub linked_at : (js : List Range) {i j k l : ℕ} → i ≡ k → j ≡ l → Linked js i j → Linked js k l
linked_at js {i} {j} {k} {l} p q h = subst (λ x. Linked js x l) p (subst (λ y. Linked js i y) q h)

pub ends_by : (g : Sign) (low high : ℕ) → Ends (record { low = low; high = high }) (start_by g low high) (start_by g high low)
ends_by Plus low high = inl (refl, refl)
ends_by Minus low high = inr (refl, refl)

-- a step leads from one end of its range to the other
pub ends_of : (s : Step) → Ends (range_of s) (start s) (end s)
ends_of s = ends_by s.sign s.low s.high
