-- Classes are told apart by their ranks. Assumes nothing.
use Rattle.std.proofs.Common.{◌≡◌, ℕ, zero, suc, true, false, sym, refl, ap, ◌∙◌}
use Rattle.std.proofs.lemmas.Bool.{both_ways, eq-eqb, eqb-true, ne_eqb}
use Rattle.text.specs.Alphabet.{rank, same}
use Rattle.text.specs.declared.alphabet.Class.{Class}
use Rattle.text.specs.declared.alphabet.Class.TheVariants.{Open, Close, Blank, Digit, Letter, Outside}

ranked : ℕ → Class
ranked zero = Open
ranked (suc zero) = Close
ranked (suc (suc zero)) = Blank
ranked (suc (suc (suc zero))) = Digit
ranked (suc (suc (suc (suc zero)))) = Letter
ranked (suc (suc (suc (suc (suc n))))) = Outside

ranked_rank : (k : Class) → ranked (rank k) ≡ k
unfolding ranked
ranked_rank Open = refl
ranked_rank Close = refl
ranked_rank Blank = refl
ranked_rank Digit = refl
ranked_rank Letter = refl
ranked_rank Outside = refl

pub same_class : (j k : Class) → same j k ≡ true → j ≡ k
same_class j k e = sym (ranked_rank j) ∙ ap ranked (eqb-true _ _ e) ∙ ranked_rank k

pub class_same : (j k : Class) → j ≡ k → same j k ≡ true
class_same j k e = eq-eqb _ _ (ap rank e)

pub class_other : (j k : Class) → (j ≡ k → ⊥) → same j k ≡ false
class_other j k n = ne_eqb _ _ (λ e. n (same_class j k (eq-eqb _ _ e)))

pub other : (j k : Class) → same k j ≡ false → same j k ≡ false
other j k e = class_other j k (λ same. both_ways _ e (class_same k j (sym same)))
