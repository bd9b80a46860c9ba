-- The joining ranges with their sums, as a list: a join puts the new range with its sum in front of the list from before.
use Rattle.std.proofs.Common.{◌≡◌, ℕ, List, [], ◌∷◌, map, refl, ap, ◌∙◌, inl, inr}
use Rattle.kinds.specs.Group.{Group}
use Rattle.links.specs.Ranges.{Range}
use Rattle.links.specs.declared.links.Links.{Links}
use Rattle.links.specs.Linked.{Listed}
use Rattle.links.specs.Joined.{joined}
use Rattle.distances.specs.Distance.{amount}
use Rattle.distances.specs.Kept.{Laid}

pub map_listed : {B : Type 0} (f g : Range → B) (js : List Range) → ((r : Range) → Listed r js → f r ≡ g r) → map f js ≡ map g js
map_listed f g [] e = refl
map_listed f g (r ∷ js) e = λ i. e r (inl refl) i ∷ map_listed f g js (λ s l. e s (inr l)) i

-- `release r v` is what is kept of a range r that joined with the sum v
pub one_release : {K V B : Type 0} (release : Range → V → B) (G : Group V) (meaning : K → V) (links links' : Links) (table table' : List K)
    (a b h w : ℕ) (sum : V) → Laid G meaning links links' table table' a b h w sum
    → map (λ r. release r (amount G links' (map meaning table') r)) (joined links')
    ≡ release (record { low = a; high = b }) sum ∷ map (λ r. release r (amount G links (map meaning table) r)) (joined links)
one_release release G meaning links links' table table' a b h w sum l =
    ap (map (λ r. release r (amount G links' (map meaning table') r))) l.made.first
    ∙ (λ i.
    release (record { low = a; high = b }) (l.new i)
    ∷ map_listed _ _ (joined links) (λ r m. ap (release r) (l.old r m)) i)
