use Rattle.std.proofs.Common.{◌≤◌, vec_items}
use Rattle.stores.specs.Log.{meant}
use Rattle.stores.proofs.Listing.{Sofar}
use Rattle.stores.proofs.lists.list.Given as goal

abbrev pub invariant-loop-slot : goal.invariant-loop-slot
invariant-loop-slot g l =
    let log = meant g.K.Kind.meaning (g.S.Store.log l.store) in
    (l.slot ≤ log.slots) × Sofar g.K.Kind.meaning (g.K.Kind.held g.K.Kind.group.zero) log (vec_items l.lists.values) (vec_items l.lists.marks) l.slot
