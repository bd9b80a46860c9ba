use Rattle.std.proofs.Common.{◌/◌, ◌≤◌, length}
use Rattle.stores.specs.Stores.{width}
use Rattle.stores.proofs.Repacks.{Sofar}
use Rattle.stores.proofs.packing.repack.Given as goal

abbrev pub invariant-loop-slot : goal.invariant-loop-slot
invariant-loop-slot g l = (l.slot ≤ length l.from / width g.K.Kind.bytes) × Sofar g.K.Kind.group g.K.Kind.bytes l.from l.initial.to l.to l.slot
