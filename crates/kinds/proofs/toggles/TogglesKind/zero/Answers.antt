use Rattle.std.proofs.Common.{refl}
use Rattle.kinds.specs.Residues.{same_residue}
use Rattle.kinds.proofs.toggles.TogglesKind.zero.Goals as goal

pub returns-clause-meant : goal.returns-clause-meant
returns-clause-meant c = same_residue _ _ refl
