use lib.Bits.{xor_mod}
use Rattle.kinds.specs.Residues.{same_residue}
use Rattle.kinds.proofs.toggles.TogglesKind.plus.Goals as goal

pub returns-clause-meant : goal.returns-clause-meant
returns-clause-meant c = same_residue _ _ (xor_mod c.args.self.mask c.args.other.mask 16)
