-- The newest join on the way cuts it in two.
use Rattle.std.proofs.Common.{true, false, refl, ◌∙◌}
use Rattle.links.specs.Rows.{hung, over}
use Rattle.links.proofs.History.{leader_same}
use Rattle.links.proofs.Invariant.{sound}
use Rattle.links.proofs.Crossed.{cut}
use Rattle.links.proofs.links.Links.crossing.Goals as goal

pub newest-requires : goal.newest-requires
newest-requires c =
    let links = c.args.self.now in
    record {
      apart = c.requires.apart;
      one =
          leader_same (hung links.rows) (over links.rows) c.args.below links.joins c.args.x.index c.args.y.index
          c.requires.older c.requires.one;
    }

pub returns-in-Leaves : goal.returns-in-Leaves
returns-in-Leaves c =
    let links = c.args.self.now in
    let here = c.over.ensures in
    cut links.rows links.joins c.args.below c.args.x.index c.args.y.index c.in-Leaves.at.index (sound links) c.requires.older
    c.requires.one true _ _ _ c.out.result c.out.result _ c.in-Leaves.ensures (here.older ∙ c.number.ensures) c.out.ensures refl
    here.step here.near here.far

pub returns-in-Enters : goal.returns-in-Enters
returns-in-Enters c =
    let links = c.args.self.now in
    let here = c.over-in-Enters.ensures in
    cut links.rows links.joins c.args.below c.args.x.index c.args.y.index c.in-Enters.at.index (sound links) c.requires.older
    c.requires.one false _ _ _ c.out-in-Enters.result c.reversed.result _ c.in-Enters.ensures
    (here.older ∙ c.number-in-Enters.ensures) c.out-in-Enters.ensures c.reversed.ensures here.step here.near here.far
