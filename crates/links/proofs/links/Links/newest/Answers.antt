-- Each climb takes the lower join number, until the two meet.
use Rattle.std.proofs.Common.{rules, ◌≡◌, ◌<◌, ◌≤◌, sym, ap, ◌∙◌, subst, arith}
use Rattle.links.specs.Rows.{number_at, hung, over}
use Rattle.links.proofs.History.{leader_zero}
use Rattle.links.proofs.Invariant.{sound}
use Rattle.links.proofs.Climbing.{Apart, swapped, lower_joined, strictly_lower, rises, climbed, met_x, met_y}
use Rattle.links.proofs.links.Links.newest.Goals as goal

pub loop-p-init : goal.loop-p-init
loop-p-init c =
    let rows = c.args.self.now.rows in
    record {
      two = c.requires.apart;
      j = 0;
      within = omega arith;
      from_x = leader_zero (hung rows) (over rows) c.args.x.index;
      from_y = leader_zero (hung rows) (over rows) c.args.y.index;
    }

pub returns-then-eq : goal.returns-then-eq
returns-then-eq c =
    let links = c.args.self.now in
    let lt : number_at links.rows c.loop-p.p.index < number_at links.rows c.loop-p.q.index = omega arith in
    met_x links.rows links.joins (sound links) c.args.x.index c.args.y.index c.loop-p.p.index c.loop-p.q.index c.requires.one c.loop-p.invariant lt
    (sym c.parent-up.ensures ∙ search rules)

pub loop-p-preserved-then-number : goal.loop-p-preserved-then-number
loop-p-preserved-then-number c =
    let links = c.args.self.now in
    let lt : number_at links.rows c.loop-p.p.index < number_at links.rows c.loop-p.q.index = omega arith in
    subst (λ v. Apart links.rows links.joins c.args.x.index c.args.y.index v c.loop-p.q.index) (sym c.parent-up.ensures)
    (climbed links.rows links.joins (sound links) c.args.x.index c.args.y.index c.loop-p.p.index c.loop-p.q.index c.requires.one c.loop-p.invariant lt
    (let apart : c.parent-up.result.index ≡ c.loop-p.q.index → ⊥ = search rules in λ e. apart (c.parent-up.ensures ∙ e)))

pub returns-then-eq-2 : goal.returns-then-eq-2
returns-then-eq-2 c =
    let links = c.args.self.now in
    let back = swapped links.rows links.joins c.args.x.index c.args.y.index c.loop-p.p.index c.loop-p.q.index c.loop-p.invariant in
    let le : number_at links.rows c.loop-p.q.index ≤ number_at links.rows c.loop-p.p.index = omega arith in
    let lt = strictly_lower links.rows links.joins (sound links) c.args.y.index c.args.x.index c.loop-p.q.index c.loop-p.p.index (sym c.requires.one) back le in
    met_y links.rows links.joins (sound links) c.args.y.index c.args.x.index c.loop-p.q.index c.loop-p.p.index (sym c.requires.one) back lt
    (sym c.parent-up-else-number.ensures ∙ search rules)

pub loop-p-preserved : goal.loop-p-preserved
loop-p-preserved c =
    let links = c.args.self.now in
    let back = swapped links.rows links.joins c.args.x.index c.args.y.index c.loop-p.p.index c.loop-p.q.index c.loop-p.invariant in
    let le : number_at links.rows c.loop-p.q.index ≤ number_at links.rows c.loop-p.p.index = omega arith in
    let lt = strictly_lower links.rows links.joins (sound links) c.args.y.index c.args.x.index c.loop-p.q.index c.loop-p.p.index (sym c.requires.one) back le in
    swapped links.rows links.joins c.args.y.index c.args.x.index c.parent-up-else-number.result.index c.loop-p.p.index
    (subst (λ v. Apart links.rows links.joins c.args.y.index c.args.x.index v c.loop-p.p.index) (sym c.parent-up-else-number.ensures)
    (climbed links.rows links.joins (sound links) c.args.y.index c.args.x.index c.loop-p.q.index c.loop-p.p.index (sym c.requires.one) back lt
    (let apart : c.parent-up-else-number.result.index ≡ c.loop-p.p.index → ⊥ = search rules in λ e. apart (c.parent-up-else-number.ensures ∙ e))))

pub loop-p-smaller : goal.loop-p-smaller
loop-p-smaller c =
    let links = c.args.self.now in
    let back = swapped links.rows links.joins c.args.x.index c.args.y.index c.loop-p.p.index c.loop-p.q.index c.loop-p.invariant in
    let le : number_at links.rows c.loop-p.q.index ≤ number_at links.rows c.loop-p.p.index = omega arith in
    let lt = strictly_lower links.rows links.joins (sound links) c.args.y.index c.args.x.index c.loop-p.q.index c.loop-p.p.index (sym c.requires.one) back le in
    let up = rises links.rows links.joins (sound links) c.args.y.index c.args.x.index c.loop-p.q.index c.loop-p.p.index (sym c.requires.one) back lt in
    let low = lower_joined links.rows links.joins (sound links) c.args.y.index c.args.x.index c.loop-p.q.index c.loop-p.p.index (sym c.requires.one) back le in
    let few = links.few in
    let e = ap (number_at links.rows) c.parent-up-else-number.ensures in
    omega arith
