-- Each boundary of either set is paired with what is left of the other.
use Rattle.std.proofs.Common.{ℕ, ◌+◌, length, drop, Option, sym, ap, ◌∙◌, arith}
use Rattle.judgement.specs.Search.{with_low, pair_across}
use Rattle.judgement.proofs.Turns.{tail_is, passed_x, passed_y, places_later, pair_neither, pair_over}
use Rattle.judgement.proofs.search.across.Goals as goal
use Rattle.judgement.proofs.search.across.Goals.{then-leader-x+in_default, else-leader-x+then-leader-y+in_default-first, else-leader-x+else-leader-y}

pub slice_bounds-ours-count : goal.slice_bounds-ours-count
slice_bounds-ours-count g c =
    let inv = c.loop-i.invariant in
    let p = passed_x (g.R.Rule.protects c.args.rule.now) c.args.x c.args.y c.args.leaders.now c.loop-i.ours.now c.loop-i.theirs.now c.loop-i.i
    c.loop-i-test.true c.requires.apart inv.0 inv.1 c.if-leader-x.true in
    omega (arith, ap length p.0)

pub slice_bounds-theirs-count : goal.slice_bounds-theirs-count
slice_bounds-theirs-count g c =
    let inv = c.loop-i.invariant in
    let p = passed_y (g.R.Rule.protects c.args.rule.now) c.args.x c.args.y c.args.leaders.now c.loop-i.ours.now c.loop-i.theirs.now c.loop-i.i
    c.loop-i-test.true c.requires.apart inv.0 inv.1 c.if-leader-x.false c.if-leader-y.true in
    omega (arith, ap length p.0)

pub slice_bounds-ours-start : goal.slice_bounds-ours-start
slice_bounds-ours-start g c =
    let inv = c.loop-i.invariant in
    let p = passed_x (g.R.Rule.protects c.args.rule.now) c.args.x c.args.y c.args.leaders.now c.loop-i.ours.now c.loop-i.theirs.now c.loop-i.i
    c.loop-i-test.true c.requires.apart inv.0 inv.1 c.if-leader-x.true in
    omega (arith, ap length p.0)

pub slice_bounds-theirs-start : goal.slice_bounds-theirs-start
slice_bounds-theirs-start g c =
    let inv = c.loop-i.invariant in
    let p = passed_y (g.R.Rule.protects c.args.rule.now) c.args.x c.args.y c.args.leaders.now c.loop-i.ours.now c.loop-i.theirs.now c.loop-i.i
    c.loop-i-test.true c.requires.apart inv.0 inv.1 c.if-leader-x.false c.if-leader-y.true in
    omega (arith, ap length p.0)

pub returns-in-Some : goal.returns-in-Some
returns-in-Some g c =
    let inv = c.loop-i.invariant in
    let says = g.R.Rule.protects c.args.rule.now in
    let p = passed_x says c.args.x c.args.y c.args.leaders.now c.loop-i.ours.now c.loop-i.theirs.now c.loop-i.i
    c.loop-i-test.true c.requires.apart inv.0 inv.1 c.if-leader-x.true in
    ap (λ (o : Option ℕ). with_low c.loop-i.i o (pair_across says c.args.x c.args.y (drop (c.loop-i.i + 1) c.args.leaders.now) (c.loop-i.i + 1)))
    c.in-Some.ensures
    ∙ (sym p.2 ∙ inv.2)

pub returns-in-Some-first : goal.returns-in-Some-first
returns-in-Some-first g c =
    let inv = c.loop-i.invariant in
    let says = g.R.Rule.protects c.args.rule.now in
    let p = passed_y says c.args.x c.args.y c.args.leaders.now c.loop-i.ours.now c.loop-i.theirs.now c.loop-i.i
    c.loop-i-test.true c.requires.apart inv.0 inv.1 c.if-leader-x.false c.if-leader-y.true in
    ap (λ (o : Option ℕ). with_low c.loop-i.i o (pair_across says c.args.x c.args.y (drop (c.loop-i.i + 1) c.args.leaders.now) (c.loop-i.i + 1)))
    c.in-Some-first.ensures
    ∙ (sym p.2 ∙ inv.2)

pub loop-i-preserved : goal.loop-i-preserved
loop-i-preserved g c =
    let inv = c.loop-i.invariant in
    let says = g.R.Rule.protects c.args.rule.now in
    let rest = pair_across says c.args.x c.args.y (drop (c.loop-i.i + 1) c.args.leaders.now) (c.loop-i.i + 1) in
    elim c.if-leader-x.branch [
      | then-leader-x+in_default w ↦
          (let p = passed_x says c.args.x c.args.y c.args.leaders.now c.loop-i.ours.now c.loop-i.theirs.now c.loop-i.i
          c.loop-i-test.true c.requires.apart inv.0 inv.1 w.if-leader-x.true in (
            ap (λ s. s.now) w.ours-is ∙ tail_is c.loop-i.ours.now c.loop-i.i _ p.0,
            ap (λ s. s.now) w.theirs-is ∙ p.1,
            ap (λ (o : Option ℕ). with_low c.loop-i.i o rest) w.in_default.ensures ∙ (sym p.2 ∙ inv.2),
          ))
      | else-leader-x+then-leader-y+in_default-first w ↦
          (let p = passed_y says c.args.x c.args.y c.args.leaders.now c.loop-i.ours.now c.loop-i.theirs.now c.loop-i.i
          c.loop-i-test.true c.requires.apart inv.0 inv.1 w.if-leader-x.false w.if-leader-y.true in (
            ap (λ s. s.now) w.ours-is ∙ p.1,
            ap (λ s. s.now) w.theirs-is ∙ tail_is c.loop-i.theirs.now c.loop-i.i _ p.0,
            ap (λ (o : Option ℕ). with_low c.loop-i.i o rest) w.in_default-first.ensures ∙ (sym p.2 ∙ inv.2),
          ))
      | else-leader-x+else-leader-y w ↦ (
        ap (λ s. s.now) w.ours-is ∙ (inv.0 ∙ places_later c.args.x c.args.leaders.now c.loop-i.i c.loop-i-test.true w.if-leader-x.false),
        ap (λ s. s.now) w.theirs-is ∙ (inv.1 ∙ places_later c.args.y c.args.leaders.now c.loop-i.i c.loop-i-test.true w.if-leader-y.false),
        sym (pair_neither says c.args.x c.args.y c.args.leaders.now c.loop-i.i c.loop-i-test.true w.if-leader-x.false w.if-leader-y.false) ∙ inv.2,
      )
    ]

pub returns : goal.returns
returns g c =
    sym (pair_over (g.R.Rule.protects c.args.rule.now) c.args.x c.args.y c.args.leaders.now c.loop-i.i c.loop-i-test.false) ∙ c.loop-i.invariant.2
