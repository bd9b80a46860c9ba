-- Two rows are written, and the links are sound again.
use Rattle.std.proofs.Common.{◌≡◌, ◌+◌, List, set, Some, sym, ap, ◌∙◌, subst, add-one, arith}
use Rattle.links.specs.declared.row.Row.{Row}
use Rattle.links.specs.Rows.{size_at, row_at}
use Rattle.links.specs.Join.{Hangs}
use Rattle.links.proofs.Sound.{Sound}
use Rattle.links.proofs.Invariant.{sound}
use Rattle.links.proofs.Joining.{row_before, two_writes, sizes_fit, sound_joined}
use Rattle.links.proofs.links.Links.hang.Goals as goal
use Rattle.links.proofs.links.Links.hang.Goals.{After-grow}

pub grow-requires : goal.grow-requires
grow-requires c =
    let rows : List Row = c.args.self.now.rows in
    let fit = sizes_fit rows c.args.self.now.joins c.args.leader.index c.args.under.index c.args.edge (sound c.args.self.now) c.requires in
    let before =
    ap (λ (r : Row). r.size)
    (row_before rows c.args.leader.index c.args.under.index c.index.result c.index-3.result c.args.edge c.hang.new.self c.hang.new.self
    c.args.self.now.long c.requires.h_in c.requires.w_in c.requires.two c.index.ensures.value c.index-3.ensures.value) in
    let own = ap (λ (r : Row). r.size) c.row-size.ensures in
    omega arith

hangs_here : (c : After-grow) → Hangs c.args.self.now.rows (set (set c.args.self.now.rows c.index.result c.hang.new.self) c.index-3.result c.grow.new.self)
    c.args.leader.index c.args.under.index c.args.edge
hangs_here c =
    let rows : List Row = c.args.self.now.rows in
    let own : c.row-size.result.size ≡ size_at rows c.args.leader.index = ap (λ (r : Row). r.size) c.row-size.ensures in
    two_writes rows c.args.leader.index c.args.under.index c.index.result c.index-3.result c.args.edge c.hang.new.self c.grow.new.self
    c.args.self.now.long c.requires.h_in c.requires.w_in c.requires.two c.index.ensures.value c.index-3.ensures.value
    (c.hang.ensures
    ∙ (λ i. record { parent = c.index-2.ensures.value i; size = size_at rows (c.index.ensures.value i); edge = Some c.args.edge }))
    (c.grow.ensures
    ∙ (λ i.
    record {
      parent = (row_at (set rows c.index.result c.hang.new.self) c.index-3.result).parent;
      size = (row_at (set rows c.index.result c.hang.new.self) c.index-3.result).size + own i;
      edge = (row_at (set rows c.index.result c.hang.new.self) c.index-3.result).edge;
    }))

sound_here : (c : After-grow)
    → Sound (set (set c.args.self.now.rows c.index.result c.hang.new.self) c.index-3.result c.grow.new.self) (c.args.self.now.joins + 1)
sound_here c =
    let links = c.args.self.now in
    let rows' : List Row = set (set links.rows c.index.result c.hang.new.self) c.index-3.result c.grow.new.self in
    subst (Sound rows') (sym (add-one links.joins))
    (sound_joined links.rows rows' links.joins c.args.leader.index c.args.under.index c.args.edge (sound links) c.requires (hangs_here c))

pub invariant_of-self : goal.invariant_of-self
invariant_of-self c =
    let s = sound_here c in
    record {
      long = s.long;
      inside = s.inside;
      few = s.few;
      numbered = s.numbered;
      rising = s.rising;
      bare = s.bare;
      own = s.own;
      found = s.found;
      once = s.once;
      near = s.near;
      far = s.far;
      ordered = s.ordered;
      ended = s.ended;
      sized = s.sized;
    }
