-- Rows with no join keep the invariant, and no range has joined.
use Rattle.std.proofs.Common.{◌≡◌, ℕ, ◌<◌, None, rules, refl}
use Rattle.links.specs.Forest.{ranges}
use Rattle.links.specs.Rows.{row_at}
use Rattle.links.proofs.Sound.{sound_open}
use Rattle.links.proofs.links.Links.new.Goals as goal
use Rattle.links.proofs.links.Links.new.Goals.{After-from_fn-rows}

each : (c : After-from_fn-rows) (i : ℕ) → i < 1024 → row_at c.from_fn-rows.result i ≡ record { parent = i; size = 1; edge = None }
each c i h = let made = c.from_fn-rows.ensures.items.at i (record { parent = 0; size = 0; edge = None }) h in search rules

pub invariant_of-result : goal.invariant_of-result
invariant_of-result c =
    let s = sound_open c.from_fn-rows.result c.from_fn-rows.ensures.items.long (each c) in
    record {
      long = s.long;
      inside = s.inside;
      few = s.few;
      numbered = s.numbered;
      rising = s.rising;
      bare = s.bare;
      own = s.own;
      found = s.found;
      once = s.once;
      near = s.near;
      far = s.far;
      ordered = s.ordered;
      ended = s.ended;
      sized = s.sized;
    }

pub returns : goal.returns
unfolding ranges
returns c = refl
