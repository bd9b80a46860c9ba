-- The worked cases, by computing the replies. Assumes nothing.
use Rattle.std.proofs.Common.{ℕ, refl}
use Rattle.links.proofs.Labels.{relabel, label, linked?}
use Rattle.links.proofs.Paths.{path}
use Rattle.kinds.specs.Group.{Group}
use Rattle.ledger.specs.Machine.{opened}
use Rattle.audit.specs.Cases.{Cases, Sample, Values, kept, losing, short, short_or}
use Rattle.ledger.proofs.Verdicts.{find, find_pair, highest, against, verdict}
use Rattle.ledger.proofs.Outcomes.{lowest, answered, rehearsed}
use Rattle.audit.proofs.Drawn.{replied, run_ended}

pub cases : {V : Type 0} (G : Group V) (r : ℕ → V) → Cases G r
unfolding relabel label linked? path find find_pair highest against verdict lowest answered rehearsed replied
cases G r = record {
  too_short = run_ended G (kept 9 r) (short 3) _ (opened 1024) tt;
  long_enough = run_ended G (kept 9 r) (short 3) _ (opened 1024) tt;
  none_short = run_ended G (kept 9 r) (short 1) _ (opened 1024) tt;
  by_difference = run_ended G (kept 9 r) (short_or 1 2 4) _ (opened 1024) tt;
  from_chain = run_ended G (kept 4 r) (short 1) _ (opened 1024) tt;
  no_slots = run_ended G (kept 0 r) (short 1) _ (opened 1024) tt;
  beyond_first = run_ended G (kept 9 r) (short 1) _ (opened 1024) tt;
}

pub sample : {V : Type 0} (G : Group V) (r : ℕ → V) → Sample G r
unfolding relabel label linked? path find find_pair highest against verdict lowest answered rehearsed replied
sample G r = run_ended G (losing 9 8 r) (short 3) _ (opened 1024) tt

pub values : Values
unfolding relabel label linked? path find find_pair highest against verdict lowest answered rehearsed replied
values = record {
  masks = (_, run_ended _ _ (short 1) _ (opened 1024) tt, refl);
  dials = refl;
  wh = refl;
  packed = (refl, refl, refl);
  packed_lost = (refl, refl, refl);
}
