-- Sums and chains of a list of calls are true, and its joining releases close no ring. Assumes nothing.
use Rattle.kinds.specs.Group.{Group}
use Rattle.ledger.proofs.Standing.{sound_opened}
use Rattle.ledger.proofs.Truth.{asked_true, asked_shown}
use Rattle.audit.specs.Facts.{SumsTrue, ChainsTrue, NoRing}
use Rattle.audit.proofs.Standing.{sound_run}

pub sums_true : {V : Type 0} (G : Group V) → SumsTrue G
sums_true G log rule d calls replies e run p v w = asked_true G log rule p.ledger p.query p.outcome (sound_run G log rule (sound_opened G log rule) p.ran) p.asks v w

pub chains_true : {V : Type 0} (G : Group V) → ChainsTrue G
chains_true G log rule d calls replies e run p pair m w = asked_shown G log rule p.ledger p.query p.outcome (sound_run G log rule (sound_opened G log rule) p.ran) p.asks pair m w

pub no_ring : {V : Type 0} (G : Group V) → NoRing G
no_ring G log rule d calls replies e run = let h = sound_run G log rule (sound_opened G log rule) run in (h.within, h.ring)
