use Rattle.std.proofs.Common.{◌≡◌, ℕ, false, refl, MatchOption}
use Rattle.links.specs.Join.{Made, Declined}
use Rattle.links.specs.Joined.{joined}
use Rattle.links.specs.Linked.{Linked}
use Rattle.judgement.specs.Judgement.{Newly, Named}
use Rattle.ledger.specs.Machine.{Tried}
use Rattle.ledger.specs.Tries.{try_of}
use Rattle.ledger.proofs.Attempts.{moved, tried_linked, tried_withheld, tried_free}
use Rattle.ledger.proofs.ledger.rehearsal.attempt.Goals as goal

pub returns-in-Err : goal.returns-in-Err
returns-in-Err g c = record { tried = Tried.turned_back c.in-Err.ensures.fault; stays = refl; saved = refl }

pub returns-in-Linked : goal.returns-in-Linked
returns-in-Linked g c =
    let links = c.args.links.now.links.now in
    let t = try_of g.R.Rule.protects g.R.Rule.ordered c.args.tried.now in
    let ends = c.in-Ok.ensures.fault in
    record {
      tried = tried_linked links t ends.0 (moved (λ l a b. Linked (joined l) a b) c.links.ensures ends.1 ends.2 c.in-Linked.ensures);
      stays = refl;
      saved = refl;
    }

pub returns-in-Withheld : goal.returns-in-Withheld
returns-in-Withheld g c =
    let links = c.args.links.now.links.now in
    let t = try_of g.R.Rule.protects g.R.Rule.ordered c.args.tried.now in
    let ends = c.in-Ok.ensures.fault in
    let found = moved (λ l a b. (Linked (joined l) a b → ⊥) × Named (joined l) (g.R.Rule.protects c.args.tried.now.rule) (record { low = a; high = b }) c.in-Withheld.pair) c.links.ensures ends.1 ends.2 c.in-Withheld.ensures in
    record {
      tried = tried_withheld links t ends.0 c.in-Withheld.pair found.0 found.1;
      stays = refl;
      saved = refl;
    }

pub returns-in-Free : goal.returns-in-Free
returns-in-Free g c =
    let links = c.args.links.now.links.now in
    let links' = c.join.new.self.links.now in
    let t = try_of g.R.Rule.protects g.R.Rule.ordered c.args.tried.now in
    let ends = c.in-Ok.ensures.fault in
    let found = moved (λ l a b. (Linked (joined l) a b → ⊥) × ((i j : ℕ) → Newly (joined l) (record { low = a; high = b }) i j → g.R.Rule.protects c.args.tried.now.rule i j ≡ false)) c.links.ensures ends.1 ends.2 c.in-Free.ensures in
    record {
      tried = tried_free links t ends.0 links' c.join.result c.in-Ok.ensures.ordered found.0 found.1
          (moved (λ l a b. MatchOption c.join.result (Declined l links' a b) (λ h. Made l links' a b h.leader.index h.under.index)) refl ends.1 ends.2 c.join.ensures.cases);
      stays = c.join.ensures.stays;
      saved = c.join.ensures.saved;
    }
