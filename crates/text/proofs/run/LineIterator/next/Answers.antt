use Rattle.std.proofs.Common.{◌≡◌, ◌<◌, length, take, drop, sym, refl, ap, ◌∙◌, subst, arith}
use Rattle.std.proofs.lemmas.Bool.{cond-true, cond-false}
use Rattle.std.proofs.lemmas.List.{length-take-le}
use Rattle.text.specs.Alphabet.{class}
use Rattle.text.specs.Faults.{along}
use Rattle.text.specs.Runs.{CutOff}
use Rattle.text.proofs.Cutting.{first_length, first_within, cut_first}
use Rattle.text.proofs.run.LineIterator.next.Goals as goal
use Rattle.text.proofs.run.LineIterator.next.Goals.{then-joins, else-joins, Joined-joins}

-- the code's count is the first run's length
counted : (c : Joined-joins) → c.if-joins.length ≡ first_length c.classify-class.result c.args.self.now.rest.now
counted c =
    elim c.if-joins.branch [
      | then-joins w ↦ w.length-is ∙ w.run_length-length.ensures ∙ sym (cond-true _ _ _ (sym c.joins.ensures ∙ w.if-joins.true))
      | else-joins w ↦ w.length-is ∙ sym (cond-false _ _ _ (sym c.joins.ensures ∙ w.if-joins.false))
    ]

-- the length is taken of bytes that are there
some : (c : Joined-joins) → 0 < length c.args.self.now.rest.now
some c = c.in_ok-first.ensures.item.3.0

pub split_at-requires : goal.split_at-requires
split_at-requires c =
    let j = (goal.at.split_at-requires c).Joined-joins in
    let e = counted j in
    let w = first_within c.classify-class.result c.args.self.now.rest.now (some j) in
    omega arith

pub returns-clause-steps : goal.returns-clause-steps
returns-clause-steps c =
    let j = (goal.at.returns-clause-steps c).Joined-joins in
    let e = counted j in
    let rest = c.args.self.now.rest.now in
    let k = c.classify-class.result in
    let n = first_length k rest in
    let w = first_within k rest (some j) in
    let is = sym (c.classify-class.ensures ∙ ap class (c.from.ensures ∙ c.in_ok-first.ensures.item.3.1 0)) in
    let front : c.split_at.result.0.now ≡ take n rest = c.split_at.ensures.front ∙ ap (λ m. take m rest) e in
    let back : c.split_at.result.1.now ≡ drop n rest = c.split_at.ensures.back ∙ ap (λ m. drop m rest) e in
    let long : c.if-joins.length ≡ length c.split_at.result.0.now = e ∙ sym (ap length front ∙ length-take-le n rest w) in
    record {
      cut = subst (λ x. CutOff rest k x c.split_at.result.1.now) (sym front) (subst (CutOff rest k (take n rest)) (sym back) (cut_first k rest (some j) is));
      begins = refl;
      place = c.after-self.ensures ∙ ap (along c.args.self.now.place) long;
    }
