use Rattle.std.proofs.Common.{◌≡◌, ℕ, ◌^◌, ◌≤◌, List, length, codes, [], ◌∷◌, Option, sym, ap, ◌∙◌, subst}
use Rattle.kinds.specs.Codec.{Codec}
use Rattle.links.specs.declared.step.Step.{Step}
use Rattle.ledger.specs.declared.answer.Answer.{Answer}
use Rattle.ledger.specs.State.{valued_answer}
use Rattle.kinds.specs.declared.names.KindName.{KindName}
use Rattle.lines.specs.Text.{Wrote, form_text}
use Rattle.lines.specs.Lines.{answer_line, withheld_line}
use Rattle.lines.specs.Fits.{Whole, ModestAnswer}
use Rattle.lines.proofs.Placing.{called, whole}
use Rattle.lines.proofs.Lengths.{sum_long, withheld_long, lost_long, refused_long}
use Rattle.lines.proofs.answers.named_answer_line.Goals as goal

-- the line of an answer is written whole, as that of the case that the answer is
told : {K V : Type 0} (kind : KindName) (codec : Codec (2 ^ 32) V) (meaning : K → V) (low high : ℕ) (table : List Step) {buf now : List ℕ} {r : Option ℕ} (a : Answer K) {answer : Answer K} → answer ≡ a → Wrote (answer_line kind codec low high (valued_answer meaning a) table) buf now r → (ModestAnswer a table → length (answer_line kind codec low high (valued_answer meaning a) table) ≤ 16384) → ModestAnswer answer table → Whole (answer_line kind codec low high (valued_answer meaning answer) table) buf r
told {K} kind codec meaning low high table {buf} {now} {r} a is w fits =
    let P : Answer K → Type 0 = λ x. ModestAnswer x table → Whole (answer_line kind codec low high (valued_answer meaning x) table) buf r in
    subst P (sym is) (λ m. whole w (fits m))

pub returns-in-Released-clause-whole : goal.returns-in-Released-clause-whole
returns-in-Released-clause-whole g c =
    told c.args.kind g.K.Kind.numbers g.K.Kind.meaning c.args.range.low c.args.range.high c.args.table.now _ c.in-Released.is c.sum_line.ensures.text (λ _. sum_long c.args.kind g.K.Kind.numbers c.args.range.low c.args.range.high _ c.sum_line.ensures.few)

pub returns-in-Withheld-clause-whole : goal.returns-in-Withheld-clause-whole
returns-in-Withheld-clause-whole g c =
    told c.args.kind g.K.Kind.numbers g.K.Kind.meaning c.args.range.low c.args.range.high c.args.table.now _ c.in-Withheld.is (called (ap (withheld_line c.args.range.low c.args.range.high c.in-Withheld.pair) c.first.ensures) c.withheld_line.ensures) (withheld_long c.args.range.low c.args.range.high c.in-Withheld.pair _)

pub returns-in-LostSlot-clause-whole : goal.returns-in-LostSlot-clause-whole
returns-in-LostSlot-clause-whole g c =
    told c.args.kind g.K.Kind.numbers g.K.Kind.meaning c.args.range.low c.args.range.high c.args.table.now _ c.in-LostSlot.is c.numbered_line.ensures (λ _. lost_long c.args.range.low c.args.range.high _)

pub returns-in-Refused-clause-whole : goal.returns-in-Refused-clause-whole
returns-in-Refused-clause-whole g c =
    let named = ap (λ n. form_text (codes "(refused") (c.args.range.low ∷ c.args.range.high ∷ n ∷ []) (codes ")\n")) (c.from.ensures ∙ c.number.ensures) in
    told c.args.kind g.K.Kind.numbers g.K.Kind.meaning c.args.range.low c.args.range.high c.args.table.now _ c.in-Refused.is (called named c.numbered_line-in-Refused.ensures) (λ _. refused_long c.args.range.low c.args.range.high _)
