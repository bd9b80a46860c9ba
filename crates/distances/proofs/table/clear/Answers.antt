-- Each turn makes one more entry zero, and past the table's end every entry counts as zero.
use Rattle.std.proofs.Common.{◌<◌, length, ◌∙◌, arith, below_more}
use Rattle.distances.proofs.Entries.{entry_set, entry_kept}
use Rattle.distances.proofs.table.clear.Goals as goal

pub loop-entry-preserved : goal.loop-entry-preserved
loop-entry-preserved g c =
    let G = g.K.Kind.group in
    let m = g.K.Kind.meaning in
    let table = c.loop-entry.table in
    let at = c.loop-entry.entry-index in
    let within : at < length table = omega arith in
    below_more _ _
    (λ k h. entry_kept G m table at k c.zero.result (λ e. omega arith) ∙ c.loop-entry.invariant k h)
    (entry_set G m table at c.zero.result within ∙ c.zero.ensures)
