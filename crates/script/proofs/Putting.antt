-- What was written whole stands in the buffer's first bytes.
use Rattle.std.proofs.Common.{◌≡◌, ℕ, List, length, take, drop, Some, ap, ◌∙◌}
use lib.Seq.{take-append_seam}
use Rattle.lines.specs.Text.{Wrote}
use Rattle.lines.proofs.Placing.{fits, placed_whole}

pub put_whole : (text before after : List ℕ) (n : ℕ) → Wrote text before after (Some n) → take n after ≡ text
put_whole text before after n w =
    let f = fits text before n w.value in
    ap (λ (k : ℕ). take k after) f.0
    ∙ ap (take (length text)) (w.left ∙ placed_whole text before f.1)
    ∙ take-append_seam text (drop (length text) before)
