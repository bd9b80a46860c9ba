use Rattle.std.proofs.Common.{sym, ap, ◌∙◌, drop, length, ◌++◌, arith}
use Rattle.lines.proofs.Placing.{filled_some, filled_none, placed_whole, placed_cut}
use Rattle.lines.proofs.piece.TextPiece.put.Goals as goal

pub returns-then-self-room : goal.returns-then-self-room
returns-then-self-room c =
    let text = c.args.self.now.0.now in
    let out = c.args.out.now in
    record {
      value = sym (filled_none text out c.if-self-room.true);
      left = c.copy_from_slice.ensures.after ∙ sym (placed_cut text out (omega arith));
    }

pub returns : goal.returns
returns c =
    let text = c.args.self.now.0.now in
    let out = c.args.out.now in
    record {
      value = sym (filled_some text out c.if-self-room.false);
      left = ap (λ x. x ++ drop (length text) out) c.copy_from_slice-2.ensures.after ∙ sym (placed_whole text out c.if-self-room.false);
    }
