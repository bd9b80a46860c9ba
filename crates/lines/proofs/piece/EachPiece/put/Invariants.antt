use Rattle.std.proofs.Common.{take, Some}
use Rattle.std.specs.List.{flat_map}
use Rattle.lines.specs.Text.{Wrote}
use Rattle.lines.proofs.piece.EachPiece.put.Given as goal

abbrev pub invariant-loop-piece : goal.invariant-loop-piece
invariant-loop-piece g l = Wrote (flat_map g.P.Piece.text (take l.piece-index l.self.0.now)) l.initial.out l.out (Some l.len)
