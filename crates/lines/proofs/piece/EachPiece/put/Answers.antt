use Rattle.std.proofs.Common.{arith}
use Rattle.lines.proofs.Placing.{begun, turned, turned_over}
use Rattle.lines.proofs.piece.EachPiece.put.Goals as goal

pub loop-piece-init : goal.loop-piece-init
loop-piece-init g c = begun _

pub returns-in_err-len : goal.returns-in_err-len
returns-in_err-len g c =
    turned_over g.P.Piece.text c.args.self.now.0.now c.loop-piece.piece-index _ (omega arith) c.piece-item.is c.from_residual.ensures c.loop-piece.invariant c.in_err-len.ensures

pub loop-piece-preserved : goal.loop-piece-preserved
loop-piece-preserved g c =
    turned g.P.Piece.text c.args.self.now.0.now c.loop-piece.piece-index _ (omega arith) c.piece-item.is c.loop-piece.invariant c.in_ok-len.ensures
