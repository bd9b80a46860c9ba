use Rattle.lines.proofs.Placing.{stopped, went_on, went_over}
use Rattle.lines.proofs.piece.ThenPiece.put.Goals as goal

pub returns-in_err-len : goal.returns-in_err-len
returns-in_err-len g c = stopped _ c.from_residual.ensures c.in_err-len.ensures

pub returns-in_err-put : goal.returns-in_err-put
returns-in_err-put g c = went_over c.from_residual-in_err-put.ensures c.in_ok-len.ensures c.in_err-put.ensures

pub returns : goal.returns
returns g c = went_on c.in_ok-len.ensures c.in_ok-put.ensures
