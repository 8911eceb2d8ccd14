-- `reading::check` meets its contract. Assumes nothing.
use Rattle.std.proofs.lemmas.Result.{err_from_is_err_and}
use Rattle.reading.proofs.FirstLines.{head_refused, body_refused, body_read}
use Rattle.reading.proofs.check.Goals as goal

pub returns-in_err-head : goal.returns-in_err-head
returns-in_err-head c = let p = err_from_is_err_and c.from_residual.result c.from_residual.ensures.1 in rw (p.1, p.2) (head_refused c.in_err-head.ensures)

pub returns-in_err-faces_at : goal.returns-in_err-faces_at
returns-in_err-faces_at c = let p = err_from_is_err_and c.from_residual-in_err-faces_at.result c.from_residual-in_err-faces_at.ensures.1 in rw (p.1, p.2) (body_refused c.in_ok-head.ensures c.in_err-faces_at.ensures)

pub returns : goal.returns
returns c = body_read c.in_ok-head.ensures c.in_ok-faces_at.ensures
