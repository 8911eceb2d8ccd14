-- `obj::Named::read` meets its contract. Assumes nothing.
use native.Mathlib.Omega.{arith}
use Rattle.decimal.proofs.Reading.{gives_none}
use Rattle.obj.proofs.Fields.{corner_bad, corner_zero, corner_ended}
use Rattle.obj.proofs.NamedCorner.read.Goals as goal

pub returns-in_err-n : goal.returns-in_err-n
returns-in_err-n c = gives_none c.from_residual.ensures (corner_bad c.args.line.now c.args.at c.args.end c.in_err-n.ensures)

pub returns-in_err-vertex : goal.returns-in_err-vertex
returns-in_err-vertex c =
    gives_none c.from_residual-in_err-vertex.ensures (corner_zero c.args.line.now c.args.at c.args.end c.in_ok-n.ensures (omega (arith, c.in_err-vertex.ensures)))

pub returns : goal.returns
returns c =
    let k = c.in_ok-vertex.ensures in
    corner_ended c.args.line.now c.args.at c.args.end c.in_ok-n.ensures k.0 k.1 c.field_end.ensures c.ended.ensures
