-- `sizes_for` meets its contract. Assumes nothing.
use Rattle.limits.specs.Answer.{room_in}
use Rattle.reports.proofs.Lengths.{refused_sizes, given_sizes}
use Rattle.reports.proofs.sizes_for.Goals as goal

pub returns-in-Ok : goal.returns-in-Ok
returns-in-Ok c =
    given_sizes _ _ _ c.args.sides.now _ _ c.quadrilaterals-quadrilaterals.ensures _ c.final_faces-g.ensures (room_in c.needed-least.result) c.needed-least.ensures c.in-Ok.ensures

pub returns-in-Err : goal.returns-in-Err
returns-in-Err c =
    let e = c.number.ensures in
    rw e
    (refused_sizes _ _ _ c.args.sides.now _ _ c.quadrilaterals-quadrilaterals.ensures _ c.final_faces-g.ensures (room_in c.needed-least.result) c.needed-least.ensures _ c.in-Err.ensures)
