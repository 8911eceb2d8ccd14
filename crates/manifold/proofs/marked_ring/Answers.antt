-- `marked_ring` meets its contract. Assumes nothing.
use mathlib.Core.Path.{sym, ap, ◌∙◌}
use mathlib.Core.Bool.{not}
use lib.ListN.{get_or}
use borrow.Author.Tests.{ne_eqb}
use Rattle.polygons.specs.Polygons.{shape_of}
use Rattle.manifold.proofs.Refused.{marked_on, marked_off, closed}
use Rattle.manifold.proofs.marked_ring.Goals as goal

pub returns-then-marks-p-eq1 : goal.returns-then-marks-p-eq1
returns-then-marks-p-eq1 c =
    let l = c.args.vertices.mesh.faces.now in
    ap not c.is_open.ensures ∙ closed (shape_of c.args.vertices.mesh.sides.now) l c.args.p ∙ sym (marked_on (shape_of c.args.vertices.mesh.sides.now) l c.args.p c.args.marks.now c.if-marks-p-eq1.true)

pub returns-else-marks-p-eq1 : goal.returns-else-marks-p-eq1
returns-else-marks-p-eq1 c = ne_eqb (get_or c.args.marks.now c.args.p 0) 1 c.if-marks-p-eq1.false ∙ sym (marked_off _ _ _ _ c.if-marks-p-eq1.false)
