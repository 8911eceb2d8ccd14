-- `build_shape` meets its contract: the faces below f are written, and face f begins at a. Assumes nothing.
use mathlib.Core.Path.{refl}
use native.Mathlib.Omega.{arith}
use Rattle.polygons.specs.Polygons.{total}
use Rattle.tables.proofs.Laws.{same_outside, outside_then}
use Rattle.polygons.proofs.Counts.{total_next}
use Rattle.sidetable.proofs.Table.{face_ends, table_none, shaped_all}
use Rattle.sidetable.proofs.build_shape.Goals as goal

pub loop-f-init : goal.loop-f-init
unfolding total
loop-f-init c = (refl, table_none _ _ _, same_outside _ _ _, λ z. refl)

pub overflow_add-a : goal.overflow_add-a
overflow_add-a c =
    let k = face_ends c.args.sides.now c.args.n c.args.work.now c.requires c.loop-f.f c.loop-f-test.true in omega arith

pub loop-f-preserved : goal.loop-f-preserved
loop-f-preserved c =
    let inv = c.loop-f.invariant in
    let e = c.write_face.ensures in
    let x = total_next c.args.sides.now c.loop-f.f c.loop-f-test.true in
    (omega arith, e.shape_table_2, outside_then _ _ _ _ _ _ _ (omega arith) (omega arith) e.same_outside inv.2, λ z. absurd (omega (arith, z)))

pub returns : goal.returns
returns c =
    let inv = c.loop-f.invariant in
    record { shaped = shaped_all _ _ _ _ _ _ c.requires c.loop-f.auto.work c.loop-f-test.false inv.0 inv.1; outside = inv.2; none = inv.3 }
