-- `write_face` meets its contract: the sides below j are written. Assumes nothing.
use Prim.Native.Nat.{◌+◌, ◌*◌}
use Rattle.polygons.specs.Polygons.{polygons}
use Rattle.tables.specs.Tables.{SameOutside}
use Rattle.sidetable.specs.Table.{ShapeTable}
use Rattle.sidetable.proofs.write_face.Given as goal

abbrev pub invariant-loop-j : goal.invariant-loop-j
invariant-loop-j l = ShapeTable (polygons l.sides) l.n l.work (l.a + l.j) × SameOutside (4 * l.n) (7 * l.n) l.initial.work l.work
