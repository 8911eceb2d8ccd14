-- `build_shape` meets its contract: the faces below f are written, and face f begins at a. Assumes nothing.
use Prim.Native.Nat.{◌*◌}
use mathlib.Core.Path.{◌≡◌}
use lib.ListN.{length, take}
use Rattle.polygons.specs.Polygons.{polygons, total}
use Rattle.tables.specs.Tables.{SameOutside}
use Rattle.sidetable.specs.Table.{ShapeTable}
use Rattle.sidetable.proofs.build_shape.Given as goal

abbrev pub invariant-loop-f : goal.invariant-loop-f
invariant-loop-f l = (l.a ≡ total (take l.f l.sides)) × ShapeTable (polygons l.sides) l.n l.work l.a × SameOutside (4 * l.n) (7 * l.n) l.initial.work l.work × (length l.sides ≡ 0 → l.work ≡ l.initial.work)
