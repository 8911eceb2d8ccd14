-- `count_faces` meets its contract: the half-edges from h on are counted. Assumes nothing.
use Prim.Native.Nat.{◌*◌}
use lib.ListN.{length}
use Rattle.polygons.specs.Polygons.{shape_of}
use Rattle.tables.specs.Tables.{SameOutside}
use Rattle.vertexcounts.specs.Counts.{Countable, CountedFrom}
use Rattle.vertexcounts.proofs.count_faces.Given as goal

abbrev pub invariant-loop-h : goal.invariant-loop-h
invariant-loop-h l = Countable l.nv l.sides l.faces l.work × CountedFrom (shape_of l.sides) l.nv l.faces l.work l.h × SameOutside (length l.faces) (4 * length l.faces) l.initial.work l.work
