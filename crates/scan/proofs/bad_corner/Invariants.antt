-- `scan::bad_corner` meets its contract: the other corners of the face are met side by side. Assumes nothing.
use Prim.Native.Nat.{ℕ}
use Rattle.polygons.specs.Polygons.{shape_of}
use Rattle.scan.proofs.Corners.{Circling, steps_to}
use Rattle.scan.proofs.bad_corner.Given as goal

abbrev pub invariant-loop-g : goal.invariant-loop-g
invariant-loop-g l = (k : ℕ) × Circling (shape_of l.sides) l.faces l.h l.g k

abbrev pub decreases-loop-g : goal.decreases-loop-g
decreases-loop-g l = steps_to (shape_of l.sides) l.h l.g
