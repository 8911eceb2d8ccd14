-- `meets_all` meets its contract: k turns from h lead to g, and turning has not stopped before. Assumes nothing.
use Rattle.polygons.specs.Polygons.{shape_of}
use Rattle.adjacency.proofs.Turning.{Turned}
use Rattle.adjacency.proofs.meets_all.Given as goal

abbrev pub invariant-loop-k : goal.invariant-loop-k
invariant-loop-k l = Turned (shape_of l.mesh.sides.now) l.mesh.faces.now l.h l.k l.g
