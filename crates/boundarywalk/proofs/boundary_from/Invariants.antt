-- `boundary_from` meets its contract: no boundary half-edge below h leaves the vertex. Assumes nothing.
use Rattle.search.proofs.First.{Passed}
use Rattle.topology.specs.Boundary.{is_boundary_from}
use Rattle.polygons.specs.Polygons.{shape_of}
use Rattle.boundarywalk.proofs.boundary_from.Given as goal

abbrev pub invariant-loop-h : goal.invariant-loop-h
invariant-loop-h l = Passed (is_boundary_from (shape_of l.net.sides.now) l.net.faces.now l.p) l.h
