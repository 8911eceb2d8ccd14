-- `edge_points` meets its contract: the midpoints of the edges met before h are made. Assumes nothing.
use mathlib.Core.Path.{◌≡◌}
use Prim.Native.Nat.{◌+◌}
use Rattle.search.specs.Search.{count}
use Rattle.topology.specs.HalfEdge.{first_met}
use Rattle.polygons.specs.Polygons.{shape_of}
use Rattle.splitvertices.specs.Passes.{Made}
use Rattle.splitvertices.proofs.edge_points.Given as goal

abbrev pub invariant-loop-h : goal.invariant-loop-h
invariant-loop-h l =
    (l.edges ≡ count (first_met (shape_of l.mesh.sides.now) l.mesh.faces.now) l.h) × Made l.mesh.sides.now l.mesh.faces.now l.v l.initial.points l.points (l.v + l.edges)
