-- `face_points` meets its contract: the means of the faces below f are made, and face f begins at a. Assumes nothing.
use mathlib.Core.Path.{◌≡◌}
use Prim.Native.Nat.{◌+◌}
use lib.ListN.{take}
use Rattle.polygons.specs.Polygons.{total}
use Rattle.splitvertices.specs.Passes.{Made}
use Rattle.splitvertices.proofs.face_points.Given as goal

abbrev pub invariant-loop-f : goal.invariant-loop-f
invariant-loop-f l = (l.a ≡ total (take l.f l.sides)) × Made l.sides l.faces l.v l.initial.points l.points (l.v + l.edges + l.f)
