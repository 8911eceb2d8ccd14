-- `build_mates` meets its contract: the mates of the half-edges below h are written. Assumes nothing.
use mathlib.Core.Path.{◌≡◌}
use lib.ListN.{length, drop}
use Rattle.polygons.specs.Polygons.{shape_of}
use Rattle.adjacency.proofs.Chains.{MatedBelow}
use Rattle.adjacency.proofs.build_mates.Given as goal

abbrev pub invariant-loop-h : goal.invariant-loop-h
invariant-loop-h l = MatedBelow (shape_of l.sides) l.faces l.work l.h × (drop (length l.faces) l.work ≡ drop (length l.faces) l.initial.work)
