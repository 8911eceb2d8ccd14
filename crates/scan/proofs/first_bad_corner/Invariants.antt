-- `scan::first_bad_corner` meets its contract: no corner before h is bad. Assumes nothing.
use Rattle.search.proofs.First.{Passed}
use Rattle.polygons.specs.Polygons.{shape_of}
use Rattle.refusals.specs.Refusals.{bad_corner}
use Rattle.scan.proofs.first_bad_corner.Given as goal

abbrev pub invariant-loop-h : goal.invariant-loop-h
invariant-loop-h l = Passed (bad_corner (shape_of l.sides) l.nv l.faces) l.h
