-- `split_faces` meets its contract: the faces at the half-edges below h are written. Assumes nothing.
use Rattle.polygons.specs.Polygons.{shape_of}
use Rattle.splitfaces.proofs.Faces.{Splitting}
use Rattle.splitfaces.proofs.split_faces.Given as goal

abbrev pub invariant-loop-h : goal.invariant-loop-h
invariant-loop-h l = Splitting (shape_of l.sides) l.v l.faces l.initial.out l.out l.h
