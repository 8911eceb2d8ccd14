-- `split_faces` meets its contract: the faces at the half-edges below h are written. Assumes nothing.
use native.Mathlib.Omega.{arith}
use Rattle.polygons.specs.Polygons.{shape_of}
use Rattle.splitfaces.proofs.Faces.{splitting_next, splitting_all}
use Rattle.splitfaces.proofs.split_faces.Goals as goal

pub loop-h-preserved : goal.loop-h-preserved
loop-h-preserved c =
    splitting_next (shape_of c.args.sides.now) c.args.v c.args.faces.now c.args.out.now c.loop-h.out _ c.loop-h.h c.loop-h-test.true c.requires.room c.loop-h.invariant c.split_face.ensures

pub returns : goal.returns
returns c = splitting_all (shape_of c.args.sides.now) c.args.v c.args.faces.now c.args.out.now c.loop-h.out c.loop-h.h (omega arith) c.requires.room c.loop-h.invariant
