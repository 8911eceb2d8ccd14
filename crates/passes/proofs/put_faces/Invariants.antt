-- `put_faces` meets its contract: the faces from g on are done. Assumes nothing.
use Prim.Native.Nat.{◌*◌, ◌≤◌}
use Rattle.curve.specs.Weights.{tension}
use Rattle.facerules.specs.Faces.{face_coordinate}
use Rattle.tables.specs.Tables.{Written}
use Rattle.roundfaces.specs.Faces.{refined_by}
use Rattle.passes.specs.Parts.{PointsPut}
use Rattle.passes.proofs.put_faces.Given as goal

abbrev pub invariant-loop-g : goal.invariant-loop-g
invariant-loop-g l =
    (l.f ≤ l.g) × PointsPut (face_coordinate (tension l.round.tension) l.round.half_edges l.round.work.now) l.g l.end l.initial.out l.out × Written (16 * l.g) (16 * l.end) (refined_by l.round.half_edges l.v l.edges l.initial.faces l.round.work.now) l.initial.faces l.faces
