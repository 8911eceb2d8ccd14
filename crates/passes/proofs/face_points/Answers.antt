-- `face_points` meets its contract. Assumes nothing.
use mathlib.Core.Path.{refl}
use Prim.Native.Nat.{◌/◌}
use native.Mathlib.Omega.{arith}
use Rattle.curve.specs.Weights.{tension}
use Rattle.facerules.specs.Faces.{face_coordinate, face_coordinates}
use Rattle.roundfaces.proofs.Faces.{corners_all}
use Rattle.passes.proofs.FacePass.{put_all, part_of, corners_on, corners_none}
use Rattle.passes.proofs.face_points.Goals as goal

pub put_faces-requires : goal.put_faces-requires
put_faces-requires c = part_of _ _ _ _ _ c.requires.face_table.1 _ _ _ _ c.requires.face_table.2 refl (omega arith) (omega arith)

pub returns-clause-out_after : goal.returns-clause-out_after
unfolding face_coordinates
returns-clause-out_after c = put_all (face_coordinate (tension c.args.t) c.args.n c.args.work.now) 0 (c.args.n / 4) c.args.out.now _ (omega arith) c.requires.face_table.2 c.put_faces.ensures.points

pub returns-clause-faces_after : goal.returns-clause-faces_after
returns-clause-faces_after c =
    let ok = c.requires.face_table.1 in
    corners_all _ _ _ _ _ ok _ 0 (omega arith) (corners_on _ _ _ _ _ ok _ _ 0 (c.args.n / 4) (omega arith) (corners_none _ _ _ _ _ ok (c.args.n / 4) refl) c.put_faces.auto.faces c.put_faces.ensures.corners)
