-- `faces_by_families` meets its contract: the families from p on are done. Assumes nothing.
use mathlib.Core.Path.{◌≡◌, refl}
use Prim.Native.Nat.{◌+◌, ◌-◌, ◌*◌, ◌/◌}
use native.Mathlib.Omega.{arith}
use Rattle.curve.specs.Weights.{tension}
use Rattle.facerules.specs.Faces.{face_coordinate, face_coordinates}
use Rattle.roundfaces.proofs.Faces.{corners_all}
use Rattle.passes.proofs.FacePass.{put_none, put_then, put_all, part_of, corners_on, corners_none}
use Rattle.passes.proofs.faces_by_families.Goals as goal

pub loop-p-init : goal.loop-p-init
loop-p-init c =
    let w = c.args.family.made.whole in
    let e : 4 * (c.args.family.round.half_edges / 16) ≡ c.args.family.round.half_edges / 4 = omega arith in
    rw e (put_none _ _ _, corners_none _ _ _ _ _ c.requires.faces_in.0 _ refl)

pub put_family-requires-clause-part : goal.put_family-requires-clause-part
put_family-requires-clause-part c =
    let q = c.loop-p in
    let b = c.loop-p-test.true in
    part_of _ _ _ _ _ c.requires.faces_in.0 _ _ _ _ (let l = q.auto.out in omega arith) q.auto.faces (omega arith) (omega arith)

pub loop-p-preserved : goal.loop-p-preserved
loop-p-preserved c =
    let q = c.loop-p in
    let b = c.loop-p-test.true in
    let e : 4 * (q.p - 1) + 4 ≡ 4 * q.p = omega arith in (
      put_then _ _ (4 * q.p) _ _ q.out _ (omega arith) (omega arith) q.invariant.0 (rw e at c.put_family.ensures.points),
      corners_on _ _ _ _ _ c.requires.faces_in.0 q.faces _ _ (4 * q.p) (omega arith) q.invariant.1 c.put_family.auto.faces (rw e at c.put_family.ensures.corners),
    )

pub returns-clause-out_after : goal.returns-clause-out_after
unfolding face_coordinates
returns-clause-out_after c = put_all (face_coordinate (tension c.args.family.round.tension) c.args.family.round.half_edges c.args.family.round.work.now) (4 * c.loop-p.p) (c.args.family.round.half_edges / 4) c.args.out.now c.loop-p.out (omega (arith, c.loop-p-test.false)) c.requires.faces_in.1 c.loop-p.invariant.0

pub returns-clause-faces_after : goal.returns-clause-faces_after
returns-clause-faces_after c = corners_all c.args.family.round.half_edges c.args.v c.args.edges c.args.faces.now c.args.family.round.work.now c.requires.faces_in.0 c.loop-p.faces (4 * c.loop-p.p) (omega (arith, c.loop-p-test.false)) c.loop-p.invariant.1
