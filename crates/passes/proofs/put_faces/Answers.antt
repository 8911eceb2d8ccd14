-- `put_faces` meets its contract: the faces from g on are done. Assumes nothing.
use mathlib.Core.Path.{◌≡◌, subst}
use Prim.Native.Nat.{ℕ, ◌+◌, ◌-◌, ◌*◌}
use native.Mathlib.Omega.{arith}
use lib.IntN.{ℤ}
use Rattle.curve.specs.Weights.{tension}
use Rattle.facerules.specs.Faces.{face_coordinate}
use Rattle.passes.proofs.FacePass.{put_none, put_then, put_one, face_still, corners_next}
use Rattle.tables.specs.Tables.{Written}
use Rattle.tables.proofs.Written.{written_none}
use Rattle.roundfaces.specs.Faces.{refined_by}
use Rattle.passes.specs.Parts.{PointsPut}
use Rattle.passes.proofs.put_faces.Goals as goal

pub loop-g-init : goal.loop-g-init
loop-g-init c = (c.requires.from, put_none _ _ _, written_none _ _ _)

pub refine_face-requires : goal.refine_face-requires
refine_face-requires c =
    let q = c.loop-g in
    let b = c.loop-g-test.true in
    face_still _ _ _ _ _ c.args.faces.now _ q.auto.faces (c.requires.each (q.g - 1) (omega arith) (omega arith))

pub loop-g-preserved : goal.loop-g-preserved
loop-g-preserved c =
    let q = c.loop-g in
    let b = c.loop-g-test.true in
    let i = q.invariant in
    let r = c.requires.room in
    let l = q.auto.out in
    let G : ℕ → ℕ → ℤ = face_coordinate (tension c.args.round.tension) c.args.round.half_edges c.args.round.work.now in
    let e : q.g - 1 + 1 ≡ q.g = omega arith in (
      omega arith,
      put_then _ (q.g - 1) q.g _ _ q.out _ (omega arith) (omega arith) i.1 (rw e at (put_one G (q.g - 1) q.out _ (omega arith) c.put_face.ensures)),
      corners_next _ _ _ _ q.g _ _ q.faces _ (omega arith) (omega arith) i.2 c.refine_face.ensures,
    )

pub returns-clause-points : goal.returns-clause-points
returns-clause-points c =
    let q = c.loop-g in
    let e : q.g ≡ c.args.f = omega arith in
    subst (λ (g : ℕ). PointsPut (face_coordinate (tension c.args.round.tension) c.args.round.half_edges c.args.round.work.now) g c.args.end c.args.out.now q.out) e q.invariant.1

pub returns-clause-corners : goal.returns-clause-corners
returns-clause-corners c =
    let q = c.loop-g in
    let e : q.g ≡ c.args.f = omega arith in
    subst (λ (g : ℕ). Written (16 * g) (16 * c.args.end) (refined_by c.args.round.half_edges c.args.v c.args.edges c.args.faces.now c.args.round.work.now) c.args.faces.now q.faces) e q.invariant.2
