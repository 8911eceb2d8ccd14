-- `scan::skip_good` meets its contract: the faces before f are good. Assumes nothing.
use Prim.Native.Nat.{◌*◌, ◌+◌}
use mathlib.Core.Path.{◌≡◌}
use native.Mathlib.Omega.{arith}
use Rattle.scan.proofs.Good.{good_next}
use Rattle.scan.proofs.skip_good.Goals as goal

pub loop-f-preserved : goal.loop-f-preserved
loop-f-preserved c =
    let t = c.loop-f-test.true in
    let next : 4 * (c.loop-f.f + 1) ≡ 4 * c.loop-f.f + 4 = omega arith in
    rw next (good_next c.args.nv c.args.faces.now (4 * c.loop-f.f) c.requires (omega arith) (omega arith) (c.good_face.ensures.good c.if-not-good_face.false) c.loop-f.invariant)
