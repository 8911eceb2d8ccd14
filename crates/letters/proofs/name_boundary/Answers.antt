-- `name_boundary` meets its contract: what the half-edges below 4f touch is put right. Assumes nothing.
use mathlib.Core.Path.{◌≡◌}
use Prim.Native.Nat.{◌+◌, ◌*◌}
use native.Mathlib.Omega.{arith}
use Rattle.letters.proofs.Boundary.{put_then}
use Rattle.letters.proofs.name_boundary.Goals as goal

pub loop-f-preserved : goal.loop-f-preserved
loop-f-preserved c =
    let e : 4 * (c.loop-f.f + 1) ≡ 4 * c.loop-f.f + 4 = omega arith in
    rw e (put_then _ _ 0 (4 * c.loop-f.f) _ _ _ _ c.loop-f.invariant c.name_sides.ensures)
