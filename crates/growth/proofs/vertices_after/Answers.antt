-- `vertices_after` meets its contract: k steps are counted. Assumes nothing.
use mathlib.Core.Path.{refl, sym, ap, subst}
use native.Mathlib.Numerals.{add-one}
use native.Mathlib.Omega.{arith}
use Rattle.growth.specs.Growth.{counts, grown, grown_by}
use Rattle.growth.proofs.Bounds.{Small, small_by}
use Rattle.growth.proofs.vertices_after.Goals as goal
use Rattle.growth.proofs.vertices_after.Goals.{In-loop-k}

-- all fit
small : (c : In-loop-k) → Small (counts c.loop-k.vertices c.loop-k.e c.loop-k.f c.loop-k.n)
small c =
    let a = c.args in
    subst Small (sym c.loop-k.invariant) (small_by c.loop-k._k (counts a.v a.edges a.faces a.corners) c.requires.bounded c.requires.corners_le_max_corners.0 (omega arith))

pub loop-k-init : goal.loop-k-init
unfolding grown_by
loop-k-init c = refl

pub overflow_mul-refined : goal.overflow_mul-refined
overflow_mul-refined c = let b = small (goal.at.overflow_mul-refined c).In-loop-k in omega arith

pub overflow_add-vertices : goal.overflow_add-vertices
overflow_add-vertices c = let b = small (goal.at.overflow_add-vertices c).In-loop-k in omega arith

pub overflow_add-vertices-in-loop-k : goal.overflow_add-vertices-in-loop-k
overflow_add-vertices-in-loop-k c = let b = small (goal.at.overflow_add-vertices-in-loop-k c).In-loop-k in omega arith

pub overflow_mul-e : goal.overflow_mul-e
overflow_mul-e c = let b = small (goal.at.overflow_mul-e c).In-loop-k in omega arith

pub overflow_add-e : goal.overflow_add-e
overflow_add-e c = let b = small (goal.at.overflow_add-e c).In-loop-k in omega arith

pub loop-k-preserved : goal.loop-k-preserved
unfolding grown grown_by
loop-k-preserved c = rw (add-one c.loop-k._k) (ap grown c.loop-k.invariant)
