-- `build_chains` meets its contract: the half-edges from h on are chained. Assumes nothing.
use Prim.Native.Nat.{◌+◌, ◌-◌}
use mathlib.Core.Path.{◌≡◌, subst}
use native.Mathlib.Omega.{arith}
use Rattle.tables.proofs.Laws.{outside_set, outside_then}
use Rattle.adjacency.specs.Chains.{Chained}
use Rattle.adjacency.proofs.Chains.{chained_link}
use Rattle.adjacency.proofs.build_chains.Goals as goal

pub loop-h-preserved : goal.loop-h-preserved
loop-h-preserved c =
    let l = c.args.faces.now in
    let h = c.loop-h.h in
    let w = c.loop-h.work in
    let inv = c.loop-h.invariant in
    let b = c.requires.corners.below (h - 1) (omega arith) in
    let e : h ≡ h - 1 + 1 = omega arith in (
      chained_link l w (h - 1) c.requires.corners (omega (arith, c.requires.room)) (omega arith) (subst (Chained l w) e inv.0),
      outside_set _ _ _ _ _ _ (omega arith) (omega arith) (outside_set _ _ _ _ _ _ (omega arith) (omega arith) inv.1),
    )

pub returns-clause-same_outside : goal.returns-clause-same_outside
returns-clause-same_outside c =
    let z = c.loop-h-test.false in outside_then _ _ _ _ _ _ _ (omega arith) (omega arith) c.loop-h.invariant.1 c.clear_chains.ensures.same_outside
