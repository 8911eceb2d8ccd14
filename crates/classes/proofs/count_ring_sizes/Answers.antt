-- `count_ring_sizes` meets its contract: the half-edges below h are counted. Assumes nothing.
use mathlib.Core.Path.{◌≡◌, subst}
use Prim.Native.Nat.{ℕ, ◌+◌}
use native.Mathlib.Omega.{arith}
use lib.ListN.{length}
use Rattle.tables.specs.Tables.{SameOutside}
use Rattle.tables.proofs.Laws.{same_outside, outside_then}
use Rattle.ringsizes.specs.Classes.{CountedBelow}
use Rattle.ringsizes.proofs.Classes.{counted_none, counted_all}
use Rattle.classes.proofs.count_ring_sizes.Goals as goal

pub loop-h-init : goal.loop-h-init
loop-h-init c = (counted_none _ _ _ _ c.clear_from.ensures.zeros_from, same_outside _ _ _)

pub returns-clause-ring_sizes : goal.returns-clause-ring_sizes
returns-clause-ring_sizes c =
    let outside : (SameOutside c.args.at (c.args.at + c.args.v) c.args.work.now c.loop-h.work) = outside_then _ _ _ _ _ _ _ (omega arith) (omega arith) c.loop-h.invariant.1 c.clear_from.ensures.same_outside in
    let h = c.loop-h in
    let e : h.h ≡ length c.args.faces.now = omega arith in counted_all c.args.v c.args.at c.args.faces.now h.work c.requires.net (subst (λ (i : ℕ). CountedBelow c.args.v c.args.at c.args.faces.now h.work i) e h.invariant.0)
