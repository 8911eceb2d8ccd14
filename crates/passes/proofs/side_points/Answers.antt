-- `side_points` meets its contract: the half-edges below g are done. Assumes nothing.
use mathlib.Core.Path.{◌≡◌, subst}
use Prim.Native.Nat.{ℕ, ◌<◌}
use native.Mathlib.Omega.{arith}
use lib.ListN.{length}
use Rattle.familylines.specs.Steps.{Carries}
use Rattle.familylines.proofs.Going.{carries_none, carries_then, turned_carries}
use Rattle.passes.proofs.EdgePass.{turn_of, underway_then}
use Rattle.passes.proofs.side_points.Goals as goal

pub loop-g-init : goal.loop-g-init
loop-g-init c = carries_none c.args.t c.args.faces.now c.args.marks.now _ _ _ _

pub edge_side-met-requires : goal.edge_side-met-requires
edge_side-met-requires c =
    let q = c.loop-g in
    let b = c.loop-g-test.true in
    turn_of _ _ _ _ _ _ _ _ _ (underway_then _ _ _ _ _ _ _ _ _ _ _ _ _ c.requires.underway q.invariant) (omega arith)

pub loop-g-preserved : goal.loop-g-preserved
loop-g-preserved c =
    let q = c.loop-g in
    let b = c.loop-g-test.true in
    let lt : q.g < length c.args.faces.now = omega arith in
    carries_then c.args.t c.args.faces.now c.args.marks.now _ _ _ _ _ _ _ _ _ _ _ _ q.invariant (turned_carries c.args.t c.args.faces.now c.args.marks.now _ _ _ _ _ _ _ lt c.edge_side-met.ensures)

pub returns : goal.returns
returns c =
    let q = c.loop-g in
    let e : q.g ≡ c.args.end = omega arith in
    subst (λ (g : ℕ). Carries c.args.t c.args.faces.now c.args.marks.now c.args.h c.args.edges g q.met c.args.points.now c.args.work.now q.points q.work) e q.invariant
