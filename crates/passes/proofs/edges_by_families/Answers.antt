-- `edges_by_families` meets its contract: the families below p are done. Assumes nothing.
use mathlib.Core.Path.{◌≡◌, subst}
use Prim.Native.Nat.{ℕ, ◌+◌, ◌*◌}
use native.Mathlib.Omega.{arith}
use lib.ListN.{length}
use Rattle.familylines.specs.Steps.{Carries}
use Rattle.familylines.proofs.Going.{carries_none, carries_then}
use Rattle.passes.proofs.EdgePass.{whole, underway_none, underway_then}
use Rattle.passes.proofs.edges_by_families.Goals as goal

pub loop-p-init : goal.loop-p-init
loop-p-init c = carries_none c.args.t c.args.faces.now c.args.marks.now _ _ _ _

pub family_points-edges-requires-clause-underway : goal.family_points-edges-requires-clause-underway
family_points-edges-requires-clause-underway c = underway_then _ _ _ _ _ _ _ _ _ _ _ _ _ (underway_none _ _ _ _ _ _ _ c.requires.round) c.loop-p.invariant

pub loop-p-preserved : goal.loop-p-preserved
loop-p-preserved c =
    let e : 16 * (c.loop-p.p + 1) ≡ 16 * c.loop-p.p + 16 = omega arith in
    rw e (carries_then c.args.t c.args.faces.now c.args.marks.now _ _ _ _ _ _ _ _ _ _ _ _ c.loop-p.invariant c.family_points-edges.ensures)

pub returns : goal.returns
returns c =
    let q = c.loop-p in
    let z = whole c.args.faces.now c.requires.after_round in
    let e : 16 * q.p ≡ length c.args.faces.now = omega arith in
    subst (λ (h : ℕ). Carries c.args.t c.args.faces.now c.args.marks.now 0 0 h q.edges c.args.points.now c.args.work.now q.points q.work) e q.invariant
