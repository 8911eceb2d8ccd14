-- `put_slot` meets its contract. Assumes nothing.
use Prim.Native.Nat.{ℕ, ◌<◌}
use mathlib.Core.Path.{◌≡◌, sym, ap, ◌∙◌, subst}
use native.Mathlib.Omega.{arith}
use Rattle.polygons.specs.Polygons.{shape_of}
use Rattle.adjacency.specs.Chains.{side}
use Rattle.adjacency.proofs.Chains.{next_within}
use Rattle.slotsteps.specs.Slots.{slot_of, Lesser}
use Rattle.slotsteps.proofs.Slots.{putting_served, putting_new}
use Rattle.slotsteps.proofs.put_slot.Goals as goal
use Rattle.slotsteps.proofs.put_slot.Goals.{After-runs}

-- the vertex that g enters, and whether its slot serves the side
bound : (c : After-runs) → c.entered-b.result < c.args.nv
bound c = let e = c.entered-b.ensures in rw e (c.requires.slot_tables.corners.below _ (next_within c.args.sides.now c.args.faces.now c.args.work.now c.args.g c.requires.slot_tables.tables c.requires.g_in_bounds.0))

test : (c : After-runs) → c.runs.result ≡ side (shape_of c.args.sides.now) c.args.faces.now c.args.a c.entered-b.result (slot_of c.args.faces.now c.args.work.now c.entered-b.result)
test c = c.runs.ensures ∙ ap (side (shape_of c.args.sides.now) c.args.faces.now c.args.a c.entered-b.result) c.slot_of-s.ensures

pub returns-then-runs-clause-putting_2 : goal.returns-then-runs-clause-putting_2
returns-then-runs-clause-putting_2 c =
    let p = (goal.at.returns-then-runs-clause-putting_2 c).After-runs in
    putting_served (shape_of c.args.sides.now) c.args.nv c.args.faces.now c.args.work.now c.args.a c.args.g c.args.bad c.entered-b.result c.requires.putting c.requires.g_in_bounds.0 c.requires.g_in_bounds.1 c.entered-b.ensures (bound p)
    (sym (test p) ∙ c.if-runs.true) c.lesser.result (subst (λ (i : ℕ). Lesser i c.args.g c.args.bad c.lesser.result) c.slot_of-s.ensures c.lesser.ensures)

pub returns-clause-putting_2 : goal.returns-clause-putting_2
returns-clause-putting_2 c =
    let p = (goal.at.returns-clause-putting_2 c).After-runs in
    let b = bound p in
    let f = c.requires.slot_tables.fewer in
    let o = c.requires.slot_tables.room in
    putting_new (shape_of c.args.sides.now) c.args.nv c.args.faces.now c.args.work.now c.args.a c.args.g c.args.bad c.entered-b.result c.requires.putting c.requires.g_in_bounds.0 c.requires.g_in_bounds.1 c.entered-b.ensures b
    (sym (test p) ∙ c.if-runs.false) (omega arith)
