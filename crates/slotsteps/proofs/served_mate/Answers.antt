-- `served_mate` meets its contract. Assumes nothing.
use Prim.Native.Nat.{◌<◌}
use mathlib.Core.Path.{◌≡◌, refl, sym, ap, ◌∙◌}
use lib.ListN.{get_or}
use Rattle.polygons.specs.Polygons.{shape_of}
use Rattle.adjacency.specs.Chains.{side}
use Rattle.slotsteps.specs.Slots.{slot_of}
use Rattle.slotsteps.proofs.Slots.{mate_served, mate_none}
use Rattle.slotsteps.proofs.served_mate.Goals as goal
use Rattle.slotsteps.proofs.served_mate.Goals.{After-runs}

-- the vertex that p leaves, and whether its slot serves the side
bound : (c : After-runs) → get_or c.args.faces.now c.args.p 0 < c.args.nv
bound c = c.requires.slot_tables.corners.below c.args.p c.requires.p_in_bounds.0

test : (c : After-runs) → c.runs.result ≡ side (shape_of c.args.sides.now) c.args.faces.now c.args.a (get_or c.args.faces.now c.args.p 0) (slot_of c.args.faces.now c.args.work.now (get_or c.args.faces.now c.args.p 0))
test c = c.runs.ensures ∙ ap (side (shape_of c.args.sides.now) c.args.faces.now c.args.a (get_or c.args.faces.now c.args.p 0)) c.slot_of-s.ensures

pub returns-then-runs : goal.returns-then-runs
returns-then-runs c =
    let p = (goal.at.returns-then-runs c).After-runs in
    let l = c.args.faces.now in
    c.slot_of-s.ensures ∙ mate_served (shape_of c.args.sides.now) c.args.nv l c.args.work.now c.args.a c.requires.slots c.requires.served c.args.p (get_or l c.args.p 0) c.requires.p_in_bounds.1 refl (bound p) (sym (test p) ∙ c.if-runs.true)

pub returns : goal.returns
returns c =
    let p = (goal.at.returns c).After-runs in
    let l = c.args.faces.now in
    mate_none (shape_of c.args.sides.now) c.args.nv l c.args.work.now c.args.a c.requires.slots c.requires.served c.args.p (get_or l c.args.p 0) c.requires.p_in_bounds.1 refl (bound p) (sym (test p) ∙ c.if-runs.false)
