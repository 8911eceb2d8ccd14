-- `walk_to_mark` meets its contract: the next mark comes within as many steps as there are half-edges. Assumes nothing.
use Prim.Native.Nat.{◌+◌, ◌≤◌, ◌<◌}
use native.Mathlib.Omega.{arith}
use borrow.Author.Tests.{eq-eqb, ne_eqb}
use lib.ListN.{length, get_or, set}
use Rattle.bounds.specs.Bounds.{max_half_edges}
use Rattle.topology.specs.HalfEdge.{from}
use Rattle.nets.specs.Net.{marked}
use Rattle.boundarywalk.proofs.Walking.{Arrived, walking_start, walking_lt, walking_step, walking_end}
use Rattle.boundarywalk.proofs.walk_to_mark.Goals as goal
use Rattle.boundarywalk.proofs.walk_to_mark.Goals.{After-step_in-g}

-- the walk one step on, with its vertex written
arrived : (c : After-step_in-g) → let a = c.args in let q = c.loop-k in let g = c.step_in-g.result in Arrived a.net.sides.now a.net.faces.now a.net.marks.now a.work.now a.h a.against a.at (set q.work (a.at + q.k) (from a.net.faces.now g)) g (q.k + 1)
arrived c =
    let a = c.args in
    let q = c.loop-k in
    walking_step a.net.sides.now a.net.faces.now a.net.marks.now a.work.now a.h a.against a.at (c.requires.walkable, (c.requires.starts_at_mark, c.requires.list_room)) q.work q.g q.k q.invariant c.loop-k-test.true c.step_in-g.result c.step_in-g.ensures

sizes : (c : After-step_in-g) → let a = c.args in (c.step_in-g.result < length a.net.faces.now) × (length a.net.faces.now ≤ max_half_edges) × (a.at ≤ max_half_edges) × (a.at + c.loop-k.k < length c.loop-k.work)
sizes c =
    let r = c.requires.list_room.room in
    let e = c.loop-k.invariant.kept in
    let k = c.loop-k-test.true in
    ((arrived c).lt, c.requires.walkable.table.shaped.space.few, c.requires.list_room.few, omega arith)

pub loop-k-init : goal.loop-k-init
loop-k-init c =
    let a = c.args in
    walking_start a.net.sides.now a.net.faces.now a.net.marks.now a.work.now a.h a.against a.at (c.requires.walkable, (c.requires.starts_at_mark, c.requires.list_room))

pub step_in-g-requires-clause-h_in_bounds : goal.step_in-g-requires-clause-h_in_bounds
step_in-g-requires-clause-h_in_bounds c =
    let a = c.args in
    let q = c.loop-k in walking_lt a.net.sides.now a.net.faces.now a.net.marks.now a.work.now a.h a.against a.at (c.requires.walkable, (c.requires.starts_at_mark, c.requires.list_room)) q.work q.g q.k q.invariant

pub offset_bounds-faces-g : goal.offset_bounds-faces-g
offset_bounds-faces-g c = let z = sizes (goal.at.offset_bounds-faces-g c).After-step_in-g in omega arith

pub bounds-faces-g : goal.bounds-faces-g
bounds-faces-g c = (sizes (goal.at.bounds-faces-g c).After-step_in-g).0

pub offset_bounds-faces-g-in-loop-k : goal.offset_bounds-faces-g-in-loop-k
offset_bounds-faces-g-in-loop-k c = let z = sizes (goal.at.offset_bounds-faces-g-in-loop-k c).After-step_in-g in omega arith

pub bounds-faces-g-in-loop-k : goal.bounds-faces-g-in-loop-k
bounds-faces-g-in-loop-k c = (sizes (goal.at.bounds-faces-g-in-loop-k c).After-step_in-g).0

pub bounds-net-faces : goal.bounds-net-faces
unfolding from
bounds-net-faces c = c.requires.starts_at_mark.corners c.step_in-g.result (sizes (goal.at.bounds-net-faces c).After-step_in-g).0

pub returns-then-net-faces-eq1-clause-value : goal.returns-then-net-faces-eq1-clause-value
unfolding from marked
returns-then-net-faces-eq1-clause-value c =
    (arrived (goal.at.returns-then-net-faces-eq1-clause-value c).After-step_in-g).hit (eq-eqb (get_or c.args.net.marks.now (from c.args.net.faces.now c.step_in-g.result) 0) 1 c.if-net-faces-eq1.true)

pub returns-then-net-faces-eq1-clause-written : goal.returns-then-net-faces-eq1-clause-written
unfolding from marked
returns-then-net-faces-eq1-clause-written c = (arrived (goal.at.returns-then-net-faces-eq1-clause-written c).After-step_in-g).written

pub loop-k-preserved : goal.loop-k-preserved
unfolding from marked
loop-k-preserved c =
    (arrived (goal.at.loop-k-preserved c).After-step_in-g).on (ne_eqb (get_or c.args.net.marks.now (from c.args.net.faces.now c.step_in-g.result) 0) 1 c.if-net-faces-eq1.false)

pub returns-clause-value : goal.returns-clause-value
returns-clause-value c =
    let a = c.args in
    let q = c.loop-k in
    absurd (walking_end a.net.sides.now a.net.faces.now a.net.marks.now a.work.now a.h a.against a.at (c.requires.walkable, (c.requires.starts_at_mark, c.requires.list_room)) q.work q.g q.k q.invariant (omega arith))
