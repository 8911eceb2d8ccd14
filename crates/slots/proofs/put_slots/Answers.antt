-- `put_slots` meets its contract: the half-edges below g that leave a are put. Assumes nothing.
use Prim.Native.Nat.{ℕ, ◌+◌, ◌*◌}
use mathlib.Core.Path.{◌≡◌, ap, ◌∙◌}
use native.Mathlib.Omega.{arith}
use lib.ListN.{length, get_or}
use Rattle.polygons.specs.Polygons.{shape_of}
use Rattle.tables.proofs.Laws.{same_outside, outside_then}
use Rattle.adjacency.specs.Chains.{chain_from}
use Rattle.adjacency.proofs.Chains.{on_chain, walk_rises}
use Rattle.slotsteps.specs.Slots.{SlotTables}
use Rattle.slotsteps.proofs.Slots.{putting_start, putting_skip, tables_slots}
use Rattle.slots.proofs.put_slots.Goals as goal
use Rattle.slots.proofs.put_slots.Goals.{In-loop-g, After-put_slot-least}

-- the tables stay, before a turn of the loop and after its step
tables : (c : In-loop-g) → SlotTables c.args.nv c.args.sides.now c.args.faces.now c.loop-g.work
tables c = let o = c.loop-g.invariant.2 in tables_slots c.args.nv c.args.sides.now c.args.faces.now c.args.work.now c.loop-g.work c.loop-g.auto.work o.front o.rest c.requires.slot_tables

after : (c : After-put_slot-least) → SlotTables c.args.nv c.args.sides.now c.args.faces.now c.loop-g.work → SlotTables c.args.nv c.args.sides.now c.args.faces.now c.put_slot-least.new.work
after c was =
    let o = c.put_slot-least.ensures.same_outside in tables_slots c.args.nv c.args.sides.now c.args.faces.now c.loop-g.work c.put_slot-least.new.work c.put_slot-least.auto.work o.front o.rest was

pub loop-g-init : goal.loop-g-init
loop-g-init c =
    let l = c.args.faces.now in
    let S = shape_of c.args.sides.now in
    let f = c.requires.slot_tables.fewer in
    let e = c.requires.slot_tables.chains.heads c.args.a (omega arith) in
    (rw e (on_chain l c.args.a 0 (omega arith)), rw e (putting_skip l c.args.a 0 S c.args.nv c.args.work.now c.args.bad (putting_start S c.args.nv l c.args.work.now c.args.a c.args.bad c.requires.slots c.requires.a_lt_nv.1)), same_outside _ _ _)

pub put_slot-least-requires-clause-slot_tables : goal.put_slot-least-requires-clause-slot_tables
put_slot-least-requires-clause-slot_tables c = tables (goal.at.put_slot-least-requires-clause-slot_tables c).In-loop-g

pub loop-g-smaller : goal.loop-g-smaller
loop-g-smaller c =
    let t = after (goal.at.loop-g-smaller c).After-put_slot-least (tables (goal.at.loop-g-smaller c).In-loop-g) in
    omega (arith, walk_rises c.args.faces.now c.put_slot-least.new.work c.loop-g.g t.chains c.loop-g-test.true)

pub loop-g-preserved : goal.loop-g-preserved
loop-g-preserved c =
    let l = c.args.faces.now in
    let b = c.loop-g-test.true in
    let t = after (goal.at.loop-g-preserved c).After-put_slot-least (tables (goal.at.loop-g-preserved c).In-loop-g) in
    let e : get_or c.put_slot-least.new.work (2 * length l + c.loop-g.g) 0 ≡ chain_from l c.args.a (c.loop-g.g + 1) =
    t.chains.nexts c.loop-g.g (omega arith) b ∙ ap (λ (v : ℕ). chain_from l v (c.loop-g.g + 1)) (c.loop-g.invariant.0.leaving b) in (
      rw e (on_chain l c.args.a (c.loop-g.g + 1) (omega arith)),
      rw e (putting_skip l c.args.a (c.loop-g.g + 1) (shape_of c.args.sides.now) c.args.nv c.put_slot-least.new.work c.put_slot-least.result c.put_slot-least.ensures.putting_2),
      outside_then _ _ _ _ _ _ _ (omega arith) (omega arith) c.put_slot-least.ensures.same_outside c.loop-g.invariant.2,
    )
