-- `take_slots` meets its contract: the half-edges before those below g that leave a have their mates. Assumes nothing.
use Prim.Native.Nat.{ℕ, ◌+◌, ◌*◌}
use mathlib.Core.Path.{◌≡◌, refl, ap, ◌∙◌}
use native.Mathlib.Omega.{arith}
use lib.ListN.{length, get_or}
use Rattle.polygons.specs.Polygons.{shape_of}
use Rattle.adjacency.specs.Chains.{chain_from}
use Rattle.adjacency.proofs.Chains.{on_chain, walk_rises, tables_lawful}
use Rattle.slotsteps.specs.Slots.{SlotTables}
use Rattle.slotsteps.proofs.Slots.{taking_skip, taking_end, slots_drop, served_drop, tables_mates}
use Rattle.slots.proofs.take_slots.Goals as goal
use Rattle.slots.proofs.take_slots.Goals.{In-loop-g, After-take_slot}

-- the tables stay, before a turn of the loop and after its step
tables : (c : In-loop-g) → SlotTables c.args.nv c.args.sides.now c.args.faces.now c.loop-g.work
tables c = tables_mates c.args.nv c.args.sides.now c.args.faces.now c.args.work.now c.loop-g.work c.loop-g.auto.work c.loop-g.invariant.2 c.requires.slot_tables

after : (c : After-take_slot) → SlotTables c.args.nv c.args.sides.now c.args.faces.now c.loop-g.work → SlotTables c.args.nv c.args.sides.now c.args.faces.now c.take_slot.new.work
after c was = tables_mates c.args.nv c.args.sides.now c.args.faces.now c.loop-g.work c.take_slot.new.work c.take_slot.auto.work c.take_slot.ensures.work_unchanged was

pub loop-g-init : goal.loop-g-init
loop-g-init c =
    let l = c.args.faces.now in
    let f = c.requires.slot_tables.fewer in
    let e = c.requires.slot_tables.chains.heads c.args.a (omega arith) in
    (rw e (on_chain l c.args.a 0 (omega arith)), rw e (taking_skip l c.args.a 0 (shape_of c.args.sides.now) c.args.work.now c.requires.a_lt_nv.1), refl)

pub take_slot-requires-clause-slot_tables : goal.take_slot-requires-clause-slot_tables
take_slot-requires-clause-slot_tables c = tables (goal.at.take_slot-requires-clause-slot_tables c).In-loop-g

pub take_slot-requires-clause-slots : goal.take_slot-requires-clause-slots
take_slot-requires-clause-slots c =
    slots_drop (shape_of c.args.sides.now) c.args.nv c.args.faces.now c.args.work.now c.loop-g.work c.loop-g.invariant.2 c.requires.slots

pub take_slot-requires-clause-served : goal.take_slot-requires-clause-served
take_slot-requires-clause-served c =
    let l = c.args.faces.now in served_drop (shape_of c.args.sides.now) l c.args.work.now c.loop-g.work c.args.a (length l) c.loop-g.invariant.2 c.requires.served

pub loop-g-smaller : goal.loop-g-smaller
loop-g-smaller c =
    let t = after (goal.at.loop-g-smaller c).After-take_slot (tables (goal.at.loop-g-smaller c).In-loop-g) in
    omega (arith, walk_rises c.args.faces.now c.take_slot.new.work c.loop-g.g t.chains c.loop-g-test.true)

pub loop-g-preserved : goal.loop-g-preserved
loop-g-preserved c =
    let l = c.args.faces.now in
    let b = c.loop-g-test.true in
    let t = after (goal.at.loop-g-preserved c).After-take_slot (tables (goal.at.loop-g-preserved c).In-loop-g) in
    let e : get_or c.take_slot.new.work (2 * length l + c.loop-g.g) 0 ≡ chain_from l c.args.a (c.loop-g.g + 1) =
    t.chains.nexts c.loop-g.g (omega arith) b ∙ ap (λ (v : ℕ). chain_from l v (c.loop-g.g + 1)) (c.loop-g.invariant.0.leaving b) in (
      rw e (on_chain l c.args.a (c.loop-g.g + 1) (omega arith)),
      rw e (taking_skip l c.args.a (c.loop-g.g + 1) (shape_of c.args.sides.now) c.take_slot.new.work c.take_slot.ensures.taking_2),
      c.take_slot.ensures.work_unchanged ∙ c.loop-g.invariant.2,
    )

pub returns-clause-taking : goal.returns-clause-taking
returns-clause-taking c =
    let l = c.args.faces.now in taking_end (shape_of c.args.sides.now) l c.loop-g.work c.args.a c.loop-g.g (tables_lawful c.args.sides.now l c.args.work.now c.requires.slot_tables.tables) c.loop-g-test.false c.loop-g.invariant.1
