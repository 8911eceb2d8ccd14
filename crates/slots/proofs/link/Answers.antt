-- `link` meets its contract: the half-edges that leave vertices below a are put, those that enter them have their mates. Assumes nothing.
use Prim.Native.Nat.{◌*◌}
use mathlib.Core.Path.{refl, ◌∙◌}
use native.Mathlib.Omega.{arith}
use lib.ListN.{length}
use Rattle.polygons.specs.Polygons.{shape_of}
use Rattle.lists.proofs.Parts.{drop_later}
use Rattle.search.proofs.Found.{found_if}
use Rattle.tables.specs.Tables.{SameOutside}
use Rattle.tables.proofs.Laws.{outside_wider}
use Rattle.adjacency.proofs.Chains.{tables_lawful}
use Rattle.slotsteps.specs.Slots.{SlotTables, repeats}
use Rattle.slotsteps.proofs.Slots.{slots_zeros, slots_drop, least_start, least_all, taking_start, taking_all, tables_slots, tables_mates}
use Rattle.slots.proofs.link.Goals as goal
use Rattle.slots.proofs.link.Goals.{After-clear_from, After-put_slots-bad}

-- only slots were cleared
outside : (c : After-clear_from) → (let n = length c.args.faces.now in SameOutside (3 * n) (4 * n) c.args.work.now c.clear_from.new.work)
outside c = outside_wider _ _ _ _ _ _ (omega arith) (omega (arith, c.requires.fewer)) c.clear_from.ensures.same_outside

-- the tables after putting
put : (c : After-put_slots-bad) → SlotTables c.args.nv c.args.sides.now c.args.faces.now c.put_slots-bad.new.work
put c =
    let o = c.put_slots-bad.ensures.same_outside in
    tables_slots c.args.nv c.args.sides.now c.args.faces.now c.loop-a.work c.put_slots-bad.new.work c.put_slots-bad.auto.work o.front o.rest c.loop-a.invariant.tables

pub loop-a-init : goal.loop-a-init
loop-a-init c =
    let l = c.args.faces.now in
    let S = shape_of c.args.sides.now in
    let w = c.clear_from.new.work in
    let o = outside (goal.at.loop-a-init c).After-clear_from in
    record {
      tables = tables_slots c.args.nv c.args.sides.now l c.args.work.now w c.clear_from.auto.work o.front o.rest c.requires;
      slots = slots_zeros S c.args.nv l w c.requires.fewer c.clear_from.ensures.zeros_from;
      least = least_start S l;
      taking = taking_start S l w;
      rest = refl;
    }

pub take_slots-requires-clause-slot_tables : goal.take_slots-requires-clause-slot_tables
take_slots-requires-clause-slot_tables c = put (goal.at.take_slots-requires-clause-slot_tables c).After-put_slots-bad

pub loop-a-preserved : goal.loop-a-preserved
loop-a-preserved c =
    let l = c.args.faces.now in
    let e = c.put_slots-bad.ensures in
    let w₁ = c.put_slots-bad.new.work in
    let w₂ = c.take_slots.new.work in
    let d = c.take_slots.ensures.work_unchanged in
    record {
      tables = tables_mates c.args.nv c.args.sides.now l w₁ w₂ c.take_slots.auto.work d (put (goal.at.loop-a-preserved c).After-put_slots-bad);
      slots = slots_drop (shape_of c.args.sides.now) c.args.nv l w₁ w₂ d e.slots_2;
      least = e.least;
      taking = c.take_slots.ensures.taking;
      rest = drop_later (length l) (4 * length l) w₂ w₁ (omega arith) d ∙ e.same_outside.rest ∙ c.loop-a.invariant.rest;
    }

pub returns-clause-value : goal.returns-clause-value
returns-clause-value c =
    let l = c.args.faces.now in
    let S = shape_of c.args.sides.now in
    rw c.then_some.ensures
    (found_if (repeats S l) (length l) c.loop-a.bad (least_all S c.args.nv l c.loop-a.a c.loop-a.bad c.requires.corners c.loop-a-test.false c.loop-a.invariant.least))

pub returns-clause-mate_table_of : goal.returns-clause-mate_table_of
returns-clause-mate_table_of c =
    let l = c.args.faces.now in
    taking_all (shape_of c.args.sides.now) c.args.nv l c.loop-a.work c.loop-a.a (tables_lawful c.args.sides.now l c.args.work.now c.requires.tables) c.requires.corners c.loop-a-test.false c.loop-a.invariant.taking

pub returns-clause-work_unchanged : goal.returns-clause-work_unchanged
returns-clause-work_unchanged c = let o = outside (goal.at.returns-clause-work_unchanged c).After-clear_from in c.loop-a.invariant.rest ∙ o.rest
