-- `count_faces` meets its contract: the half-edges from h on are counted. Assumes nothing.
use Prim.Native.Nat.{◌*◌}
use native.Mathlib.Omega.{arith}
use lib.ListN.{length}
use Rattle.polygons.specs.Polygons.{shape_of}
use Rattle.tables.specs.Tables.{SameOutside}
use Rattle.tables.proofs.Laws.{same_outside, outside_then, outside_wider}
use Rattle.slotsteps.specs.Slots.{SlotTables}
use Rattle.slotsteps.proofs.Slots.{tables_slots}
use Rattle.vertexcounts.proofs.Counts.{counted_none, countable, countable_kept, mates_kept}
use Rattle.vertexcounts.proofs.count_faces.Goals as goal

pub loop-h-init : goal.loop-h-init
loop-h-init c =
    let slots_outside : (let n = length c.args.faces.now in SameOutside (3 * n) (4 * n) c.args.work.now c.clear_from.new.work) = outside_wider _ _ _ _ _ _ (omega arith) (omega (arith, c.requires.slot_tables.fewer)) c.clear_from.ensures.same_outside in
    let tables : (SlotTables c.args.nv c.args.sides.now c.args.faces.now c.clear_from.new.work) = let o = slots_outside in
    tables_slots c.args.nv c.args.sides.now c.args.faces.now c.args.work.now c.clear_from.new.work c.clear_from.auto.work o.front o.rest c.requires.slot_tables in
    let outside : (let n = length c.args.faces.now in SameOutside n (4 * n) c.args.work.now c.clear_from.new.work) = outside_wider _ _ _ _ _ _ (omega arith) (omega arith) slots_outside in
    let l = c.args.faces.now in
    let w = c.clear_from.new.work in
    let t = tables in (
      countable c.args.nv c.args.sides.now l w t (mates_kept c.args.nv c.args.sides.now l c.args.work.now w c.clear_from.auto.work outside c.requires.mate_table_of),
      counted_none (shape_of c.args.sides.now) l c.args.nv w c.requires.slot_tables.fewer c.clear_from.ensures.zeros_from t.chains,
      same_outside _ _ _,
    )

pub loop-h-preserved : goal.loop-h-preserved
loop-h-preserved c =
    let l = c.args.faces.now in
    let inv = c.loop-h.invariant in
    let w = c.count_side.new.work in
    let o = c.count_side.ensures.same_outside in (
      countable_kept c.args.nv c.args.sides.now l c.loop-h.work w c.count_side.auto.work o inv.0,
      c.count_side.ensures.counted_from,
      outside_then _ _ _ _ _ _ _ (omega arith) (omega arith) o inv.2,
    )

pub returns-clause-same_outside : goal.returns-clause-same_outside
returns-clause-same_outside c =
    let slots_outside : (let n = length c.args.faces.now in SameOutside (3 * n) (4 * n) c.args.work.now c.clear_from.new.work) = outside_wider _ _ _ _ _ _ (omega arith) (omega (arith, c.requires.slot_tables.fewer)) c.clear_from.ensures.same_outside in
    let outside : (let n = length c.args.faces.now in SameOutside n (4 * n) c.args.work.now c.clear_from.new.work) = outside_wider _ _ _ _ _ _ (omega arith) (omega arith) slots_outside in
    outside_then _ _ _ _ _ _ _ (omega arith) (omega arith) c.loop-h.invariant.2 outside
