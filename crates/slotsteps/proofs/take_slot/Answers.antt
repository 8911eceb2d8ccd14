-- `take_slot` meets its contract. Assumes nothing.
use Prim.Native.Nat.{ℕ, ◌<◌}
use mathlib.Core.Path.{ap, ◌∙◌}
use native.Mathlib.Omega.{arith}
use lib.ListN.{length, get_or}
use lib.Seq.{drop-set-lt}
use Rattle.polygons.specs.Polygons.{shape_of}
use Rattle.topology.proofs.Mates.{mate-le}
use Rattle.adjacency.proofs.Chains.{tables_lawful, prev_within}
use Rattle.slotsteps.proofs.Slots.{taking_next}
use Rattle.slotsteps.proofs.take_slot.Goals as goal

pub served_mate-requires-clause-p_in_bounds : goal.served_mate-requires-clause-p_in_bounds
served_mate-requires-clause-p_in_bounds c =
    let l = c.args.faces.now in
    let S = shape_of c.args.sides.now in
    let t = c.requires.slot_tables.tables in
    let e = c.prev_in-p.ensures in
    (rw e (prev_within c.args.sides.now l c.args.work.now c.args.g t c.requires.g_in_bounds.0), ap (λ (i : ℕ). get_or l (S.next i) 0) e ∙ ap (λ (i : ℕ). get_or l i 0) ((tables_lawful c.args.sides.now l c.args.work.now t).next_prev c.args.g) ∙ c.requires.g_in_bounds.1)

pub overflow_cast-work : goal.overflow_cast-work
overflow_cast-work c =
    omega (arith, c.served_mate.ensures, mate-le (shape_of c.args.sides.now) c.args.faces.now c.prev_in-p.result, c.requires.slot_tables.tables.few)

pub returns-clause-taking_2 : goal.returns-clause-taking_2
returns-clause-taking_2 c =
    let l = c.args.faces.now in
    let b = prev_within c.args.sides.now l c.args.work.now c.args.g c.requires.slot_tables.tables c.requires.g_in_bounds.0 in
    let e = c.prev_in-p.ensures in
    let r = c.requires.slot_tables.room in taking_next (shape_of c.args.sides.now) l c.args.work.now c.args.a c.args.g c.prev_in-p.result c.served_mate.result e (omega arith) c.served_mate.ensures c.requires.taking

pub returns-clause-work_unchanged : goal.returns-clause-work_unchanged
returns-clause-work_unchanged c =
    let e = c.prev_in-p.ensures in
    let b : c.prev_in-p.result < length c.args.faces.now = rw e (prev_within c.args.sides.now c.args.faces.now c.args.work.now c.args.g c.requires.slot_tables.tables c.requires.g_in_bounds.0) in
    drop-set-lt _ _ _ _ b
