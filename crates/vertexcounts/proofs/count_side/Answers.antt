-- `count_side` meets its contract. Assumes nothing.
use Prim.Native.Nat.{◌+◌}
use native.Mathlib.Omega.{arith}
use lib.ListN.{get_or}
use Rattle.polygons.specs.Polygons.{shape_of}
use Rattle.topology.proofs.Mates.{mate-le}
use Rattle.vertexcounts.proofs.Counts.{counted_inner, counted_open, counted_room}
use Rattle.vertexcounts.proofs.count_side.Goals as goal

pub overflow_add-work-then-mate-n : goal.overflow_add-work-then-mate-n
overflow_add-work-then-mate-n c =
    let l = c.args.faces.now in
    omega (arith, counted_room (shape_of c.args.sides.now) l c.args.nv c.args.work.now (c.args.h + 1) (get_or l c.args.h 0) c.requires.countable.few (c.requires.countable.corners.below c.args.h c.requires.h_in_bounds.0) c.requires.h_in_bounds.1)

pub returns-then-mate-n-clause-counted_from : goal.returns-then-mate-n-clause-counted_from
returns-then-mate-n-clause-counted_from c =
    let l = c.args.faces.now in
    let b = c.requires.countable.corners.below c.args.h c.requires.h_in_bounds.0 in
    let f = c.requires.countable.fewer in
    let e = c.mate.ensures in
    let t = c.if-mate-n.true in counted_inner (shape_of c.args.sides.now) l c.args.nv c.args.work.now c.args.h c.requires.h_in_bounds.0 f c.requires.countable.room b c.requires.h_in_bounds.1 (λ z. let k : ⊥ = omega arith in k)

pub overflow_add-work-3 : goal.overflow_add-work-3
overflow_add-work-3 c =
    let l = c.args.faces.now in
    omega (arith, counted_room (shape_of c.args.sides.now) l c.args.nv c.args.work.now (c.args.h + 1) (get_or l c.args.h 0) c.requires.countable.few (c.requires.countable.corners.below c.args.h c.requires.h_in_bounds.0) c.requires.h_in_bounds.1)

pub returns-clause-counted_from : goal.returns-clause-counted_from
returns-clause-counted_from c =
    let l = c.args.faces.now in
    let S = shape_of c.args.sides.now in
    let b = c.requires.countable.corners.below c.args.h c.requires.h_in_bounds.0 in
    let f = c.requires.countable.fewer in
    let e = c.mate.ensures in
    let t = c.if-mate-n.false in
    let m = mate-le S l c.args.h in counted_open S l c.args.nv c.args.work.now c.args.h c.requires.h_in_bounds.0 f c.requires.countable.room b c.requires.h_in_bounds.1 (omega arith)
