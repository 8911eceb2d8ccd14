-- `scan::bad_corner` meets its contract: the other corners of the face are met side by side. Assumes nothing.
use mathlib.Core.Path.{sym}
use Prim.Native.Nat.{suc, ◌<◌}
use lib.ListN.{length}
use borrow.Author.Rules.{rules}
use Rattle.topology.specs.Shape.{Lawful}
use Rattle.topology.specs.HalfEdge.{from}
use Rattle.polygons.specs.Polygons.{shape_of}
use Rattle.polygons.proofs.Counts.{shape_lawful}
use Rattle.scan.proofs.Corners.{corner_range, circling_start, circling_lt, circling_hit, circling_next, circling_end, circling_less}
use Rattle.scan.proofs.bad_corner.Goals as goal

pub returns-then-a-nv : goal.returns-then-a-nv
unfolding from
returns-then-a-nv c =
    let lawful : Lawful (shape_of c.args.sides.now) (length c.args.faces.now) = shape_lawful c.args.sides.now (length c.args.faces.now) c.requires.shaped.space.sided in
    sym (corner_range (shape_of c.args.sides.now) c.args.nv c.args.faces.now lawful c.args.h c.requires.h_in_bounds c.if-a-nv.true)

pub loop-g-init : goal.loop-g-init
loop-g-init c =
    let lawful : Lawful (shape_of c.args.sides.now) (length c.args.faces.now) = shape_lawful c.args.sides.now (length c.args.faces.now) c.requires.shaped.space.sided in
    let e = c.next_in-g.ensures in
    (0, rw e (circling_start (shape_of c.args.sides.now) c.args.nv c.args.faces.now lawful c.args.h c.requires.h_in_bounds))

pub offset_bounds-faces-g : goal.offset_bounds-faces-g
offset_bounds-faces-g c =
    let lawful : Lawful (shape_of c.args.sides.now) (length c.args.faces.now) = shape_lawful c.args.sides.now (length c.args.faces.now) c.requires.shaped.space.sided in
    let inside : c.loop-g.g < length c.args.faces.now = circling_lt (shape_of c.args.sides.now) c.args.nv c.args.faces.now lawful c.args.h c.requires.h_in_bounds c.loop-g.g c.loop-g.invariant.0 c.loop-g.invariant.1 in
    let b = inside in search rules

pub bounds-faces-g : goal.bounds-faces-g
bounds-faces-g c =
    let lawful : Lawful (shape_of c.args.sides.now) (length c.args.faces.now) = shape_lawful c.args.sides.now (length c.args.faces.now) c.requires.shaped.space.sided in
    let inside : c.loop-g.g < length c.args.faces.now = circling_lt (shape_of c.args.sides.now) c.args.nv c.args.faces.now lawful c.args.h c.requires.h_in_bounds c.loop-g.g c.loop-g.invariant.0 c.loop-g.invariant.1 in
    inside

pub returns-then-faces-g : goal.returns-then-faces-g
unfolding from
returns-then-faces-g c =
    let lawful : Lawful (shape_of c.args.sides.now) (length c.args.faces.now) = shape_lawful c.args.sides.now (length c.args.faces.now) c.requires.shaped.space.sided in
    sym (circling_hit (shape_of c.args.sides.now) c.args.nv c.args.faces.now lawful c.args.h c.requires.h_in_bounds c.loop-g.g c.loop-g.invariant.0 c.loop-g.invariant.1 c.loop-g-test.true c.if-faces-g.true)

pub next_in-g-requires-in-loop-g-clause-h_lt_n : goal.next_in-g-requires-in-loop-g-clause-h_lt_n
next_in-g-requires-in-loop-g-clause-h_lt_n c =
    let lawful : Lawful (shape_of c.args.sides.now) (length c.args.faces.now) = shape_lawful c.args.sides.now (length c.args.faces.now) c.requires.shaped.space.sided in
    let inside : c.loop-g.g < length c.args.faces.now = circling_lt (shape_of c.args.sides.now) c.args.nv c.args.faces.now lawful c.args.h c.requires.h_in_bounds c.loop-g.g c.loop-g.invariant.0 c.loop-g.invariant.1 in inside

pub loop-g-smaller : goal.loop-g-smaller
unfolding from
loop-g-smaller c =
    let lawful : Lawful (shape_of c.args.sides.now) (length c.args.faces.now) = shape_lawful c.args.sides.now (length c.args.faces.now) c.requires.shaped.space.sided in
    let e = c.next_in-g-in-loop-g.ensures in
    rw e (circling_less (shape_of c.args.sides.now) c.args.nv c.args.faces.now lawful c.args.h c.requires.h_in_bounds c.loop-g.g c.loop-g.invariant.0 c.loop-g.invariant.1
    c.loop-g-test.true c.if-faces-g.false)

pub loop-g-preserved : goal.loop-g-preserved
unfolding from
loop-g-preserved c =
    let lawful : Lawful (shape_of c.args.sides.now) (length c.args.faces.now) = shape_lawful c.args.sides.now (length c.args.faces.now) c.requires.shaped.space.sided in
    let e = c.next_in-g-in-loop-g.ensures in (
      suc c.loop-g.invariant.0,
      rw e (circling_next (shape_of c.args.sides.now) c.args.nv c.args.faces.now lawful c.args.h c.requires.h_in_bounds c.loop-g.g c.loop-g.invariant.0 c.loop-g.invariant.1
          c.loop-g-test.true c.if-faces-g.false),
    )

pub returns : goal.returns
unfolding from
returns c =
    let lawful : Lawful (shape_of c.args.sides.now) (length c.args.faces.now) = shape_lawful c.args.sides.now (length c.args.faces.now) c.requires.shaped.space.sided in
    sym (circling_end (shape_of c.args.sides.now) c.args.nv c.args.faces.now lawful c.args.h c.requires.h_in_bounds c.loop-g.g c.loop-g.invariant.0 c.loop-g.invariant.1 c.loop-g-test.false c.if-a-nv.false)
