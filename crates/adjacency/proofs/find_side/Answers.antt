-- `find_side` meets its contract: the walk along the chain of a passes all half-edges from a to b. Assumes nothing.
use mathlib.Core.Path.{sym, ◌∙◌}
use native.Mathlib.Omega.{arith}
use Rattle.polygons.specs.Polygons.{shape_of}
use Rattle.adjacency.specs.Chains.{side}
use Rattle.adjacency.proofs.Chains.{walk_start, walk_turn, walk_rises, walk_hit, walk_end}
use Rattle.adjacency.proofs.Sides.{side-leaves, side_on, side_off}
use Rattle.adjacency.proofs.find_side.Goals as goal

pub loop-g-init : goal.loop-g-init
loop-g-init c =
    let l = c.args.faces.now in
    walk_start (side (shape_of c.args.sides.now) l c.args.a c.args.b) l c.args.work.now c.args.a (side-leaves (shape_of c.args.sides.now) l c.args.a c.args.b) c.requires.chained c.requires.a_in_bounds

pub returns-then-entered-b : goal.returns-then-entered-b
returns-then-entered-b c =
    let l = c.args.faces.now in
    let k = c.loop-g.invariant in
    let h = c.loop-g-test.true in
    walk_hit (side (shape_of c.args.sides.now) l c.args.a c.args.b) l c.args.a _ k h (side_on (shape_of c.args.sides.now) l c.args.a c.args.b _ (k.chain.leaving h) (sym c.entered.ensures ∙ c.if-entered-b.true))

pub loop-g-smaller : goal.loop-g-smaller
loop-g-smaller c =
    omega (arith, walk_rises c.args.faces.now c.args.work.now c.loop-g.g c.requires.chained c.loop-g-test.true)

pub loop-g-preserved : goal.loop-g-preserved
loop-g-preserved c =
    let l = c.args.faces.now in
    walk_turn (side (shape_of c.args.sides.now) l c.args.a c.args.b) l c.args.work.now c.args.a (side-leaves (shape_of c.args.sides.now) l c.args.a c.args.b) c.requires.chained _ c.loop-g.invariant c.loop-g-test.true
    (side_off (shape_of c.args.sides.now) l c.args.a c.args.b _ (λ i. c.if-entered-b.false (c.entered.ensures ∙ i)))

pub returns : goal.returns
returns c = walk_end _ _ _ _ c.loop-g.invariant c.loop-g-test.false
