-- `scan::first_bad_corner` meets its contract: no corner before h is bad. Assumes nothing.
use mathlib.Core.Path.{sym, ◌∙◌}
use lib.ListN.{length}
use Rattle.polygons.specs.Polygons.{shape_of}
use Rattle.refusals.specs.Refusals.{bad_corner}
use Rattle.search.proofs.Found.{found_at, found_none}
use Rattle.scan.proofs.first_bad_corner.Goals as goal

pub returns-then-bad_corner : goal.returns-then-bad_corner
returns-then-bad_corner c =
    let l = c.args.faces.now in
    found_at (bad_corner (shape_of c.args.sides.now) c.args.nv l) (length l) c.loop-h.h c.loop-h.invariant c.loop-h-test.true (sym c.bad_corner.ensures ∙ c.if-bad_corner.true)

pub returns : goal.returns
returns c = let l = c.args.faces.now in found_none (bad_corner (shape_of c.args.sides.now) c.args.nv l) (length l) _ c.loop-h.invariant c.loop-h-test.false
