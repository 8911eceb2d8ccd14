-- `bad_sides` meets its contract: the counts met so far are good, and with what is left they make the number of corners. Assumes nothing.
use mathlib.Core.Path.{sym, ◌∙◌}
use native.Mathlib.Omega.{arith}
use Rattle.polygons.specs.Polygons.{total}
use Rattle.search.proofs.First.{passed_start, passed_next}
use Rattle.polygons.proofs.Counts.{bad_at, bad_count_lem, bad_more, bad_end, total_next}
use Rattle.limits.proofs.bad_sides.Goals as goal
use Rattle.limits.proofs.bad_sides.Goals.{then-bad_count-via-then-bad_count, then-bad_count-via-else-bad_count+then-left-c}

pub loop-side-init : goal.loop-side-init
unfolding total
loop-side-init c = (passed_start _, omega arith)

pub returns-then-bad_count : goal.returns-then-bad_count
returns-then-bad_count c =
    elim c.then-bad_count.branch [
      | then-bad_count-via-then-bad_count w ↦ bad_count_lem _ _ _ c.loop-side-test.true (sym c.bad_count.ensures ∙ w.if-bad_count.true)
      | then-bad_count-via-else-bad_count+then-left-c w ↦ bad_more _ _ _ _ c.loop-side-test.true c.loop-side.invariant.1 w.if-left-c.true
    ]

pub loop-side-preserved : goal.loop-side-preserved
loop-side-preserved c =
    let s = c.args.sides.now in
    let f = c.loop-side.side-index in
    let inv = c.loop-side.invariant in
    let k = c.loop-side-test.true in
    let left = c.if-left-c.false in
    (passed_next (bad_at s) f inv.0 (sym c.bad_count.ensures ∙ c.if-bad_count.false), omega (arith, total_next s f k))

pub returns : goal.returns
returns c = bad_end _ _ _ _ c.loop-side-test.false c.loop-side.invariant.0 c.loop-side.invariant.1
