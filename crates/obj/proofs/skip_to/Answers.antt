-- `obj::skip_to` meets its contract. Assumes nothing.
use mathlib.Core.Path.{◌≡◌, sym, ◌∙◌}
use native.Mathlib.Omega.{arith}
use lib.ListN.{length}
use Rattle.obj.proofs.Fields.{skip_on, skip_stop, skip_newline, skip_end}
use Rattle.obj.proofs.skip_to.Goals as goal
use Rattle.obj.proofs.skip_to.Goals.{then-text-i-via-then-text-i, then-text-i-via-else-text-i+then-text-i-eq10}

pub returns-then-text-i : goal.returns-then-text-i
returns-then-text-i c =
    let l = c.args.text.now in
    let i = c.loop-i.i in
    elim c.then-text-i.branch [
      | then-text-i-via-then-text-i w ↦ record { rest = sym (c.loop-i.invariant ∙ skip_stop l i _ c.loop-i-test.true w.if-text-i.true); from = omega arith; within = omega arith }
      | then-text-i-via-else-text-i+then-text-i-eq10 w ↦ record { rest = sym (c.loop-i.invariant ∙ skip_newline l i _ c.loop-i-test.true w.if-text-i-eq10.true); from = omega arith; within = omega arith }
    ]

pub loop-i-preserved : goal.loop-i-preserved
loop-i-preserved c = c.loop-i.invariant ∙ skip_on c.args.text.now c.loop-i.i _ c.loop-i-test.true c.if-text-i.false c.if-text-i-eq10.false

pub returns : goal.returns
returns c =
    let l = c.args.text.now in
    let e : c.loop-i.i ≡ length l = omega arith in
    record { rest = sym (rw e at c.loop-i.invariant ∙ skip_end l (length l) _ (omega arith)); from = omega arith; within = omega arith }
