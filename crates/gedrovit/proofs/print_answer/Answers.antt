-- `gedrovit::print_answer` meets its contract: the answer to the bytes that were read fits its buffer. Assumes nothing.
use mathlib.Core.Path.{sym}
use native.Mathlib.Omega.{arith}
use lib.ListN.{length, take, length-take}
use lib.Seq.{take_all, length-take-le}
use Rattle.std.proofs.Common.{◌≤◌}
use Rattle.gedrovit.proofs.print_answer.Goals as goal

pub slice_bounds-out-end : goal.slice_bounds-out-end
slice_bounds-out-end g c =
    let t = take c.args.n c.args.text.now in
    let w = (c.answer-long.ensures t (sym (take_all (length c.args.text.now) t (omega (arith, length-take c.args.n c.args.text.now))))).fits in
    omega arith

pub slice_bounds-write_all-end : goal.slice_bounds-write_all-end
slice_bounds-write_all-end g c =
    let t = take c.args.n c.args.text.now in
    let w = (c.answer-long.ensures t (sym (take_all (length c.args.text.now) t (omega (arith, length-take c.args.n c.args.text.now))))).fits in
    let e : c.answer-long.result ≤ length c.answer-long.new.out = omega arith in
    sym (length-take-le _ _ e)
