-- `tables::copy` meets its contract: after i turns the first i elements are copied. Assumes nothing.
use mathlib.Core.Path.{◌≡◌, ap, ◌∙◌}
use native.Mathlib.Omega.{arith}
use lib.ListN.{length, get_or, set}
use lib.Seq.{take-length}
use Rattle.lists.proofs.Prefix.{copy_one}
use Rattle.tables.specs.Tables.{filled}
use Rattle.tables.proofs.copy.Goals as goal

pub loop-i-preserved : goal.loop-i-preserved
loop-i-preserved g c =
    let s = c.args.src.now in
    let i = c.loop-i.i in
    let x = c.index-src-i.result in
    ap (λ y. set c.loop-i.dst i y) c.index-src-i.is ∙ ap (λ d. set d i (get_or s i x)) c.loop-i.invariant ∙ copy_one s c.args.dst.now i x c.loop-i-test.true (omega arith)

pub returns : goal.returns
unfolding filled
returns g c = let e : c.loop-i.i ≡ length c.args.src.now = omega arith in rw (e, take-length) at c.loop-i.invariant
