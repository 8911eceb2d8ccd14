-- `corner_sum` meets its contract: after k turns the coordinates of the first k corners are added. Assumes nothing.
use mathlib.Core.Path.{◌≡◌, ap, ap₂, ◌∙◌}
use Prim.Native.Nat.{ℕ, ◌+◌}
use native.Mathlib.Omega.{arith}
use borrow.Author.Rules.{rules}
use lib.IntN.{◌+ℤ◌}
use mir.Syntax.{w64}
use mir.Val.{SFits, to_z}
use mir.Facts.{to_z-of_z}
use Rattle.integers.specs.Sum.{sum}
use Rattle.integers.proofs.Sum.{sum_none, sum_more}
use Rattle.nets.specs.Net.{axis}
use Rattle.splitpoints.specs.Points.{corner_on}
use Rattle.splitpoints.proofs.Sizes.{sum_fits}
use Rattle.splitpoints.proofs.corner_sum.Goals as goal
use Rattle.splitpoints.proofs.corner_sum.Goals.{After-coordinate-total}

-- one corner more
more : (c : After-coordinate-total) → to_z w64 c.loop-k.total-bits +ℤ c.coordinate-total.result ≡ sum (c.loop-k.k + 1) (corner_on c.args.points.now c.args.faces.now c.args.h c.args.a)
unfolding corner_on
more c =
    ap₂ ◌+ℤ◌ c.loop-k.invariant (c.coordinate-total.ensures ∙ ap (λ (v : ℕ). axis c.args.points.now c.args.a v) c.start_of-v.ensures)
    ∙ sum_more c.loop-k.k (corner_on c.args.points.now c.args.faces.now c.args.h c.args.a)

pub loop-k-init : goal.loop-k-init
loop-k-init c = sum_none (corner_on c.args.points.now c.args.faces.now c.args.h c.args.a)

pub overflow_add-total : goal.overflow_add-total
overflow_add-total c =
    let g = more (goal.at.overflow_add-total c).After-coordinate-total in
    let b = c.loop-k-test.true in
    let f : SFits w64 c.coordinate-total.result = search rules in
    let s : SFits w64 (to_z w64 c.loop-k.total-bits +ℤ c.coordinate-total.result) =
    rw g (sum_fits c.args.points.now c.args.faces.now c.args.h c.args.c c.args.a (c.loop-k.k + 1) c.requires.0 c.requires.1 (omega arith)) in
    simp to_z-of_z s

pub loop-k-preserved : goal.loop-k-preserved
loop-k-preserved c =
    let g = more (goal.at.loop-k-preserved c).After-coordinate-total in
    let b = c.loop-k-test.true in
    let f : SFits w64 c.coordinate-total.result = search rules in
    let s : SFits w64 (to_z w64 c.loop-k.total-bits +ℤ c.coordinate-total.result) =
    rw g (sum_fits c.args.points.now c.args.faces.now c.args.h c.args.c c.args.a (c.loop-k.k + 1) c.requires.0 c.requires.1 (omega arith)) in
    simp to_z-of_z g
