-- `mean` meets its contract. Assumes nothing.
use mathlib.Core.Path.{◌≡◌, ap, ◌∙◌}
use Prim.Native.Nat.{◌*◌, ◌≤◌}
use native.Mathlib.Omega.{arith}
use borrow.Author.Rules.{rules}
use lib.IntN.{ℤ, nat_abs}
use mir.Syntax.{w32, w64}
use mir.Val.{SFits}
use mir.Facts.{to_z-of_z}
use Rattle.bounds.specs.Bounds.{max_coordinate}
use Rattle.rounding.specs.Rounding.{round}
use Rattle.splitpoints.specs.Points.{mean_on}
use Rattle.splitpoints.proofs.Sizes.{sum_small}
use Rattle.splitpoints.proofs.mean.Goals as goal

pub rounded-requires : goal.rounded-requires
rounded-requires c =
    let p = c.requires.0 in
    let f : SFits w64 c.corner_sum-z.result = search rules in
    let b : nat_abs c.corner_sum-z.result ≤ c.args.c * max_coordinate =
    rw c.corner_sum-z.ensures (sum_small c.args.points.now c.args.faces.now c.args.h c.args.c c.args.a c.args.c p c.requires.1 (omega arith)) in
    simp to_z-of_z (p.some, p.eight, b)

pub returns : goal.returns
unfolding mean_on
returns c =
    let f : SFits w64 c.corner_sum-z.result = search rules in
    let r : SFits w32 c.rounded.result = search rules in
    let e : c.rounded.result ≡ round c.corner_sum-z.result c.args.c = simp to_z-of_z at c.rounded.ensures in
    simp to_z-of_z (e ∙ ap (λ (z : ℤ). round z c.args.c) c.corner_sum-z.ensures)
