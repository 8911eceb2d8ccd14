-- `midpoint` meets its contract. Assumes nothing.
use mathlib.Core.Path.{◌≡◌, ap₂, ◌∙◌}
use Prim.Native.Nat.{◌*◌, ◌≤◌}
use native.Mathlib.Omega.{arith}
use borrow.Author.Rules.{rules}
use lib.IntN.{ℤ, nat_abs, ◌+ℤ◌}
use mir.Syntax.{w32, w64}
use mir.Val.{SFits}
use mir.Facts.{to_z-of_z}
use Rattle.bounds.specs.Bounds.{max_coordinate}
use Rattle.integers.proofs.AbsoluteValue.{abs-add}
use Rattle.integers.proofs.Range.{fits_abs}
use Rattle.rounding.specs.Rounding.{round}
use Rattle.splitpoints.specs.Points.{midpoint_on}
use Rattle.splitpoints.proofs.midpoint.Goals as goal

pub returns : goal.returns
unfolding midpoint_on
returns c =
    let both : ℤ = c.coordinate-x.result +ℤ c.coordinate-y.result in
    let small : nat_abs both ≤ 2 * max_coordinate = let x = c.coordinate-x in
    let y = c.coordinate-y in
    let p : nat_abs x.result ≤ max_coordinate = rw x.ensures (c.requires.0.small c.args.a c.requires.2) in
    let q : nat_abs y.result ≤ max_coordinate = rw y.ensures (c.requires.1.small c.args.a c.requires.2) in
    omega (arith, abs-add x.result y.result) in
    let fits : SFits w64 both = let b = small in fits_abs w64 both (omega arith) in
    let x = c.coordinate-x in
    let y = c.coordinate-y in
    let f : SFits w64 x.result = search rules in
    let g : SFits w64 y.result = search rules in
    let k = fits in
    let r : SFits w32 c.rounded.result = search rules in
    let e : c.rounded.result ≡ round both 2 = simp to_z-of_z at c.rounded.ensures in
    simp to_z-of_z (e ∙ ap₂ (λ (u v : ℤ). round (u +ℤ v) 2) x.ensures y.ensures)
