-- `far_on` meets its contract. Assumes nothing.
use mathlib.Core.Path.{◌≡◌, sym, ap, ◌∙◌}
use borrow.Author.Rules.{rules}
use Rattle.std.proofs.Common.{ℕ, Option}
use mir.Syntax.{w64}
use mir.Val.{SFits}
use mir.Facts.{to_z-of_z}
use Rattle.nets.specs.Net.{axis}
use Rattle.coordinates.specs.Stencil.{far_value}
use Rattle.coordinates.proofs.far_on.Goals as goal

pub returns-in-Some : goal.returns-in-Some
unfolding far_value
returns-in-Some c =
    let f : SFits w64 c.coordinate.result = search rules in
    let e : far_value (axis c.args.points.now c.args.a) c.args.o c.args.x c.args.y ≡ axis c.args.points.now c.args.a c.in-Some.v =
    ap (λ (o : Option ℕ). far_value (axis c.args.points.now c.args.a) o c.args.x c.args.y) c.in-Some.is in
    simp to_z-of_z (c.coordinate.ensures ∙ sym e)

pub returns-in-None : goal.returns-in-None
unfolding far_value
returns-in-None c =
    let f : SFits w64 c.mirrored.result = search rules in
    let fx : SFits w64 c.args.x = c.ranges.x in
    let fy : SFits w64 c.args.y = c.ranges.y in
    let m = simp to_z-of_z at c.mirrored.ensures in
    let e = ap (λ (o : Option ℕ). far_value (axis c.args.points.now c.args.a) o c.args.x c.args.y) c.in-None.is in
    simp to_z-of_z (m ∙ sym e)
