-- `rounded` meets its contract: twice the sum over twice its number of terms is the same fraction, and the rounded value is in the range of 32 bits. Assumes nothing.
use mathlib.Core.Path.{◌≡◌, ◌∙◌}
use Prim.Native.Nat.{◌*◌}
use lib.IntN.{pos, ◌*ℤ◌}
use borrow.Author.Rules.{rules}
use mir.Syntax.{w32, w64}
use mir.Val.{SFits}
use mir.Facts.{to_z-of_z}
use Rattle.rounding.specs.Rounding.{round}
use Rattle.splitpoints.proofs.Sizes.{Sizes, sizes}
use Rattle.splitpoints.proofs.rounded.Goals as goal

pub overflow_cast-result : goal.overflow_cast-result
overflow_cast-result c =
    let at : Sizes c.args.z c.args.d = sizes c.args.z c.args.d c.requires.0 c.requires.1 c.requires.2 in
    let answer : c.round_div.result ≡ round (pos 2 *ℤ c.args.z) (2 * c.args.d) = let k = at in let f = k.sum in let g = k.twice in simp to_z-of_z at c.round_div.ensures in
    let answer_fits : SFits w32 c.round_div.result = let e = answer in rw e at.mean in
    let f = answer_fits in let k : SFits w64 c.round_div.result = search rules in simp to_z-of_z f

pub returns : goal.returns
returns c =
    let at : Sizes c.args.z c.args.d = sizes c.args.z c.args.d c.requires.0 c.requires.1 c.requires.2 in
    let answer : c.round_div.result ≡ round (pos 2 *ℤ c.args.z) (2 * c.args.d) = let k = at in let f = k.sum in let g = k.twice in simp to_z-of_z at c.round_div.ensures in
    let answer_fits : SFits w32 c.round_div.result = let e = answer in rw e at.mean in
    let f = answer_fits in let k : SFits w64 c.round_div.result = search rules in simp to_z-of_z (answer ∙ at.same)
