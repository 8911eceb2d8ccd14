-- `coordinate` meets its contract. Assumes nothing.
use borrow.Author.Rules.{rules}
use Prim.Native.Nat.{◌+◌, ◌*◌}
use lib.IntN.{pos}
use lib.ListN.{get_or}
use mir.Syntax.{w32}
use mir.Val.{SFits}
use mir.Facts.{to_z-of_z}
use mathlib.Core.Path.{refl}
use Rattle.nets.specs.Net.{axis}
use Rattle.coordinates.proofs.Values.{wide_fits}
use Rattle.coordinates.proofs.coordinate.Goals as goal

pub returns : goal.returns
unfolding axis
returns c =
    let f : SFits w32 (get_or c.args.points.now (3 * c.args.v + c.args.a) (pos 0)) = search rules in
    let g = wide_fits _ f in
    simp to_z-of_z refl
