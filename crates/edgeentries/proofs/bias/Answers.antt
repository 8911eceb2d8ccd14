-- `bias` meets its contract: the sum is natural and in range. Assumes nothing.
use mathlib.Core.Path.{refl}
use mir.Syntax.{w64}
use mir.Val.{SFits}
use mir.Facts.{to_z-of_z}
use Rattle.edgeentries.specs.Packed.{biased}
use Rattle.edgeentries.proofs.Packed.{bias_fits}
use Rattle.edgeentries.proofs.bias.Goals as goal

pub returns : goal.returns
unfolding biased
returns c = let f : SFits w64 c.args.z = c.ranges.z in let k = bias_fits c.args.z c.requires in simp to_z-of_z refl
