-- `put_point` meets its contract. Assumes nothing.
use mathlib.Core.Path.{refl}
use mir.Syntax.{w32}
use mir.Val.{SFits}
use mir.Facts.{to_z-of_z}
use Rattle.coordinates.specs.Points.{put_point}
use Rattle.coordinates.proofs.put_point.Goals as goal

pub returns : goal.returns
unfolding put_point
returns c = let f : SFits w32 c.args.x = c.ranges.x in let g : SFits w32 c.args.y = c.ranges.y in let h : SFits w32 c.args.z = c.ranges.z in simp to_z-of_z refl
