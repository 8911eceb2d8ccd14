-- `gather` meets its contract: after i turns the first i places of the fan are filled. Assumes nothing.
use Prim.Native.Nat.{◌-◌}
use Rattle.extrapolation.specs.Gathered.{Filled}
use Rattle.extrapolation.proofs.Turning.{Turning}
use Rattle.extrapolation.proofs.gather.Given as goal

abbrev pub invariant-loop-g : goal.invariant-loop-g
invariant-loop-g l = Turning l.mesh.faces.now l.h l.g l.i × Filled l.mesh.faces.now l.h l.i l.fan.neighbours l.fan.opposites

abbrev pub decreases-loop-g : goal.decreases-loop-g
decreases-loop-g l = 8 - l.i
