-- `weighted_sum` meets its contract: after i turns the sums of the first i faces are made, which are small. Assumes nothing.
use mathlib.Core.Path.{◌≡◌}
use Rattle.integers.specs.Sum.{sum}
use Rattle.nets.specs.Net.{axis}
use Rattle.ringsums.proofs.Sums.{term}
use Rattle.ringsums.proofs.weighted_sum.Given as goal

abbrev pub invariant-loop-i : goal.invariant-loop-i
invariant-loop-i l = record {
  on₀ : l.x ≡ sum l.i (term l.w l.n l.e (axis l.points 0) l.fan.neighbours l.fan.opposites);
  on₁ : l.y ≡ sum l.i (term l.w l.n l.e (axis l.points 1) l.fan.neighbours l.fan.opposites);
  on₂ : l.z ≡ sum l.i (term l.w l.n l.e (axis l.points 2) l.fan.neighbours l.fan.opposites);
}
