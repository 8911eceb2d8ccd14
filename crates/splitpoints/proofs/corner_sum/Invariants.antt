-- `corner_sum` meets its contract: after k turns the coordinates of the first k corners are added. Assumes nothing.
use mathlib.Core.Path.{◌≡◌}
use Rattle.integers.specs.Sum.{sum}
use Rattle.splitpoints.specs.Points.{corner_on}
use Rattle.splitpoints.proofs.corner_sum.Given as goal

abbrev pub invariant-loop-k : goal.invariant-loop-k
invariant-loop-k l = l.total ≡ sum l.k (corner_on l.points l.faces l.h l.a)
