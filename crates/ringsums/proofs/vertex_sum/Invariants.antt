-- `vertex_sum` meets its contract: after i turns the sum of the first i vertices is made, which is small. Assumes nothing.
use mathlib.Core.Path.{◌≡◌}
use Rattle.integers.specs.Sum.{sum}
use Rattle.ringsums.proofs.Sums.{vertex_of}
use Rattle.ringsums.proofs.vertex_sum.Given as goal

abbrev pub invariant-loop-v : goal.invariant-loop-v
invariant-loop-v l = l.total ≡ sum l.v-index (vertex_of l.points l.a l.l)
