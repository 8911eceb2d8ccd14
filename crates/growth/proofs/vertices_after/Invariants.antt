-- `vertices_after` meets its contract: k steps are counted. Assumes nothing.
use mathlib.Core.Path.{◌≡◌}
use Rattle.growth.specs.Growth.{counts, grown_by}
use Rattle.growth.proofs.vertices_after.Given as goal

abbrev pub invariant-loop-k : goal.invariant-loop-k
invariant-loop-k l = counts l.vertices l.e l.f l.n ≡ grown_by l._k (counts l.v l.edges l.faces l.corners)
