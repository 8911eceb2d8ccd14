-- `first_apart` meets its contract: the first walk ends no later than the second, whose last vertex is marked. Assumes nothing.
use Rattle.nets.specs.Drawn.{drawn}
use Rattle.comparison.specs.Walks.{walks}
use Rattle.comparison.proofs.Comparing.{Comparing}
use Rattle.comparison.proofs.first_apart.Given as goal

abbrev pub invariant-loop-k : goal.invariant-loop-k
invariant-loop-k l = Comparing (walks (drawn l.a) l.half (drawn l.b) l.start l.work l.at) l.e l.g l.k
