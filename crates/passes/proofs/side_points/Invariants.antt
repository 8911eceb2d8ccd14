-- `side_points` meets its contract: the half-edges below g are done. Assumes nothing.
use Rattle.familylines.specs.Steps.{Carries}
use Rattle.passes.proofs.side_points.Given as goal

abbrev pub invariant-loop-g : goal.invariant-loop-g
invariant-loop-g l = Carries l.t l.faces l.marks l.h l.edges l.g l.met l.initial.points l.initial.work l.points l.work
