-- `start_of_fan` meets its contract: the walk ends at the first half-edge of the fan, which has at most six. Assumes nothing.
use Rattle.walks.proofs.Unwinding.{Unwinding}
use Rattle.walks.proofs.start_of_fan.Given as goal

abbrev pub invariant-loop-i : goal.invariant-loop-i
invariant-loop-i g l = Unwinding (g.N.HalfEdges.shape l.net) (g.N.HalfEdges.corners l.net) l.h l.g l.i
