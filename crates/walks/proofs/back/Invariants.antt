-- `back` meets its contract: the walk ends at the last half-edge of the fan, which has at most six. Assumes nothing.
use Rattle.walks.proofs.Winding.{Winding}
use Rattle.walks.proofs.back.Given as goal

abbrev pub invariant-loop-turns : goal.invariant-loop-turns
invariant-loop-turns g l = Winding (g.N.HalfEdges.shape l.net) (g.N.HalfEdges.corners l.net) l.h l.g l._turns
