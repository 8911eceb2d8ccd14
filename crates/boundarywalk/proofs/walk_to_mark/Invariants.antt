-- `walk_to_mark` meets its contract: the next mark comes within as many steps as there are half-edges. Assumes nothing.
use Rattle.boundarywalk.proofs.Walking.{Walking}
use Rattle.boundarywalk.proofs.walk_to_mark.Given as goal

abbrev pub invariant-loop-k : goal.invariant-loop-k
invariant-loop-k l = Walking l.net.sides.now l.net.faces.now l.net.marks.now l.initial.work l.h l.against l.at l.work l.g l.k
