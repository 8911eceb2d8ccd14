-- `corner_before` meets its contract. Assumes nothing.
use native.Mathlib.Omega.{arith}
use Rattle.topology.specs.Shape.{quads}
use Rattle.halfedges.proofs.corner_before.Goals as goal

pub start_of-requires : goal.start_of-requires
unfolding quads
start_of-requires c = omega arith
