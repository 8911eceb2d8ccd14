-- `prev_side` meets its contract. Assumes nothing.
use native.Mathlib.Omega.{arith}
use Rattle.topology.specs.Shape.{quads}
use Rattle.halfedges.proofs.prev_side.Goals as goal

pub returns : goal.returns
unfolding quads
returns c = omega arith
