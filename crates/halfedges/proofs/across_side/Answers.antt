-- `across_side` meets its contract. Assumes nothing.
use native.Mathlib.Omega.{arith}
use Rattle.topology.specs.Shape.{quads}
use Rattle.topology.specs.Quads.{across}
use Rattle.halfedges.proofs.across_side.Goals as goal

pub returns : goal.returns
unfolding quads across
returns c = omega arith
