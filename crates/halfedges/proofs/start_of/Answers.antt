-- `start_of` meets its contract. Assumes nothing.
use mathlib.Core.Path.{refl}
use Rattle.topology.specs.HalfEdge.{from}
use Rattle.halfedges.proofs.start_of.Goals as goal

pub returns : goal.returns
unfolding from
returns c = refl
