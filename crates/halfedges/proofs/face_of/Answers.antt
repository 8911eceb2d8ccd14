-- `face_of` meets its contract. Assumes nothing.
use mathlib.Core.Path.{refl}
use Rattle.topology.specs.Shape.{quads}
use Rattle.halfedges.proofs.face_of.Goals as goal

pub returns : goal.returns
unfolding quads
returns c = refl
