-- `Mesh::end_of` meets its contract. Assumes nothing.
use mathlib.Core.Path.{ap, ◌∙◌}
use native.Mathlib.Omega.{arith}
use Rattle.topology.specs.Shape.{quads}
use Rattle.topology.specs.HalfEdge.{from, to}
use Rattle.halfedges.proofs.Mesh.end_of.Goals as goal

pub start_of-requires : goal.start_of-requires
unfolding quads
start_of-requires c = omega arith

pub returns : goal.returns
unfolding to
returns c = c.start_of.ensures ∙ ap (from c.args.self.faces.now) c.next_side.ensures
