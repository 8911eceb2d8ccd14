-- `Mesh::turn` meets its contract: it reads the mate of the side before h. Assumes nothing.
use mathlib.Core.Path.{ap, ◌∙◌}
use native.Mathlib.Omega.{arith}
use Rattle.topology.specs.HalfEdge.{mate}
use Rattle.topology.specs.Shape.{quads}
use Rattle.topology.specs.Vertex.{turn}
use Rattle.topology.specs.Quads.{across}
use Rattle.halfedges.proofs.Mesh.turn.Goals as goal

pub mate-requires : goal.mate-requires
unfolding quads across
mate-requires c = omega arith

pub returns : goal.returns
unfolding turn
returns c = c.mate.ensures ∙ ap (mate quads c.args.self.faces.now) c.prev_side.ensures
