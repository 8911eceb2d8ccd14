-- `opposite_corner` meets its contract. Assumes nothing.
use mathlib.Core.Path.{ap, ◌∙◌}
use native.Mathlib.Omega.{arith}
use Rattle.topology.specs.Shape.{quads}
use Rattle.topology.specs.HalfEdge.{from, to}
use Rattle.topology.specs.Quads.{opposite_corner, across}
use Rattle.halfedges.proofs.opposite_corner.Goals as goal

pub start_of-requires : goal.start_of-requires
unfolding quads across
start_of-requires c = omega arith

pub returns : goal.returns
unfolding to opposite_corner across
returns c = c.start_of.ensures ∙ ap (from c.args.faces.now) c.across_side.ensures
