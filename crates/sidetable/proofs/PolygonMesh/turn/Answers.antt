-- `turn` meets its contract: it reads the mate of the side before h. Assumes nothing.
use mathlib.Core.Path.{ap, ◌∙◌}
use lib.ListN.{length}
use Rattle.topology.specs.HalfEdge.{mate}
use Rattle.topology.specs.Vertex.{turn}
use Rattle.polygons.specs.Polygons.{shape_of}
use Rattle.polygons.proofs.Counts.{shape_lawful}
use Rattle.sidetable.proofs.PolygonMesh.turn.Goals as goal

pub mate-requires : goal.mate-requires
mate-requires c =
    let e = c.prev_in.ensures in rw e ((shape_lawful c.args.self.sides.now (length c.args.self.faces.now) c.args.self.linked.shaped.space.sided).prev_lt c.args.h c.requires)

pub returns : goal.returns
unfolding turn
returns c = c.mate.ensures ∙ ap (mate (shape_of c.args.self.sides.now) c.args.self.faces.now) c.prev_in.ensures
