-- `far_before` meets its contract. Assumes nothing.
use Rattle.topology.specs.Shape.{quads}
use Rattle.topology.proofs.Boundary.{back_on}
use Rattle.edgepoints.proofs.far_before.Goals as goal

pub start_of-requires-2 : goal.start_of-requires-2
start_of-requires-2 c =
    let r = c.requires.ready in
    let e = c.back.ensures in
    let b = (back_on quads r.vertices c.args.mesh.faces.now r.net c.args.h c.requires.on_boundary.0).lt in
    rw e b
