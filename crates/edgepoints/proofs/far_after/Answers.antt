-- `far_after` meets its contract. Assumes nothing.
use Rattle.topology.specs.Shape.{quads}
use Rattle.topology.proofs.Boundary.{along_on}
use Rattle.edgepoints.proofs.far_after.Goals as goal

pub end_of-requires-2 : goal.end_of-requires-2
end_of-requires-2 c =
    let r = c.requires.ready in
    let e = c.along.ensures in
    let b = (along_on quads r.vertices c.args.mesh.faces.now r.net c.args.h c.requires.on_boundary.0).lt in
    rw e b
