-- `start` meets its contract. Assumes nothing.
use Rattle.polygons.specs.Polygons.{shape_of}
use Rattle.vertexcounts.proofs.Counts.{count-start}
use Rattle.vertexcounts.proofs.CountedVertices.start.Goals as goal

pub returns : goal.returns
returns c =
    let v = c.args.self in
    count-start (shape_of v.mesh.sides.now) v.mesh.faces.now v.count v.mesh.work.now c.args.p v.counted.countable.few c.requires v.counted.all
