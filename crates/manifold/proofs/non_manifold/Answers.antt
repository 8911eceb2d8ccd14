-- `non_manifold` meets its contract. Assumes nothing.
use native.Mathlib.Omega.{arith}
use Rattle.search.proofs.First.{first_before}
use Rattle.refusals.specs.Refusals.{isolated, non_manifold}
use Rattle.refusals.proofs.Places.{not_isolated}
use Rattle.polygons.specs.Polygons.{shape_of}
use Rattle.adjacency.proofs.Queries.{start-lt, valence-le}
use Rattle.manifold.proofs.non_manifold.Goals as goal

pub meets_all-requires : goal.meets_all-requires
meets_all-requires c =
    let l = c.args.vertices.mesh.faces.now in
    let p = c.args.p in (omega (arith, c.start-h.ensures, start-lt (shape_of c.args.vertices.mesh.sides.now) l p (not_isolated l p (first_before (isolated l) c.args.vertices.count p (omega (arith, c.requires.joined))))), omega (arith, c.valence-d.ensures, valence-le l p))

pub returns : goal.returns
unfolding non_manifold
returns c = rw (c.meets_all.ensures, c.start-h.ensures, c.valence-d.ensures)
