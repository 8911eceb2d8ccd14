-- `inner_edge` meets its contract. Assumes nothing.
use Prim.Native.Nat.{◌<◌}
use native.Mathlib.Omega.{arith}
use lib.ListN.{length}
use Rattle.topology.specs.Shape.{quads}
use Rattle.topology.specs.HalfEdge.{mate}
use Rattle.schemelaws.specs.Ordinary.{OrdinaryEnds}
use Rattle.exactedges.proofs.Wide.{plain_point, wide_point}
use Rattle.edgepoints.proofs.inner_edge.Goals as goal

pub returns-then-ordinary_ends : goal.returns-then-ordinary_ends
returns-then-ordinary_ends c =
    let inner : mate quads c.args.mesh.faces.now c.args.h < length c.args.mesh.faces.now = let e = c.requires.h_in_bounds.1 in let b = c.requires.h_in_bounds.2 in omega arith in
    let ends : (OrdinaryEnds c.args.mesh.faces.now c.args.h) = let o = c.ordinary_ends.ensures.both c.if-ordinary_ends.true in
    record { lt = c.requires.h_in_bounds.0; inner = inner; start = o.0; end = o.1 } in
    let r = c.plain_exact.result in
    plain_point c.args.t c.requires.h_in_bounds.3 c.requires.ready.vertices _ c.requires.ready.net c.args.points.now c.requires.points.0 _ ends r.x r.y r.z c.plain_exact.ensures

pub returns : goal.returns
returns c =
    let inner : mate quads c.args.mesh.faces.now c.args.h < length c.args.mesh.faces.now = let e = c.requires.h_in_bounds.1 in let b = c.requires.h_in_bounds.2 in omega arith in
    let r = c.wide_edge.result in
    wide_point c.args.t c.requires.h_in_bounds.3 c.requires.ready.vertices _ c.requires.ready.net c.args.points.now c.requires.points.0 _ c.requires.h_in_bounds.0 inner (c.ordinary_ends.ensures.not_both c.if-ordinary_ends.false) _ r.point.x r.point.y r.point.z c.wide_edge.ensures
