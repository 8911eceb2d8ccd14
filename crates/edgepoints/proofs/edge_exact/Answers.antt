-- `edge_exact` meets its contract: an inner edge, or a boundary edge between its far points. Assumes nothing.
use mathlib.Core.Path.{refl}
use Prim.Native.Nat.{◌<◌}
use native.Mathlib.Omega.{arith}
use lib.ListN.{length}
use Rattle.topology.specs.Shape.{quads}
use Rattle.topology.specs.HalfEdge.{from, to}
use Rattle.topology.specs.Boundary.{OnBoundary}
use Rattle.topology.proofs.Mates.{mate-le}
use Rattle.nets.specs.Net.{marked}
use Rattle.coordinates.specs.Points.{InTable}
use Rattle.exactedges.proofs.Plain.{corner-room, far_by, after_corner, back-corner}
use Rattle.exactedges.proofs.Wide.{inner_point, boundary_point_lem, far_rule}
use Rattle.edgepoints.proofs.edge_exact.Goals as goal
use Rattle.edgepoints.proofs.edge_exact.Goals.{Else-m-half_edges}

pub returns-then-m-half_edges : goal.returns-then-m-half_edges
returns-then-m-half_edges c =
    let e = c.requires.h_in_bounds.1 in
    let b = c.if-m-half_edges.true in
    let r = c.inner_edge.result in
    inner_point c.args.t c.requires.h_in_bounds.2 c.requires.ready.vertices _ c.requires.ready.net c.args.points.now c.requires.points.0 c.args.marks.now c.args.h (omega arith) _ r.point.x r.point.y r.point.z c.inner_edge.ensures

on_boundary : (c : Else-m-half_edges) → OnBoundary quads c.args.mesh.faces.now c.args.h
on_boundary c = let e = c.requires.h_in_bounds.1 in let b = c.if-m-half_edges.false in let k = mate-le quads c.args.mesh.faces.now c.args.h in record { lt = c.requires.h_in_bounds.0; none = omega arith }

pub far_before-o-requires-clause-on_boundary : goal.far_before-o-requires-clause-on_boundary
far_before-o-requires-clause-on_boundary c =
    let on = on_boundary (goal.at.far_before-o-requires-clause-on_boundary c).Else-m-half_edges in
    (on, c.requires.points.1.room c.args.h c.requires.h_in_bounds.0)

pub far_after-r-requires-clause-on_boundary : goal.far_after-r-requires-clause-on_boundary
unfolding to
far_after-r-requires-clause-on_boundary c =
    let end_marked : to quads c.args.mesh.faces.now c.args.h < length c.args.marks.now = c.requires.points.1.room (quads.next c.args.h) (c.requires.ready.net.oriented.shape.next_lt c.args.h c.requires.h_in_bounds.0) in
    let on = on_boundary (goal.at.far_after-r-requires-clause-on_boundary c).Else-m-half_edges in
    (on, end_marked)

pub boundary_edge-requires-clause-far_in : goal.boundary_edge-requires-clause-far_in
unfolding to
boundary_edge-requires-clause-far_in c =
    let start_in : InTable c.args.points.now (from c.args.mesh.faces.now c.args.h) = c.requires.points.0.room c.args.h c.requires.h_in_bounds.0 in
    let end_in : InTable c.args.points.now (to quads c.args.mesh.faces.now c.args.h) = c.requires.points.0.room (quads.next c.args.h) (c.requires.ready.net.oriented.shape.next_lt c.args.h c.requires.h_in_bounds.0) in
    let on = on_boundary (goal.at.boundary_edge-requires-clause-far_in c).Else-m-half_edges in
    let ef = c.far_before-o.ensures in
    let eg = c.far_after-r.ensures in (rw ef (far_by _ (marked c.args.marks.now (from c.args.mesh.faces.now c.args.h)) _ (corner-room _ _ c.requires.points.0 _ (back-corner c.requires.ready.vertices _ c.requires.ready.net _ _ on refl))), start_in, end_in, rw eg (far_by _ (marked c.args.marks.now (to quads c.args.mesh.faces.now c.args.h)) _ (corner-room _ _ c.requires.points.0 _ (after_corner c.requires.ready.vertices _ c.requires.ready.net _ _ on refl))), c.requires.h_in_bounds.2)

pub returns : goal.returns
returns c =
    let on = on_boundary (goal.at.returns c).Else-m-half_edges in
    let e = c.requires.h_in_bounds.1 in
    let ef = c.far_before-o.ensures in
    let eg = c.far_after-r.ensures in
    let r = c.boundary_edge.result in
    boundary_point_lem c.args.t c.requires.h_in_bounds.2 c.requires.ready.vertices _ c.requires.ready.net c.args.points.now c.requires.points.0 c.args.marks.now c.args.h c.requires.h_in_bounds.0 on.none _ _
    (λ d. rw (ef, eg) (far_rule c.args.t c.requires.h_in_bounds.2 c.args.mesh.faces.now c.args.h d c.args.marks.now (omega arith))) _ r.point.x r.point.y r.point.z c.boundary_edge.ensures
