-- `virtual_point` meets its contract: the walk that gathers the ring tells a full ring from an open fan. Assumes nothing.
use mathlib.Core.Path.{◌≡◌}
use native.Mathlib.Omega.{arith}
use lib.ListN.{length}
use Rattle.topology.specs.Shape.{quads}
use Rattle.topology.specs.HalfEdge.{from}
use Rattle.topology.specs.Boundary.{boundary_from}
use Rattle.walks.proofs.Around.{ring_here_range}
use Rattle.extrapolation.proofs.Turning.{gathered_ring, gathered_fan, fan_in}
use Rattle.virtualpoints.proofs.Rings.{ring_made}
use Rattle.virtualpoints.proofs.virtual_point.Goals as goal
use Rattle.virtualpoints.proofs.virtual_point.Goals.{Then-fan-h}

inner : (c : Then-fan-h) → boundary_from quads c.args.mesh.faces.now (from c.args.mesh.faces.now c.args.h) ≡ length c.args.mesh.faces.now
inner c = let r = c.requires.ready in gathered_ring r.vertices c.args.mesh.faces.now r.net c.args.h _ c.gather.ensures c.requires.h_in_bounds.0 c.if-fan-h.true

pub ring_point-requires-clause-within : goal.ring_point-requires-clause-within
ring_point-requires-clause-within c =
    let i = inner (goal.at.ring_point-requires-clause-within c).Then-fan-h in
    let r = c.requires.ready in
    let e = (c.gather.ensures.circuit.ring i).0 in
    let k = ring_here_range quads r.vertices c.args.mesh.faces.now r.net c.args.h c.requires.h_in_bounds.0 i in
    (c.requires.points.bounded, omega arith, omega arith, c.requires.h_in_bounds.2)

pub ring_point-requires-clause-fan_in : goal.ring_point-requires-clause-fan_in
ring_point-requires-clause-fan_in c = let r = c.requires.ready in fan_in r.vertices c.args.mesh.faces.now r.net c.args.h _ c.gather.ensures c.args.points.now c.requires.points

pub returns-then-fan-h : goal.returns-then-fan-h
returns-then-fan-h c =
    let i = inner (goal.at.returns-then-fan-h c).Then-fan-h in
    let r = c.requires.ready in
    let z = c.ring_point.result in
    let g = c.gather.ensures in
    ring_made r.vertices c.args.mesh.faces.now r.net c.args.h c.requires.h_in_bounds.0 _ i _ (g.circuit.ring i).0 _ _ g.filled c.args.points.now z.x z.y z.z c.ring_point.ensures

pub fan_point-requires-clause-h_in_bounds : goal.fan_point-requires-clause-h_in_bounds
fan_point-requires-clause-h_in_bounds c = let r = c.requires.ready in gathered_fan r.vertices c.args.mesh.faces.now r.net c.args.h _ c.gather.ensures c.if-fan-h.false
