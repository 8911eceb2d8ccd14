-- `edge_side` meets its contract. Assumes nothing.
use mathlib.Core.Path.{refl}
use Prim.Native.Nat.{◌<◌}
use native.Mathlib.Omega.{arith}
use Rattle.topology.specs.Shape.{quads}
use Rattle.topology.specs.HalfEdge.{mate}
use Rattle.edgepoints.specs.Kind.{flag_of}
use Rattle.edgetable.specs.EdgeTable.{met}
use Rattle.edgetable.proofs.EdgeTable.{small_of, exact_small}
use Rattle.edgetable.proofs.edge_side.Goals as goal

pub put_rounded-requires : goal.put_rounded-requires
put_rounded-requires c =
    let first : c.args.h < mate quads c.args.faces.now c.args.h = let e = c.mate-m.ensures in
    let b = c.if-m-h.false in
    let z = c.requires.other in
    omega (arith, z) in
    let r = c.edge_exact-e.result in
    (c.requires.room first, small_of c.args.t _ _ (flag_of r.kind) _ r.point.x r.point.y r.point.z c.edge_exact-e.ensures.0 c.edge_exact-e.ensures.1, c.requires.low)

pub store_edge-requires-clause-x_bound : goal.store_edge-requires-clause-x_bound
store_edge-requires-clause-x_bound c =
    let first : c.args.h < mate quads c.args.faces.now c.args.h = let e = c.mate-m.ensures in
    let b = c.if-m-h.false in
    let z = c.requires.other in
    omega (arith, z) in
    let r = c.edge_exact-e.result in
    let k = c.requires.ready.table.sides.few in
    let a = c.requires.below in
    let b = c.requires.lt in
    let d = c.requires.entries in (exact_small c.args.t c.requires.low _ _ (flag_of r.kind) _ r.point.x r.point.y r.point.z c.edge_exact-e.ensures.0 c.edge_exact-e.ensures.1)

pub returns : goal.returns
returns c =
    let first : c.args.h < mate quads c.args.faces.now c.args.h = let e = c.mate-m.ensures in
    let b = c.if-m-h.false in
    let z = c.requires.other in
    omega (arith, z) in
    let r = c.edge_exact-e.result in
    met (flag_of r.kind) r.point.x r.point.y r.point.z first refl c.edge_exact-e.ensures.0 c.edge_exact-e.ensures.1 c.put_rounded.ensures (rw c.flag.ensures at c.store_edge.ensures)
