-- `edge_side` meets its contract. Assumes nothing.
use mathlib.Core.Path.{refl, ap, ap₂, ◌∙◌}
use Prim.Native.Nat.{ℕ, ◌+◌, ◌*◌, ◌≤◌, ◌<◌}
use native.Mathlib.Omega.{arith}
use lib.ListN.{length}
use Rattle.topology.specs.HalfEdge.{from, to, mate}
use Rattle.polygons.specs.Polygons.{shape_of}
use Rattle.polygons.proofs.Counts.{shape_lawful}
use Rattle.coordinates.specs.Points.{put_point}
use Rattle.splitpoints.specs.Points.{midpoint_on}
use Rattle.splitvertices.specs.Passes.{met}
use Rattle.splitvertices.proofs.edge_side.Goals as goal

pub start_of-q-requires : goal.start_of-q-requires
start_of-q-requires c =
    let inside : c.next_in-next.result < length c.args.mesh.faces.now = rw c.next_in-next.ensures ((shape_lawful c.args.mesh.sides.now (length c.args.mesh.faces.now) c.requires.linked.shaped.space.sided).next_lt c.args.h c.requires.lt) in
    let n = inside in omega arith

pub put_midpoint-requires-clause-bounded_vertex : goal.put_midpoint-requires-clause-bounded_vertex
put_midpoint-requires-clause-bounded_vertex c =
    let first : c.args.h < mate (shape_of c.args.mesh.sides.now) c.args.mesh.faces.now c.args.h = let e = c.mate.ensures in let b = c.if-h-mate.true in omega arith in
    let room : 3 * (c.args.v + c.args.edges) + 3 ≤ length c.args.points.now = c.requires.room first in
    let inside : c.next_in-next.result < length c.args.mesh.faces.now = rw c.next_in-next.ensures ((shape_lawful c.args.mesh.sides.now (length c.args.mesh.faces.now) c.requires.linked.shaped.space.sided).next_lt c.args.h c.requires.lt) in
    let e = c.requires.ends in (rw c.start_of-p.ensures (e c.args.h c.requires.lt), rw c.start_of-q.ensures (e c.next_in-next.result inside))

pub returns-then-h-mate : goal.returns-then-h-mate
unfolding to
returns-then-h-mate c =
    let first : c.args.h < mate (shape_of c.args.mesh.sides.now) c.args.mesh.faces.now c.args.h = let e = c.mate.ensures in let b = c.if-h-mate.true in omega arith in
    let t = c.args.points.now in
    let e = c.start_of-q.ensures ∙ ap (from c.args.mesh.faces.now) c.next_in-next.ensures in
    met first refl
    (c.put_midpoint.ensures
    ∙ ap₂ (λ (p q : ℕ). put_point t (c.args.v + c.args.edges) (midpoint_on t p q 0) (midpoint_on t p q 1) (midpoint_on t p q 2)) c.start_of-p.ensures e)
