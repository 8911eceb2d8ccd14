-- `plain_exact` meets its contract. Assumes nothing.
use Prim.Native.Nat.{◌<◌}
use native.Mathlib.Omega.{arith}
use lib.ListN.{length}
use Rattle.nets.specs.Net.{axis}
use Rattle.exactedges.proofs.Plain.{on_axes_as, end_corner, start-corner, before_corner, corner-room, plain_made}
use Rattle.edgepoints.proofs.plain_exact.Goals as goal
use Rattle.edgepoints.proofs.plain_exact.Goals.{Then-b-n}

-- both turns lead to faces
first : (c : Then-b-n) → c.turn-a.result < length c.args.mesh.faces.now
first c = let n = c.half_edges-n.ensures in let b = c.if-a-n.true in omega arith

second : (c : Then-b-n) → c.turn-b.result < length c.args.mesh.faces.now
second c = let n = c.half_edges-n.ensures in let b = c.if-b-n.true in omega arith

pub interior_exact-requires-clause-in_table : goal.interior_exact-requires-clause-in_table
interior_exact-requires-clause-in_table c =
    let d = (goal.at.interior_exact-requires-clause-in_table c).Then-b-n in
    let v = c.requires.ready.vertices in
    let net = c.requires.ready.net in
    let room = c.requires.points.0 in
    let b = c.requires.points.1.lt in (
      corner-room _ _ room _ (before_corner v _ net _ _ (first d) c.corner_before-o.ensures),
      corner-room _ _ room _ (start-corner v _ net _ _ b c.start_of-p.ensures),
      corner-room _ _ room _ (end_corner v _ net _ _ b c.end_of-q.ensures),
      corner-room _ _ room _ (before_corner v _ net _ _ (second d) c.corner_before-r.ensures),
      c.requires.points.3,
    )

pub returns-then-b-n : goal.returns-then-b-n
returns-then-b-n c =
    let d = (goal.at.returns-then-b-n c).Then-b-n in
    on_axes_as _ _ _ _ _
    (λ a. plain_made c.requires.ready.vertices _ c.requires.ready.net _ _ c.requires.points.1 c.requires.points.2 _ _ c.start_of-p.ensures c.end_of-q.ensures _ _ _ c.turn-a.ensures (first d) c.turn-b.ensures (second d)
    _ _ c.corner_before-o.ensures c.corner_before-r.ensures (axis c.args.points.now a))
    c.interior_exact.ensures
