-- `straight_far` meets its contract. Assumes nothing.
use native.Mathlib.Omega.{arith}
use Rattle.exactedges.proofs.Plain.{far_vertex, far_mirror}
use Rattle.edgepoints.proofs.straight_far.Goals as goal

pub returns-then-g-half_edges : goal.returns-then-g-half_edges
returns-then-g-half_edges c =
    far_vertex c.requires.ready.vertices _ c.requires.ready.net _ c.requires.h_in_bounds.0 c.requires.h_in_bounds.1 c.requires.h_in_bounds.2 _ c.turn-g.ensures (let n = c.half_edges.ensures in let b = c.if-g-half_edges.true in omega arith) _ c.corner_before.ensures

pub returns : goal.returns
returns c =
    far_mirror c.requires.ready.vertices _ c.requires.ready.net _ c.requires.h_in_bounds.0 c.requires.h_in_bounds.1 c.requires.h_in_bounds.2 _ c.turn-g.ensures (let n = c.half_edges.ensures in let b = c.if-g-half_edges.false in omega arith)
