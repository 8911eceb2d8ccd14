-- `along` meets its contract. Assumes nothing.
use mathlib.Core.Path.{ap, ◌∙◌}
use Prim.Native.Nat.{ℕ}
use Rattle.topology.specs.HalfEdge.{from, to}
use Rattle.topology.specs.Boundary.{boundary_from, along}
use Rattle.walks.proofs.along.Goals as goal

pub returns : goal.returns
unfolding along to
returns g c =
    let S = g.N.HalfEdges.shape c.args.net.now in
    let l = g.N.HalfEdges.corners c.args.net.now in
    c.start_of_fan.ensures.side ∙ ap (λ (h : ℕ). boundary_from S l (from l h)) c.next.ensures
