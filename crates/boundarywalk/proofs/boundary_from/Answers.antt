-- `boundary_from` meets its contract: no boundary half-edge below h leaves the vertex. Assumes nothing.
use mathlib.Core.Path.{◌≡◌, sym, ◌∙◌}
use native.Mathlib.Omega.{arith}
use lib.ListN.{length}
use Rattle.search.proofs.Tests.{refuted}
use Rattle.search.proofs.First.{passed_next, passed_hit, passed_end}
use Rattle.topology.specs.HalfEdge.{from}
use Rattle.topology.specs.Boundary.{boundary_from}
use Rattle.topology.proofs.Boundary.{from_on, from_none, from_at}
use Rattle.boundarywalk.proofs.boundary_from.Goals as goal
use Rattle.boundarywalk.proofs.boundary_from.Goals.{else-mate-n-via-then-mate-n+else-faces-h, else-mate-n-via-else-mate-n}

pub returns-then-faces-h : goal.returns-then-faces-h
unfolding boundary_from from
returns-then-faces-h c =
    passed_hit _ _ _ c.loop-h.invariant c.loop-h-test.true (from_on _ _ _ _ (sym c.mate.ensures ∙ c.if-mate-n.true) c.if-faces-h.true)

pub loop-h-preserved : goal.loop-h-preserved
unfolding from
loop-h-preserved c =
    passed_next _ _ c.loop-h.invariant
    (refuted _ (λ t. elim c.else-mate-n.branch [ else-mate-n-via-then-mate-n+else-faces-h w ↦ w.if-faces-h.false (from_at _ _ _ _ t) | else-mate-n-via-else-mate-n w ↦ w.if-mate-n.false (c.mate.ensures ∙ from_none _ _ _ _ t) ]))

pub returns : goal.returns
unfolding boundary_from
returns c = let all : c.loop-h.h ≡ length c.args.net.faces.now = omega arith in sym all ∙ passed_end _ _ _ c.loop-h.invariant (omega arith) (omega arith)
