-- `back` meets its contract: the walk ends at the last half-edge of the fan, which has at most six. Assumes nothing.
use mathlib.Core.Path.{◌≡◌, sym, ap, ◌∙◌}
use Prim.Native.Nat.{◌<◌}
use native.Mathlib.Omega.{arith}
use lib.ListN.{length}
use Rattle.topology.specs.HalfEdge.{mate}
use Rattle.topology.specs.Vertex.{turn}
use Rattle.topology.proofs.Turn.{turn-le}
use Rattle.walks.proofs.Winding.{winding_start, winding_step, winding_hit, winding_end}
use Rattle.walks.proofs.back.Goals as goal

pub loop-turns-init : goal.loop-turns-init
loop-turns-init g c = let r = c.requires.closed in winding_start (g.N.HalfEdges.shape c.args.net.now) r.vertices _ r.net c.args.h c.requires.h_in_bounds

pub returns-then-g-n : goal.returns-then-g-n
unfolding turn
returns-then-g-n g c =
    let r = c.requires.closed in
    let S = g.N.HalfEdges.shape c.args.net.now in
    let l = g.N.HalfEdges.corners c.args.net.now in
    let q = c.loop-turns in
    let none : turn S l q.g ≡ length l = ap (mate S l) (sym c.prev-last.ensures) ∙ sym c.mate-g.ensures ∙ c.if-g-n.true ∙ c.count-n.ensures in
    c.prev-last.ensures ∙ winding_hit S r.vertices l r.net c.args.h c.requires.h_in_bounds q.g q._turns q.invariant none

pub loop-turns-preserved : goal.loop-turns-preserved
unfolding turn
loop-turns-preserved g c =
    let r = c.requires.closed in
    let S = g.N.HalfEdges.shape c.args.net.now in
    let l = g.N.HalfEdges.corners c.args.net.now in
    let q = c.loop-turns in
    let e : c.mate-g.result ≡ turn S l q.g = c.mate-g.ensures ∙ ap (mate S l) c.prev-last.ensures in
    let n = c.count-n.ensures in
    let m = turn-le S l q.g in
    let b : turn S l q.g < length l = omega (arith, c.if-g-n.false) in
    rw e (winding_step S r.vertices l r.net c.args.h c.requires.h_in_bounds q.g q._turns q.invariant b)

pub returns : goal.returns
returns g c =
    let r = c.requires.closed in
    let q = c.loop-turns in
    c.count-n.ensures ∙ winding_end (g.N.HalfEdges.shape c.args.net.now) r.vertices (g.N.HalfEdges.corners c.args.net.now) r.net c.args.h c.requires.h_in_bounds q.g q._turns q.invariant (omega arith)
