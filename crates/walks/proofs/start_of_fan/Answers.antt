-- `start_of_fan` meets its contract: the walk ends at the first half-edge of the fan, which has at most six. Assumes nothing.
use mathlib.Core.Path.{◌≡◌, sym, ap, ◌∙◌}
use Prim.Native.Nat.{◌<◌}
use native.Mathlib.Omega.{arith}
use lib.ListN.{length}
use Rattle.topology.specs.HalfEdge.{mate}
use Rattle.topology.proofs.Mates.{mate-le}
use Rattle.walks.proofs.Unwinding.{unwinding_start, unwinding_step, unwinding_hit, unwinding_place, unwinding_end}
use Rattle.walks.proofs.start_of_fan.Goals as goal

pub loop-i-init : goal.loop-i-init
loop-i-init g c = let r = c.requires.closed in unwinding_start (g.N.HalfEdges.shape c.args.net.now) r.vertices _ r.net c.args.h c.requires.h_in_bounds

pub returns-then-m-n : goal.returns-then-m-n
returns-then-m-n g c =
    let r = c.requires.closed in
    let S = g.N.HalfEdges.shape c.args.net.now in
    let e = sym c.mate-m.ensures ∙ c.if-m-n.true ∙ c.count-n.ensures in
    record {
      side = unwinding_hit S r.vertices _ r.net c.args.h c.requires.h_in_bounds c.loop-i.g c.loop-i.i c.loop-i.invariant e;
      place = unwinding_place S r.vertices _ r.net c.args.h c.requires.h_in_bounds c.loop-i.g c.loop-i.i c.loop-i.invariant e;
    }

pub next-g-requires : goal.next-g-requires
next-g-requires g c =
    let e = c.mate-m.ensures in
    let n = c.count-n.ensures in
    let m = mate-le (g.N.HalfEdges.shape c.args.net.now) (g.N.HalfEdges.corners c.args.net.now) c.loop-i.g in
    omega (arith, c.if-m-n.false)

pub loop-i-preserved : goal.loop-i-preserved
loop-i-preserved g c =
    let r = c.requires.closed in
    let S = g.N.HalfEdges.shape c.args.net.now in
    let l = g.N.HalfEdges.corners c.args.net.now in
    let m = c.mate-m.ensures in
    let n = c.count-n.ensures in
    let z = mate-le S l c.loop-i.g in
    let e : c.next-g.result ≡ S.next (mate S l c.loop-i.g) = c.next-g.ensures ∙ ap S.next m in
    let b : mate S l c.loop-i.g < length l = omega (arith, c.if-m-n.false) in
    rw e (unwinding_step S r.vertices l r.net c.args.h c.requires.h_in_bounds c.loop-i.g c.loop-i.i c.loop-i.invariant b)

pub returns : goal.returns
returns g c =
    let r = c.requires.closed in
    let n = c.count-n.ensures in
    let e = unwinding_end (g.N.HalfEdges.shape c.args.net.now) r.vertices _ r.net c.args.h c.requires.h_in_bounds c.loop-i.g c.loop-i.i c.loop-i.invariant (omega arith) in
    record { side = n ∙ e; place = λ o. let z : ⊥ = omega arith in absurd z }
