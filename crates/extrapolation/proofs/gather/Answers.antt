-- `gather` meets its contract: after i turns the first i places of the fan are filled. Assumes nothing.
use mathlib.Core.Path.{◌≡◌, sym, ◌∙◌}
use mathlib.Core.Logic.{inl, inr, ⊎_elim}
use Prim.Native.Nat.{◌+◌}
use borrow.Author.Rules.{rules}
use lib.ListN.{length, set}
use Rattle.extrapolation.specs.Gathered.{Filled}
use Rattle.extrapolation.proofs.Turning.{turning_start, turning_few, turning_end, turning_more, filled_none, filled_more}
use Rattle.extrapolation.proofs.gather.Goals as goal
use Rattle.extrapolation.proofs.gather.Goals.{After-turn-m}

filled : (c : After-turn-m) → Filled c.args.mesh.faces.now c.args.h (c.loop-g.i + 1) (set c.loop-g.fan.neighbours c.loop-g.i c.end_of.result) (set c.loop-g.fan.opposites c.loop-g.i c.opposite_corner.result)
filled c =
    let t = c.loop-g.invariant.0 in
    filled_more c.args.mesh.faces.now c.args.h c.loop-g.g c.loop-g.i c.loop-g.fan.neighbours c.loop-g.fan.opposites c.end_of.result c.opposite_corner.result
    c.loop-g.invariant.1 (turning_few c.args.mesh.faces.now c.args.h c.loop-g.g c.loop-g.i t) t.at c.end_of.ensures c.opposite_corner.ensures

pub loop-g-init : goal.loop-g-init
loop-g-init c =
    let r = c.requires.ready in
    let a : length c.args.fan.now.neighbours ≡ 8 = search rules in
    let b : length c.args.fan.now.opposites ≡ 8 = search rules in
    (turning_start r.vertices c.args.mesh.faces.now r.net c.args.h c.requires.h_in_bounds, filled_none c.args.mesh.faces.now c.args.h _ _ a b)

pub returns-then-m-n : goal.returns-then-m-n
returns-then-m-n c =
    turning_end c.args.mesh.faces.now c.args.h c.loop-g.g c.loop-g.i c.loop-g.invariant.0 c.turn-m.result c.turn-m.ensures (⊎_elim (λ e. inl (e ∙ c.half_edges-n.ensures)) (λ e. inr e.1) c.then-m-n.either) _ _ (filled (goal.at.returns-then-m-n c).After-turn-m)

pub loop-g-preserved : goal.loop-g-preserved
loop-g-preserved c =
    (turning_more c.args.mesh.faces.now c.args.h c.loop-g.g c.loop-g.i c.loop-g.invariant.0 c.turn-m.result c.turn-m.ensures (λ e. c.if-m-n.false (e ∙ sym c.half_edges-n.ensures)) c.if-m-h.false, filled (goal.at.loop-g-preserved c).After-turn-m)
