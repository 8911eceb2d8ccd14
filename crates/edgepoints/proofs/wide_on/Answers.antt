-- `wide_on` meets its contract. Assumes nothing.
use native.Mathlib.Omega.{arith}
use borrow.Author.Rules.{rules}
use mir.Syntax.{w64}
use mir.Val.{SFits}
use mir.Facts.{to_z-of_z}
use Rattle.nets.specs.Net.{axis}
use Rattle.coordinates.proofs.Values.{axis_bound, on_small}
use Rattle.exactedges.proofs.Wide.{scaled_size}
use Rattle.edgepoints.proofs.wide_on.Goals as goal

pub four_point-requires : goal.four_point-requires
four_point-requires c =
    let fu : SFits w64 c.on.result = search rules in
    let fw : SFits w64 c.on-2.result = search rules in
    let fp : SFits w64 c.scaled-x.result = search rules in
    let fq : SFits w64 c.scaled-y.result = search rules in
    let k = c.requires.u_bound in
    let low = k.2 in
    let bp = scaled_size c.args.t low (axis c.args.points.now c.args.a c.args.p) c.scaled-x.result (axis_bound c.args.points.now c.args.a c.args.p c.requires.a_bound.3) c.scaled-x.ensures in
    let bq = scaled_size c.args.t low (axis c.args.points.now c.args.a c.args.q) c.scaled-y.result (axis_bound c.args.points.now c.args.a c.args.q c.requires.a_bound.3) c.scaled-y.ensures in
    let bu = on_small c.args.u k.0 c.args.a c.on.result c.on.ensures in
    let bw = on_small c.args.w k.1 c.args.a c.on-2.result c.on-2.ensures in
    simp to_z-of_z (low, omega arith, omega arith, omega arith, omega arith)
