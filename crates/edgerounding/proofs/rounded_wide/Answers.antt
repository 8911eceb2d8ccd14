-- `rounded_wide` meets its contract: the rounded value is in the range of 32 bits. Assumes nothing.
use mathlib.Core.Path.{◌≡◌, ap, ◌∙◌}
use borrow.Author.Rules.{rules}
use mir.Syntax.{w32, w64}
use mir.Val.{SFits}
use mir.Facts.{to_z-of_z}
use Rattle.rounding.specs.Rounding.{round}
use Rattle.curve.specs.Weights.{tension}
use Rattle.rings.specs.Scales.{edge_scale}
use Rattle.edgerounding.proofs.Rounded.{rounded_fits}
use Rattle.edgerounding.proofs.rounded_wide.Goals as goal

pub overflow_cast-result : goal.overflow_cast-result
overflow_cast-result c =
    let value : c.round_div.result ≡ round c.args.z (edge_scale (tension c.args.t)) = let f : SFits w64 c.args.z = c.ranges.z in
    let e = simp to_z-of_z at c.round_div.ensures in
    e ∙ ap (round c.args.z) c.half_edge_scale.ensures.0 in
    let fits : SFits w32 c.round_div.result = let e = value in rw e (rounded_fits c.args.t c.args.z c.requires.0) in
    let g : SFits w32 c.round_div.result = fits in
    let k : SFits w64 c.round_div.result = search rules in
    simp to_z-of_z g

pub returns : goal.returns
returns c =
    let value : c.round_div.result ≡ round c.args.z (edge_scale (tension c.args.t)) = let f : SFits w64 c.args.z = c.ranges.z in
    let e = simp to_z-of_z at c.round_div.ensures in
    e ∙ ap (round c.args.z) c.half_edge_scale.ensures.0 in
    let fits : SFits w32 c.round_div.result = let e = value in rw e (rounded_fits c.args.t c.args.z c.requires.0) in
    let f : SFits w64 c.args.z = c.ranges.z in
    let g : SFits w32 c.round_div.result = fits in
    let k : SFits w64 c.round_div.result = search rules in
    simp to_z-of_z value
