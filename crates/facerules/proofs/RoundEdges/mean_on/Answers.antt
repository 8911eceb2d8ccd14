-- `mean_on` meets its contract: the rounded value is in the range of 32 bits. Assumes nothing.
use borrow.Author.Rules.{rules}
use native.Mathlib.Omega.{arith}
use mathlib.Core.Path.{◌≡◌, ap, ap₂, ◌∙◌}
use lib.IntN.{ℤ, ◌+ℤ◌}
use mir.Syntax.{w32, w64}
use mir.Val.{SFits}
use mir.Facts.{to_z-of_z}
use Rattle.rounding.specs.Rounding.{round}
use Rattle.curve.specs.Weights.{tension}
use Rattle.rings.proofs.Tension.{edge_range_at}
use Rattle.rings.specs.Scales.{face_scale}
use Rattle.facerules.proofs.Directions.{Sizes, direction-sizes}
use Rattle.facerules.proofs.RoundEdges.mean_on.Goals as goal

pub overflow_add-u : goal.overflow_add-u
overflow_add-u c =
    let at : Sizes c.args.self.tension c.direction_on-u.result c.second_direction-v.result = direction-sizes _ _ _ _ _ _ _ _ c.args.self.table c.requires.2 c.requires.0 c.requires.1 c.direction_on-u.ensures c.second_direction-v.ensures in
    let k = at in let f = k.first in let g = k.second in simp to_z-of_z k.sum

pub round_div-requires : goal.round_div-requires
round_div-requires c =
    let at : Sizes c.args.self.tension c.direction_on-u.result c.second_direction-v.result = direction-sizes _ _ _ _ _ _ _ _ c.args.self.table c.requires.2 c.requires.0 c.requires.1 c.direction_on-u.ensures c.second_direction-v.ensures in
    let k = at in
    let f = k.first in
    let g = k.second in
    let h = k.sum in
    let t = k.range in
    let e = c.half_face_scale.ensures.1 in
    let d = edge_range_at c.args.self.tension in
    let low = c.args.self.table.low in
    simp to_z-of_z (omega arith, omega arith, omega arith)

pub overflow_cast-result : goal.overflow_cast-result
overflow_cast-result c =
    let at : Sizes c.args.self.tension c.direction_on-u.result c.second_direction-v.result = direction-sizes _ _ _ _ _ _ _ _ c.args.self.table c.requires.2 c.requires.0 c.requires.1 c.direction_on-u.ensures c.second_direction-v.ensures in
    let rounded : c.round_div.result ≡ round (c.direction_on-u.result +ℤ c.second_direction-v.result) (face_scale (tension c.args.self.tension)) = let k = at in
    let f = k.first in
    let g = k.second in
    let h = k.sum in
    let e = simp to_z-of_z at c.round_div.ensures in
    e ∙ ap (round (c.direction_on-u.result +ℤ c.second_direction-v.result)) c.half_face_scale.ensures.0 in
    let k = at in
    let m : SFits w32 c.round_div.result = rw rounded k.mean in
    let n : SFits w64 c.round_div.result = search rules in
    simp to_z-of_z m

pub returns : goal.returns
returns c =
    let at : Sizes c.args.self.tension c.direction_on-u.result c.second_direction-v.result = direction-sizes _ _ _ _ _ _ _ _ c.args.self.table c.requires.2 c.requires.0 c.requires.1 c.direction_on-u.ensures c.second_direction-v.ensures in
    let rounded : c.round_div.result ≡ round (c.direction_on-u.result +ℤ c.second_direction-v.result) (face_scale (tension c.args.self.tension)) = let k = at in
    let f = k.first in
    let g = k.second in
    let h = k.sum in
    let e = simp to_z-of_z at c.round_div.ensures in
    e ∙ ap (round (c.direction_on-u.result +ℤ c.second_direction-v.result)) c.half_face_scale.ensures.0 in
    let k = at in
    let m : SFits w32 c.round_div.result = rw rounded k.mean in
    let n : SFits w64 c.round_div.result = search rules in
    simp to_z-of_z (rounded ∙ ap₂ (λ (x y : ℤ). round (x +ℤ y) (face_scale (tension c.args.self.tension))) c.direction_on-u.ensures c.second_direction-v.ensures)
