-- `general_face` meets its contract. Assumes nothing.
use mathlib.Core.Path.{◌≡◌}
use Prim.Native.Nat.{ℕ}
use borrow.Author.Rules.{rules}
use mir.Syntax.{w32}
use mir.Val.{SFits}
use mir.Facts.{to_z-of_z}
use Rattle.rounding.specs.Rounding.{round}
use Rattle.curve.specs.Weights.{tension}
use Rattle.rings.specs.Scales.{face_scale}
use Rattle.facerules.specs.Faces.{face_value_of}
use Rattle.facerules.proofs.Directions.{put_by_rule}
use Rattle.facerules.proofs.RoundEdges.general_face.Goals as goal

pub returns : goal.returns
returns c =
    let v = λ (a : ℕ). round (face_value_of (tension c.args.self.tension) c.args.self.half_edges c.args.self.work.now a c.args.f c.face_rule-rule.result) (face_scale (tension c.args.self.tension)) in
    let f₀ : SFits w32 c.face_on-x.result = search rules in
    let f₁ : SFits w32 c.face_on-y.result = search rules in
    let f₂ : SFits w32 c.face_on-z.result = search rules in
    let x : c.face_on-x.result ≡ v 0 = search rules in
    let y : c.face_on-y.result ≡ v 1 = search rules in
    let z : c.face_on-z.result ≡ v 2 = search rules in
    put_by_rule _ _ _ _ _ _ _ c.face_on-x.result c.face_on-y.result c.face_on-z.result c.face_rule-rule.ensures x y z (simp to_z-of_z at c.put_point.ensures)
