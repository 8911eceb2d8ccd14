-- `face_on` meets its contract, by cases. Assumes nothing.
use borrow.Author.Rules.{rules}
use mathlib.Core.Path.{◌≡◌, sym, ap, ◌∙◌}
use mathlib.Core.Logic.{⊎_elim}
use lib.IntN.{ℤ}
use mir.Syntax.{w32}
use mir.Val.{SFits}
use mir.Facts.{to_z-of_z}
use Rattle.rounding.specs.Rounding.{round}
use Rattle.curve.specs.Weights.{tension}
use Rattle.rings.specs.Scales.{face_scale}
use Rattle.facerules.specs.declared.FaceRule.{FaceRule}
use Rattle.facerules.specs.declared.FaceRule.TheVariants.{BothInner}
use Rattle.facerules.specs.Faces.{face_value_of}
use Rattle.facerules.proofs.RoundEdges.face_on.Goals as goal

pub returns-in-FirstAlone : goal.returns-in-FirstAlone
unfolding face_value_of
returns-in-FirstAlone c =
    let f : SFits w32 c.mean_on.result = search rules in
    let e = ap (λ (r : FaceRule). round (face_value_of (tension c.args.self.tension) c.args.self.half_edges c.args.self.work.now c.args.a c.args.f r) (face_scale (tension c.args.self.tension))) c.in-FirstAlone.is in
    simp to_z-of_z (c.mean_on.ensures ∙ sym e)

pub returns-in-SecondAlone : goal.returns-in-SecondAlone
unfolding face_value_of
returns-in-SecondAlone c =
    let f : SFits w32 c.mean_on-in-SecondAlone.result = search rules in
    let e = ap (λ (r : FaceRule). round (face_value_of (tension c.args.self.tension) c.args.self.half_edges c.args.self.work.now c.args.a c.args.f r) (face_scale (tension c.args.self.tension))) c.in-SecondAlone.is in
    simp to_z-of_z (c.mean_on-in-SecondAlone.ensures ∙ sym e)

pub returns-in-BothInner : goal.returns-in-BothInner
unfolding face_value_of
returns-in-BothInner c =
    let f : SFits w32 c.mean_on-in-BothInner.result = search rules in
    let v : FaceRule → ℤ = λ r. round (face_value_of (tension c.args.self.tension) c.args.self.half_edges c.args.self.work.now c.args.a c.args.f r) (face_scale (tension c.args.self.tension)) in
    let e : v BothInner ≡ v c.args.rule = ⊎_elim (λ x. sym (ap v x)) (λ x. sym (ap v x)) c.in-BothInner.is in
    simp to_z-of_z (c.mean_on-in-BothInner.ensures ∙ e)
