-- `unit` meets its contract, by cases. Assumes nothing.
use mathlib.Core.Path.{◌≡◌, sym, ap, ◌∙◌}
use lib.IntN.{pos}
use mir.Syntax.{w64}
use mir.Val.{SFits}
use mir.Facts.{to_z-of_z}
use borrow.Author.Tests.{ltb-true, ltb-false, leb-true, leb-false}
use borrow.Author.Rules.{rules}
use Rattle.curve.specs.Weights.{tension}
use Rattle.rings.specs.Scales.{virtual_scale}
use Rattle.edgeentries.specs.Entry.{unit_of}
use Rattle.facerules.proofs.Reading.{unit_plain, unit_wide, unit_boundary}
use Rattle.facerules.proofs.RoundEdges.unit.Goals as goal
use Rattle.facerules.proofs.RoundEdges.unit.Goals.{then-is_plain-via-then-is_plain, then-is_plain-via-else-is_plain+then-is_boundary}

pub returns-then-is_plain : goal.returns-then-is_plain
returns-then-is_plain c =
    let f : SFits w64 c.virtual_scale.result = search rules in
    let e : unit_of (tension c.args.self.tension) c.args.e ≡ virtual_scale (tension c.args.self.tension) =
    elim c.then-is_plain.branch [
      | then-is_plain-via-then-is_plain w ↦ unit_plain c.args.self.tension c.args.e (ltb-true _ _ (sym c.is_plain.ensures ∙ w.if-is_plain.true))
      | then-is_plain-via-else-is_plain+then-is_boundary w ↦ unit_boundary c.args.self.tension c.args.e (ltb-false _ _ (sym c.is_plain.ensures ∙ w.if-is_plain.false)) (leb-true _ _ (sym w.is_boundary.ensures ∙ w.if-is_boundary.true))
    ] in
    simp to_z-of_z (c.virtual_scale.ensures ∙ sym (ap pos e))

pub returns : goal.returns
returns c =
    sym (ap pos (unit_wide c.args.self.tension c.args.e (ltb-false _ _ (sym c.is_plain.ensures ∙ c.if-is_plain.false)) (leb-false _ _ (sym c.is_boundary.ensures ∙ c.if-is_boundary.false))))
