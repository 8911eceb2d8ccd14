-- `ordinary_ends` meets its contract. Assumes nothing.
use mathlib.Core.Path.{sym, ap, ◌∙◌}
use Rattle.ringsizes.specs.Classes.{ordinary_by}
use Rattle.exactedges.proofs.Wide.{classed_end, irregular_end}
use Rattle.edgepoints.proofs.ordinary_ends.Goals as goal

pub returns-then-is_ordinary : goal.returns-then-is_ordinary
returns-then-is_ordinary c =
    let classed = c.requires.classed_corners.0 in
    let by = ordinary_by c.args.mesh.work.now c.args.classes.at c.args.classes.initial in
    let e = ap by (sym c.start_of.ensures) ∙ sym c.is_ordinary.ensures ∙ c.if-is_ordinary.true in
    let f = c.is_ordinary-then-is_ordinary.ensures ∙ ap by c.end_of.ensures in
    record {
      both = λ t. (classed.ordinary _ c.requires.classed_corners.1 e, classed_end c.requires.ready.vertices _ c.requires.ready.net _ _ _ classed _ c.requires.classed_corners.1 (sym f ∙ t));
      not_both = λ t a b. irregular_end c.requires.ready.vertices _ c.requires.ready.net _ _ _ classed _ c.requires.classed_corners.1 (sym f ∙ t) b;
    }
