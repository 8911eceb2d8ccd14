-- `refine::refine` meets its contract: the admission, then refusal 15 or the rounds. Assumes nothing.
use mathlib.Core.Path.{◌≡◌, ◌∙◌}
use borrow.Author.Rules.{rules}
use Rattle.std.specs.Prelude.{Err}
use Rattle.outcome.specs.Outcome.{Request, request_on}
use Rattle.refine.proofs.Whole.{same_outcome, refused_outcome_lem}
use Rattle.refine.proofs.refine.Goals as goal
use Rattle.refine.proofs.refine.Goals.{Start}

abbrev asked : (c : Start) → Request
asked c =
    let a = c.args in
    request_on a.points a.rounds a.net.vertices.now a.net.faces.now a.net.sides.now a.net.marks.now a.tension a.out_vertices.now a.out_faces.now a.out_marks.now a.with_letters a.letters.now a.work.now

pub returns-in_err-last : goal.returns-in_err-last
returns-in_err-last c =
    let e : c.from_residual.result ≡ Err c.in_err-last.field-0.0 = search rules in
    rw e (refused_outcome_lem (asked (goal.at.returns-in_err-last c).Start) _ c.admit.new.work c.in_err-last.ensures)

pub returns : goal.returns
returns c =
    c.refine_admitted.ensures ∙ same_outcome (asked (goal.at.returns c).Start) _ c.admit.new.work c.in_ok-last.ensures.0 c.admit.auto.work c.in_ok-last.ensures.1
