-- `examination::examine_adjacency` meets its contract: refusal 9, then the vertices. Assumes nothing.
use mathlib.Core.Path.{◌≡◌, sym, ap, ◌∙◌}
use lib.ListN.{length}
use Rattle.search.specs.Search.{first}
use Rattle.verdict.specs.Verdict.{refused, adjacency_verdict}
use Rattle.refusals.specs.Refusals.{repeated_side}
use Rattle.polygons.specs.Polygons.{shape_of}
use Rattle.adjacency.proofs.Chains.{tables_lawful}
use Rattle.slotsteps.specs.Slots.{repeats}
use Rattle.slots.proofs.Repeats.{repeats-first}
use Rattle.examination.proofs.Laws.{hit_at, pass_at, refused_here}
use Rattle.examination.proofs.examine_adjacency.Goals as goal
use Rattle.examination.proofs.examine_adjacency.Goals.{After-link}

-- what the slots find is the first repeated side
same : (c : After-link) → (let S = shape_of c.args.net.sides.now in let l = c.args.net.faces.now in first (repeats S l) (length l) ≡ first (repeated_side S l) (length l))
same c =
    repeats-first (shape_of c.args.net.sides.now) (length c.args.net.marks.now) c.args.net.faces.now
    (tables_lawful c.args.net.sides.now c.args.net.faces.now c.args.work.now c.requires.slot_tables.tables) c.requires.faces_value

pub returns-in-Some : goal.returns-in-Some
unfolding adjacency_verdict
returns-in-Some c =
    let S = shape_of c.args.net.sides.now in
    let l = c.args.net.faces.now in
    let f = c.in-Some.ensures.value in
    refused_here _ c.args.net.sides.now l c.args.work.now _ _
    (ap (refused 9) c.face_in.ensures ∙ hit_at 9 (repeated_side S l) (length l) S.face _ _ (sym (same (goal.at.returns-in-Some c).After-link) ∙ f.0, f.1)) c.link.ensures.work_unchanged

pub returns : goal.returns
unfolding adjacency_verdict
returns c =
    let S = shape_of c.args.net.sides.now in
    let l = c.args.net.faces.now in
    record {
      verdict = pass_at 9 (repeated_side S l) (length l) S.face _ _ (sym (same (goal.at.returns c).After-link) ∙ c.in_default.ensures.value) c.examine_vertices.ensures;
      mated = λ e. c.count_faces.ensures.counted.countable.linked.mated;
      rest = c.count_faces.ensures.same_outside.rest ∙ c.link.ensures.work_unchanged;
    }
