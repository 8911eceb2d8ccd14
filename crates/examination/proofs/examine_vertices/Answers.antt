-- `examination::examine_vertices` meets its contract: the tests in their order. Assumes nothing.
use mathlib.Core.Path.{◌≡◌, ◌∙◌}
use Rattle.std.proofs.Common.{rules}
use Rattle.polygons.specs.Polygons.{shape_of}
use Rattle.refusals.specs.Refusals.{non_manifold, bad_valence, marked_ring}
use Rattle.verdict.specs.Verdict.{vertex_verdict}
use Rattle.reasons.specs.Reasons.{refused_as, verdict_of}
use Rattle.examination.proofs.Laws.{hit_found, pass_found, last_found}
use Rattle.examination.proofs.examine_vertices.Goals as goal

pub returns-in_err-refuse_at : goal.returns-in_err-refuse_at
unfolding vertex_verdict
returns-in_err-refuse_at c =
    let S = shape_of c.args.vertices.mesh.sides.now in
    let l = c.args.vertices.mesh.faces.now in
    let e : verdict_of c.from_residual.result ≡ refused_as c.in_err-refuse_at.field-0.0 = search rules in
    e ∙ hit_found 10 (non_manifold S l) c.args.vertices.count _ _ _ c.first_non_manifold.ensures c.in_err-refuse_at.ensures

pub returns-in_err-refuse_at-2 : goal.returns-in_err-refuse_at-2
unfolding vertex_verdict
returns-in_err-refuse_at-2 c =
    let S = shape_of c.args.vertices.mesh.sides.now in
    let l = c.args.vertices.mesh.faces.now in
    let v = c.args.vertices.count in
    let e : verdict_of c.from_residual-in_err-refuse_at-2.result ≡ refused_as c.in_err-refuse_at-2.field-0.0 = search rules in
    pass_found 10 (non_manifold S l) v _ _ _ c.first_non_manifold.ensures c.in_ok-refuse_at.ensures
    (e ∙ hit_found 11 (bad_valence S l) v _ _ _ c.first_bad_valence.ensures c.in_err-refuse_at-2.ensures)

pub returns : goal.returns
unfolding vertex_verdict
returns c =
    let S = shape_of c.args.vertices.mesh.sides.now in
    let l = c.args.vertices.mesh.faces.now in
    let v = c.args.vertices.count in
    pass_found 10 (non_manifold S l) v _ _ _ c.first_non_manifold.ensures c.in_ok-refuse_at.ensures
    (pass_found 11 (bad_valence S l) v _ _ _ c.first_bad_valence.ensures c.in_ok-refuse_at-2.ensures
    (c.refuse_at-3.ensures ∙ last_found 12 (marked_ring S l c.args.marks.now) v _ c.first_marked_ring.ensures))
