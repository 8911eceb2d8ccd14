-- `examination::examine_shape` meets its contract: the tests in their order. Assumes nothing.
use mathlib.Core.Path.{◌≡◌, refl, ap, ◌∙◌}
use lib.ListN.{length}
use Rattle.std.proofs.Common.{rules}
use Rattle.refusals.specs.Refusals.{bad_mark, bad_corner}
use Rattle.polygons.specs.Polygons.{shape_of}
use Rattle.verdict.specs.Verdict.{refused, shape_verdict}
use Rattle.reasons.specs.Reasons.{refused_as, verdict_of}
use Rattle.examination.proofs.Laws.{hit_at, pass_at, hit_found, pass_found, refused_here, refused_net}
use Rattle.examination.proofs.examine_shape.Goals as goal

pub returns-in_err-refuse_at : goal.returns-in_err-refuse_at
unfolding shape_verdict
returns-in_err-refuse_at c =
    let m = c.args.net.marks.now in
    let e : verdict_of c.from_residual.result ≡ refused_as c.in_err-refuse_at.field-0.0 = search rules in
    refused_net _ c.args.net.sides.now c.args.net.faces.now c.args.work.now _ _ _ e
    (hit_found 6 (bad_mark m) (length m) _ _ _ c.first_bad_mark.ensures c.in_err-refuse_at.ensures) refl

pub returns-in-Some : goal.returns-in-Some
unfolding shape_verdict
returns-in-Some c =
    let S = shape_of c.args.net.sides.now in
    let m = c.args.net.marks.now in
    let l = c.args.net.faces.now in
    refused_here _ c.args.net.sides.now l c.args.work.now _ _
    (pass_found 6 (bad_mark m) (length m) _ _ _ c.first_bad_mark.ensures c.in_ok-refuse_at.ensures
    (ap (refused 7) c.face_in.ensures ∙ hit_at 7 (bad_corner S (length m) l) (length l) S.face _ _ c.in-Some.ensures)) refl

pub returns : goal.returns
unfolding shape_verdict
returns c =
    let S = shape_of c.args.net.sides.now in
    let m = c.args.net.marks.now in
    let l = c.args.net.faces.now in
    let e = c.examine_faces.ensures in
    record {
      verdict =
          pass_found 6 (bad_mark m) (length m) _ _ _ c.first_bad_mark.ensures c.in_ok-refuse_at.ensures
          (pass_at 7 (bad_corner S (length m) l) (length l) S.face _ _ c.in_default.ensures e.verdict);
      mated = e.mated;
      rest = e.rest;
    }
