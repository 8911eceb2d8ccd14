-- `admission::check` meets its contract: the admission, and one clearing. Assumes nothing.
use mathlib.Core.Path.{◌≡◌, ap, ◌∙◌}
use native.Mathlib.Omega.{arith}
use Rattle.std.proofs.Common.{rules}
use Rattle.nets.specs.Drawn.{drawn}
use Rattle.verdict.specs.Call.{call}
use Rattle.verdict.specs.Verdict.{Verdict}
use Rattle.reasons.specs.Reasons.{refused_as, verdict_of}
use Rattle.limits.specs.Answer.{room_in}
use Rattle.admission.specs.Answer.{checked_as}
use Rattle.admission.proofs.Laws.{admitted_faces, admitted_room, checked_admitted, checked_refused}
use Rattle.admission.proofs.check.Goals as goal

pub returns-in_err-g : goal.returns-in_err-g
returns-in_err-g c =
    let e : verdict_of c.from_residual.result ≡ refused_as c.in_err-g.field-0.0 = search rules in
    ap (λ (v : Verdict). checked_as v c.admit.new.work) e
    ∙ checked_refused (call c.args.rounds (drawn c.args.net) c.args.tension (room_in c.args.room)) c.args.work.now c.admit.new.work _ _ c.in_err-g.ensures

pub overflow_mul-g : goal.overflow_mul-g
overflow_mul-g c =
    let b = admitted_faces (call c.args.rounds (drawn c.args.net) c.args.tension (room_in c.args.room)) c.in_ok-g.g c.admit.new.work c.in_ok-g.ensures.0 in
    omega arith

pub clear-requires : goal.clear-requires
clear-requires c =
    let b = admitted_room (call c.args.rounds (drawn c.args.net) c.args.tension (room_in c.args.room)) c.in_ok-g.g c.admit.new.work c.in_ok-g.ensures.0 in
    let k = c.admit.auto.work in
    omega arith

pub returns : goal.returns
returns c =
    let a = c.in_ok-g.ensures in
    checked_admitted (call c.args.rounds (drawn c.args.net) c.args.tension (room_in c.args.room)) c.in_ok-g.g c.admit.new.work a.0 c.args.work.now _ a.1 c.clear.ensures
