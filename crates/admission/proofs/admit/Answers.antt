-- `admission::admit` meets its contract: the limits, then the net. Assumes nothing.
use mathlib.Core.Path.{refl}
use lib.ListN.{length}
use Rattle.nets.specs.Drawn.{drawn}
use Rattle.verdict.specs.Call.{call, quadrilaterals}
use Rattle.limits.specs.Answer.{room_in, FinalFaces}
use Rattle.admission.proofs.Laws.{refused_limits, shape_room, check_tables, room_work_lem, admitted_net, refused_net, admits_refused}
use Rattle.admission.proofs.admit.Goals as goal
use Rattle.admission.proofs.admit.Goals.{After-final_faces-last}

final : (c : After-final_faces-last) → FinalFaces c.args.rounds (quadrilaterals c.args.net.sides.now (length c.args.net.faces.now)) c.final_faces-last.result
final c = rw c.quadrilaterals-quadrilaterals.ensures at c.final_faces-last.ensures

pub returns-in_err-call_fault : goal.returns-in_err-call_fault
returns-in_err-call_fault c =
    admits_refused (call c.args.rounds (drawn c.args.net) c.args.tension (room_in c.args.room)) c.args.work.now c.args.work.now _ c.in_err-call_fault.field-0.0 c.from_residual.ensures.1
    (refused_limits c.args.rounds (drawn c.args.net) c.args.tension (room_in c.args.room) c.args.work.now _ c.in_err-call_fault.ensures)

pub build_shape-requires : goal.build_shape-requires
build_shape-requires c = shape_room c.args.rounds (drawn c.args.net) c.args.tension (room_in c.args.room) c.args.work.now c.in_ok-call_fault.ensures c.requires

pub examine_net-requires : goal.examine_net-requires
examine_net-requires c =
    check_tables c.args.rounds (drawn c.args.net) c.args.tension (room_in c.args.room) c.args.work.now c.in_ok-call_fault.ensures c.build_shape.new.work c.build_shape.ensures c.build_shape.auto.work
    c.requires

pub clear-requires : goal.clear-requires
clear-requires c =
    room_work_lem c.args.rounds (drawn c.args.net) c.args.tension (room_in c.args.room) c.args.work.now c.in_ok-call_fault.ensures c.build_shape.new.work c.build_shape.ensures c.build_shape.auto.work _
    (final (goal.at.clear-requires c).After-final_faces-last) c.examine_net.new.work c.examine_net.ensures.rest c.requires c.examine_net.auto.work

pub returns-in-Ok : goal.returns-in-Ok
returns-in-Ok c =
    let e = c.in-Ok.ensures in
    admitted_net c.args.rounds (drawn c.args.net) c.args.tension (room_in c.args.room) c.args.work.now c.in_ok-call_fault.ensures c.build_shape.new.work c.build_shape.ensures c.build_shape.auto.work _
    (final (goal.at.returns-in-Ok c).After-final_faces-last) c.examine_net.new.work e.rest c.examine_net.auto.work e.verdict (e.mated refl)

pub returns-in-Err : goal.returns-in-Err
returns-in-Err c =
    let e = c.in-Err.ensures in
    refused_net c.args.rounds (drawn c.args.net) c.args.tension (room_in c.args.room) c.args.work.now c.in_ok-call_fault.ensures c.build_shape.new.work c.build_shape.ensures c.build_shape.auto.work _
    (final (goal.at.returns-in-Err c).After-final_faces-last) c.examine_net.new.work e.rest _ _ _ e.verdict c.clear.ensures
