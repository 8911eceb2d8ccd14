-- `refine_mates` meets its contract: the mates of the faces from f on are refined. Assumes nothing.
use Rattle.tables.proofs.Written.{refining_next}
use Rattle.roundmates.proofs.InPlace.{mates_as, mates_all}
use Rattle.roundmates.proofs.refine_mates.Goals as goal

pub loop-f-preserved : goal.loop-f-preserved
loop-f-preserved g c =
    let head = c.loop-f in
    let t = c.loop-f-test.true in
    let call = c.refine_sides in
    refining_next c.args.n _ c.args.work.now head.work _ head.f t head.invariant call.auto.work
    (mates_as c.args.n c.args.work.now c.requires.mates head.work _ head.f t head.invariant call.ensures)

pub returns : goal.returns
returns g c =
    let head = c.loop-f in
    mates_all c.args.n c.args.work.now c.requires.mates head.work head.f c.loop-f-test.false head.invariant
