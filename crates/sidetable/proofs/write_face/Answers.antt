-- `write_face` meets its contract: the sides below j are written. Assumes nothing.
use native.Mathlib.Omega.{arith}
use Rattle.sidetable.proofs.Table.{face_in_room, face_more, outside_written}
use Rattle.sidetable.proofs.write_face.Goals as goal

pub loop-j-preserved : goal.loop-j-preserved
loop-j-preserved c =
    let k = face_in_room _ _ _ c.requires.shape_room _ c.requires.f_in_bounds.0 in
    let r = c.requires.shape_room.room (omega arith) in (
      face_more _ _ _ _ _ _ _ _ _ k c.requires.f_in_bounds.1 c.loop-j-test.true (omega arith) c.side_after.ensures c.side_before.ensures c.write_side.ensures c.loop-j.invariant.0,
      outside_written _ _ _ _ _ _ _ _ c.write_side.ensures (omega arith) c.loop-j.invariant.1,
    )
