-- `reading::store_faces` meets its contract. Assumes nothing.
use Rattle.textform.specs.Form.{read_face}
use Rattle.reading.proofs.Lines.{line_reads, line_within}
use Rattle.reading.proofs.Storing.{filling_more, filling_over, filling_bad, face_stored, no_corners}
use Rattle.reading.proofs.store_faces.Goals as goal

pub returns-in_default : goal.returns-in_default
unfolding read_face
returns-in_default c = filling_bad c.loop-i.invariant.1 no_corners (line_reads read_face c.args.text.now c.loop-i.at c.in_default.ensures)

pub loop-i-preserved : goal.loop-i-preserved
unfolding read_face
loop-i-preserved c =
    let l = c.loop-i.invariant in
    let g = c.in-Some.ensures in (
      line_within c.args.text.now c.loop-i.at g l.0,
      filling_more l.1 _ _ _ _ c.loop-i-test.true (line_reads read_face c.args.text.now c.loop-i.at g) (face_stored _ c.loop-i.i _ c.store_face.ensures) c.store_face.auto.faces,
    )

pub returns : goal.returns
returns c = filling_over c.loop-i.invariant.1 no_corners c.loop-i-test.false
