-- `printing::put_faces` meets its contract. Assumes nothing.
use Rattle.textform.specs.Text.{face_text}
use Rattle.printingform.specs.Tables.{text_face_at, faces_of}
use Rattle.printingform.proofs.Writing.{lines_none, lines_more}
use Rattle.printing.proofs.put_faces.Goals as goal

pub loop-i-init : goal.loop-i-init
unfolding faces_of
loop-i-init c = (lines_none face_text (text_face_at c.args.faces.now) 44 _ _)

pub loop-i-preserved : goal.loop-i-preserved
unfolding faces_of
loop-i-preserved c =
    lines_more face_text (text_face_at c.args.faces.now) 44 c.loop-i.i c.loop-i.invariant c.put_face-to.ensures
