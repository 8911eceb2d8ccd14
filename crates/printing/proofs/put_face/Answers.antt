-- `printing::put_face` meets its contract: four fields in a row. Assumes nothing.
use Rattle.textform.specs.Text.{face_text}
use Rattle.printingform.proofs.Writing.{in_row}
use Rattle.printing.proofs.put_face.Goals as goal

pub returns : goal.returns
unfolding face_text
returns c =
    in_row (in_row (in_row c.put_field-i.ensures c.put_field-j.ensures) c.put_field-k.ensures) c.put_field.ensures
