-- `printing::put_numbers` meets its contract: four numbers in a row. Assumes nothing.
use mir.Facts.{to_z-of_z}
use Rattle.textform.specs.Text.{numbers_text}
use Rattle.printingform.proofs.Writing.{in_row}
use Rattle.printing.proofs.put_numbers.Goals as goal

pub returns : goal.returns
unfolding numbers_text
returns c =
    let f = c.ranges in
    let fx = f.x in
    let fy = f.y in
    let fz = f.z in
    simp to_z-of_z at (in_row (in_row (in_row c.put_field-i.ensures c.put_field-j.ensures) c.put_field-k.ensures) c.put.ensures)
