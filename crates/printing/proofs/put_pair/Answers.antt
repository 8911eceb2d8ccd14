-- `printing::put_pair` meets its contract: two fields in a row. Assumes nothing.
use Rattle.textform.specs.Text.{pair_text}
use Rattle.printingform.proofs.Writing.{in_row}
use Rattle.printing.proofs.put_pair.Goals as goal

pub returns : goal.returns
unfolding pair_text
returns c =
    in_row c.put_field-i.ensures c.put_field.ensures
