-- `printing::write_refusal` meets its contract: a line of names and one of two numbers. Assumes nothing.
use native.Mathlib.Omega.{arith}
use Rattle.textform.specs.Bytes.{bytes}
use Rattle.textform.specs.Text.{refusal_text}
use Rattle.printingform.proofs.Writing.{in_row, at_front}
use Rattle.printing.proofs.write_refusal.Goals as goal

pub returns : goal.returns
unfolding bytes refusal_text
returns c =
    at_front _ _ _ _ _ _ (in_row c.put_bytes-a.ensures c.put_pair.ensures) (omega arith) c.requires
