-- `printing::put_field` meets its contract. Assumes nothing.
use native.Mathlib.Omega.{arith}
use Rattle.printingform.proofs.Writing.{stored_field}
use Rattle.printing.proofs.put_field.Goals as goal

pub returns : goal.returns
returns g c =
    let w = c.put-stop.ensures in
    let k = w.within in
    record { stored = stored_field _ _ _ _ _ _ w.stored; within = omega arith }
