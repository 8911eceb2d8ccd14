-- `printing::put_bytes` meets its contract. Assumes nothing.
use mathlib.Core.Path.{refl}
use lib.ListN.{length}
use native.Mathlib.Omega.{arith}
use Rattle.decimal.proofs.Copies.{copied}
use Rattle.printing.proofs.put_bytes.Goals as goal

pub returns : goal.returns
returns c = record { stored = record { bytes = copied c.args.out.now c.args.at (length c.args.s.now) c.copy_from_slice.ensures.after refl (omega arith); end = refl }; within = omega arith }
