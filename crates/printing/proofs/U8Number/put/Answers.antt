-- `printing::u8::put` meets its contract: the number has so few digits. Assumes nothing.
use native.Mathlib.Omega.{arith}
use Rattle.decimalform.proofs.Writing.{length_byte}
use Rattle.printing.proofs.U8Number.put.Goals as goal

pub put_natural-requires : goal.put_natural-requires
put_natural-requires c = let l = length_byte c.args.self c.ranges.self.fits in rw c.from.ensures (omega arith)

pub returns : goal.returns
returns c =
    let w = rw c.from.ensures at c.put_natural.ensures in
    let e = w.end in
    let l = length_byte c.args.self c.ranges.self.fits in
    record { stored = w; within = omega arith }
