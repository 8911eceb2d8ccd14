-- `printing::u64::put` meets its contract: the number has so few digits. Assumes nothing.
use native.Mathlib.Omega.{arith}
use Rattle.decimalform.proofs.Writing.{length_long}
use Rattle.printing.proofs.U64Number.put.Goals as goal

pub put_natural-requires : goal.put_natural-requires
put_natural-requires c = let l = length_long c.args.self c.ranges.self.fits in omega arith

pub returns : goal.returns
returns c =
    let w = c.put_natural.ensures in
    let e = w.end in
    let l = length_long c.args.self c.ranges.self.fits in
    record { stored = w; within = omega arith }
