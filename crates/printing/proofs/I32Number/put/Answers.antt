-- `printing::i32::put` meets its contract: the number has at most 11 bytes. Assumes nothing.
use Prim.Native.Nat.{◌≤◌}
use native.Mathlib.Omega.{arith}
use lib.IntN.{ℤ}
use lib.ListN.{length}
use mir.Facts.{to_z-of_z}
use mir.Syntax.{w32}
use mir.Val.{SFits}
use Rattle.integers.proofs.Range.{abs_fits}
use Rattle.decimalform.specs.Decimal.{integer_text}
use Rattle.decimalform.proofs.Writing.{length_integer}
use Rattle.printing.proofs.I32Number.put.Goals as goal

length-signed : (z : ℤ) → SFits w32 z → length (integer_text z) ≤ 11
length-signed z f = let a = abs_fits f in length_integer z (omega arith)

pub put_integer-requires : goal.put_integer-requires
put_integer-requires c = let f = c.ranges.self in let l = length-signed c.args.self f in simp to_z-of_z (omega arith)

pub returns : goal.returns
returns c =
    let f = c.ranges.self in
    let w = simp to_z-of_z at c.put_integer.ensures in
    let e = w.end in
    let l = length-signed c.args.self f in
    record { stored = w; within = omega arith }
