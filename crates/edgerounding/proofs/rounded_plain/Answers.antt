-- `rounded_plain` meets its contract: the rounded value is in the range of 32 bits. Assumes nothing.
use mathlib.Core.Path.{◌≡◌}
use native.Mathlib.Omega.{arith}
use borrow.Author.Rules.{rules}
use mir.Syntax.{w32, w64}
use mir.Val.{SFits}
use mir.Facts.{to_z-of_z}
use Rattle.integers.proofs.Range.{fits_abs}
use Rattle.rounding.specs.Rounding.{round}
use Rattle.rounding.proofs.Laws.{round_size}
use Rattle.edgerounding.proofs.rounded_plain.Goals as goal

pub overflow_cast-result : goal.overflow_cast-result
overflow_cast-result c =
    let value : c.round_shift.result ≡ round c.args.z 64 = let f : SFits w64 c.args.z = c.ranges.z in simp to_z-of_z at c.round_shift.ensures in
    let fits : SFits w32 c.round_shift.result = let h = c.requires in let r = round_size c.args.z 64 (omega arith) in let e = value in rw e (fits_abs w32 (round c.args.z 64) (omega arith)) in
    let g : SFits w32 c.round_shift.result = fits in
    let k : SFits w64 c.round_shift.result = search rules in
    simp to_z-of_z g

pub returns : goal.returns
returns c =
    let value : c.round_shift.result ≡ round c.args.z 64 = let f : SFits w64 c.args.z = c.ranges.z in simp to_z-of_z at c.round_shift.ensures in
    let fits : SFits w32 c.round_shift.result = let h = c.requires in let r = round_size c.args.z 64 (omega arith) in let e = value in rw e (fits_abs w32 (round c.args.z 64) (omega arith)) in
    let f : SFits w64 c.args.z = c.ranges.z in
    let g : SFits w32 c.round_shift.result = fits in
    let k : SFits w64 c.round_shift.result = search rules in
    simp to_z-of_z value
