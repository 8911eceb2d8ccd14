-- `decimal::read_digits` meets its contract: each turn reads one more digit. Assumes nothing.
use mathlib.Core.Path.{◌≡◌, sym, ◌∙◌}
use Prim.Native.Nat.{◌+◌}
use native.Mathlib.Omega.{arith}
use lib.ListN.{length, drop}
use Rattle.decimalform.proofs.Reading.{digits_on, digits_stop, digits_end}
use Rattle.decimal.proofs.Reading.{digits_given, digits_refused}
use Rattle.decimal.proofs.read_digits.Goals as goal

pub returns-then-not-is_ascii_digit : goal.returns-then-not-is_ascii_digit
returns-then-not-is_ascii_digit c =
    let i = c.loop-i.i in
    let l = c.args.text.now in
    digits_given l _ i _ (omega arith) c.loop-i.invariant.0 c.loop-i.invariant.1
    (digits_stop l i _ c.loop-i-test.true (sym c.is_ascii_digit.ensures.value ∙ c.if-not-is_ascii_digit.true))

pub returns-then-most-next : goal.returns-then-most-next
returns-then-most-next c =
    let l = c.args.text.now in
    digits_refused l (drop (c.loop-i.i + 1) l) _ _ (omega arith)
    (c.loop-i.invariant.1 ∙ digits_on l c.loop-i.i c.loop-i.value c.loop-i-test.true (sym c.is_ascii_digit.ensures.value ∙ c.if-not-is_ascii_digit.false))

pub loop-i-preserved : goal.loop-i-preserved
loop-i-preserved c =
    let l = c.args.text.now in
    (omega arith, rw c.from.ensures (c.loop-i.invariant.1 ∙ digits_on l c.loop-i.i c.loop-i.value c.loop-i-test.true (sym c.is_ascii_digit.ensures.value ∙ c.if-not-is_ascii_digit.false)))

pub returns : goal.returns
returns c =
    let l = c.args.text.now in
    let e : c.loop-i.i ≡ length l = omega arith in
    digits_given l _ (length l) _ (omega arith) c.loop-i.invariant.0 (rw e at c.loop-i.invariant.1) (digits_end l (length l) _ (omega arith))
