-- `decimal::read_unsigned` meets its contract. Assumes nothing.
use mathlib.Core.Path.{sym, ap}
use Rattle.std.proofs.lemmas.Int.{ints}
use native.Mathlib.Omega.{arith}
use Rattle.decimalform.specs.Decimal.{unsigned, largest_number}
use Rattle.decimalform.proofs.Reading.{natural_at_most}
use Rattle.decimal.proofs.Reading.{gives_none, positive_found}
use Rattle.decimal.proofs.read_unsigned.Goals as goal

pub returns-in_err-m : goal.returns-in_err-m
returns-in_err-m c = gives_none c.from_residual.ensures (ap unsigned c.in_err-m.ensures.reads)

pub overflow_cast-result : goal.overflow_cast-result
overflow_cast-result c = let k = natural_at_most largest_number _ _ _ (sym c.in_ok-m.ensures.reads) in omega (arith, ints)

pub returns : goal.returns
returns c =
    let k = natural_at_most largest_number _ _ _ (sym c.in_ok-m.ensures.reads) in
    positive_found c.in_ok-m.ensures (omega (arith, ints))
