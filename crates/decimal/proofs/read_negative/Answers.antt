-- `decimal::read_negative` meets its contract. Assumes nothing.
use mathlib.Core.Path.{refl, sym, ap, ◌∙◌}
use Rattle.std.proofs.lemmas.Int.{ints}
use native.Mathlib.Omega.{arith}
use Rattle.decimalform.specs.Decimal.{negated, largest_magnitude}
use Rattle.decimalform.proofs.Reading.{natural_at_most, negated-zero}
use Rattle.decimal.proofs.Reading.{gives_none, negative_found}
use Rattle.decimal.proofs.read_negative.Goals as goal

pub returns-in_err-m : goal.returns-in_err-m
returns-in_err-m c = gives_none c.from_residual.ensures (ap negated c.in_err-m.ensures.reads)

pub returns-then-m-eq0 : goal.returns-then-m-eq0
returns-then-m-eq0 c = gives_none refl (sym (negated-zero c.in_ok-m.m.value _ c.if-m-eq0.true) ∙ ap negated c.in_ok-m.ensures.reads)

pub overflow_cast-result : goal.overflow_cast-result
overflow_cast-result c = let k = natural_at_most largest_magnitude _ _ _ (sym c.in_ok-m.ensures.reads) in omega (arith, ints)

pub returns : goal.returns
returns c =
    let k = natural_at_most largest_magnitude _ _ _ (sym c.in_ok-m.ensures.reads) in
    negative_found c.in_ok-m.ensures c.if-m-eq0.false (omega (arith, ints))
