-- `decimal::read_natural` meets its contract. Assumes nothing.
use native.Mathlib.Omega.{arith}
use Rattle.decimal.proofs.Reading.{natural_none, natural_zero, natural_digits, natural_below, natural_above}
use Rattle.decimal.proofs.read_natural.Goals as goal

pub returns-in-48 : goal.returns-in-48
returns-in-48 c = natural_zero _ _ (omega arith) (omega arith)

pub returns-in-49-to-57 : goal.returns-in-49-to-57
returns-in-49-to-57 c = rw (natural_digits c.args.limit c.args.text.now (omega arith) (omega arith) (omega arith)) c.read_digits.ensures

pub returns-in_default : goal.returns-in_default
returns-in_default c = natural_none _ _ (omega arith)

pub returns-in_default-2 : goal.returns-in_default-2
returns-in_default-2 c = natural_below _ _ (omega arith) (omega arith)

pub returns-in_default-3 : goal.returns-in_default-3
returns-in_default-3 c = natural_above _ _ (omega arith) (omega arith)
