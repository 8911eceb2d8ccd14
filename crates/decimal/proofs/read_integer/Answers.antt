-- `decimal::read_integer` meets its contract. Assumes nothing.
use mathlib.Core.Path.{refl}
use native.Mathlib.Omega.{arith}
use borrow.Author.Rules.{rules}
use mir.Syntax.{w32}
use mir.Val.{SFits}
use mir.Facts.{to_z-of_z}
use Rattle.decimal.proofs.Reading.{gives_none, integer_none, minus_bad, minus_found, no_minus}
use Rattle.decimal.proofs.read_integer.Goals as goal

pub returns-in-empty : goal.returns-in-empty
returns-in-empty c = gives_none refl (integer_none _ (omega arith))

pub returns-in_err-z-in-45 : goal.returns-in_err-z-in-45
returns-in_err-z-in-45 c = gives_none c.from_residual.ensures (minus_bad _ (omega arith) (omega arith) c.read_negative.ensures c.in_err-z-in-45.was)

pub returns-in_ok-z-in-45 : goal.returns-in_ok-z-in-45
returns-in_ok-z-in-45 c =
    let f : SFits w32 c.in_ok-z-in-45.z.value = search rules in
    simp to_z-of_z (minus_found _ (omega arith) (omega arith) c.read_negative.ensures c.in_ok-z-in-45.was)

pub returns-in_default : goal.returns-in_default
returns-in_default c = no_minus _ (λ p. omega arith) c.read_unsigned.ensures
