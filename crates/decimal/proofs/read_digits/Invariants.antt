-- `decimal::read_digits` meets its contract: each turn reads one more digit. Assumes nothing.
use mathlib.Core.Path.{◌≡◌}
use Prim.Native.Nat.{◌≤◌}
use lib.ListN.{drop}
use Rattle.decimalform.specs.Decimal.{read_digits}
use Rattle.decimal.proofs.read_digits.Given as goal

abbrev pub invariant-loop-i : goal.invariant-loop-i
invariant-loop-i l = (l.value ≤ l.limit) × (read_digits 0 l.text ≡ read_digits l.value (drop l.i l.text))
