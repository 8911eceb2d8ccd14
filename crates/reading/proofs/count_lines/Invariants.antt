-- `reading::count_lines` meets its contract. Assumes nothing.
use Rattle.std.proofs.Common.{◌≡◌, ℕ, ◌≤◌, List, length}
use Rattle.std.specs.Fn.{FnReturnsAt}
use Rattle.decimalform.specs.Decimal.{Read}
use Rattle.reading.specs.Answers.{line_of}
use Rattle.reading.proofs.Lines.{Passed}
use Rattle.reading.proofs.count_lines.Given as goal

abbrev pub invariant-loop-good : goal.invariant-loop-good
invariant-loop-good g l =
    (l.used ≤ length l.text)
    × ((read : List ℕ → Read (Unit {0})) → ((m : List ℕ) (r : _) → FnReturnsAt g.F.Fn l.line m r → line_of r m ≡ read m) → Passed read l.count l.text l.good l.used)
