-- `obj::skip_to` meets its contract. Assumes nothing.
use mathlib.Core.Path.{◌≡◌}
use lib.ListN.{drop}
use Rattle.objform.specs.Form.{skip_to}
use Rattle.obj.proofs.skip_to.Given as goal

abbrev pub invariant-loop-i : goal.invariant-loop-i
invariant-loop-i l = skip_to l.stop (drop l.at l.text) ≡ skip_to l.stop (drop l.i l.text)
