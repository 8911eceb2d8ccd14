-- `bad_sides` meets its contract: the counts met so far are good, and with what is left they make the number of corners. Assumes nothing.
use Prim.Native.Nat.{◌+◌}
use mathlib.Core.Path.{◌≡◌}
use lib.ListN.{take}
use Rattle.polygons.specs.Polygons.{total}
use Rattle.search.proofs.First.{Passed}
use Rattle.polygons.proofs.Counts.{bad_at}
use Rattle.limits.proofs.bad_sides.Given as goal

abbrev pub invariant-loop-side : goal.invariant-loop-side
invariant-loop-side l = Passed (bad_at l.sides) l.side-index × (total (take l.side-index l.sides) + l.left ≡ l.corners)
