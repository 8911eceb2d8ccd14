-- `obj::store_items` meets its contract. Assumes nothing.
use Prim.Native.Nat.{◌-◌}
use lib.ListN.{length}
use Rattle.obj.proofs.Passing.{Storing}
use Rattle.obj.proofs.store_items.Given as goal

abbrev pub invariant-loop-at : goal.invariant-loop-at
invariant-loop-at l = Storing l.text l.initial.vertices l.vertices l.initial.faces l.faces l.initial.marks l.marks l.met.vertices l.met.faces l.at

abbrev pub decreases-loop-at : goal.decreases-loop-at
decreases-loop-at l = length l.text - l.at
