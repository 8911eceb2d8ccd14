-- `find_side` meets its contract: the walk along the chain of a passes all half-edges from a to b. Assumes nothing.
use Prim.Native.Nat.{◌-◌}
use lib.ListN.{length}
use Rattle.polygons.specs.Polygons.{shape_of}
use Rattle.adjacency.specs.Chains.{side}
use Rattle.adjacency.proofs.Chains.{Walk}
use Rattle.adjacency.proofs.find_side.Given as goal

abbrev pub invariant-loop-g : goal.invariant-loop-g
invariant-loop-g l = Walk (side (shape_of l.sides) l.faces l.a l.b) l.faces l.a l.g

abbrev pub decreases-loop-g : goal.decreases-loop-g
decreases-loop-g l = length l.faces - l.g
