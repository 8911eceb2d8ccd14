-- `put_slots` meets its contract: the half-edges below g that leave a are put. Assumes nothing.
use Prim.Native.Nat.{◌-◌, ◌*◌}
use lib.ListN.{length}
use Rattle.polygons.specs.Polygons.{shape_of}
use Rattle.tables.specs.Tables.{SameOutside}
use Rattle.adjacency.proofs.Chains.{OnChain}
use Rattle.slotsteps.specs.Slots.{Putting}
use Rattle.slots.proofs.put_slots.Given as goal

abbrev pub invariant-loop-g : goal.invariant-loop-g
invariant-loop-g l = OnChain l.faces l.a l.g × Putting (shape_of l.sides) l.nv l.faces l.work l.a l.g l.least × SameOutside (3 * length l.faces) (4 * length l.faces) l.initial.work l.work

abbrev pub decreases-loop-g : goal.decreases-loop-g
decreases-loop-g l = length l.faces - l.g
