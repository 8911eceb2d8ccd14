-- `take_slots` meets its contract: the half-edges before those below g that leave a have their mates. Assumes nothing.
use Prim.Native.Nat.{◌-◌}
use mathlib.Core.Path.{◌≡◌}
use lib.ListN.{length, drop}
use Rattle.polygons.specs.Polygons.{shape_of}
use Rattle.adjacency.proofs.Chains.{OnChain}
use Rattle.slotsteps.specs.Slots.{Taking}
use Rattle.slots.proofs.take_slots.Given as goal

abbrev pub invariant-loop-g : goal.invariant-loop-g
invariant-loop-g l = OnChain l.faces l.a l.g × Taking (shape_of l.sides) l.faces l.work l.a l.g × (drop (length l.faces) l.work ≡ drop (length l.faces) l.initial.work)

abbrev pub decreases-loop-g : goal.decreases-loop-g
decreases-loop-g l = length l.faces - l.g
