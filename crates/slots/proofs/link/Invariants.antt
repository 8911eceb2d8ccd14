-- `link` meets its contract: the half-edges that leave vertices below a are put, those that enter them have their mates. Assumes nothing.
use Prim.Native.Nat.{◌*◌}
use mathlib.Core.Path.{◌≡◌}
use lib.ListN.{length, drop}
use Rattle.polygons.specs.Polygons.{shape_of}
use Rattle.slotsteps.specs.Slots.{SlotTables, Slots, Least, Taking}
use Rattle.slots.proofs.link.Given as goal

abbrev pub invariant-loop-a : goal.invariant-loop-a
invariant-loop-a l = record {
  tables : SlotTables l.nv l.sides l.faces l.work;
  slots : Slots (shape_of l.sides) l.nv l.faces l.work;
  least : Least (shape_of l.sides) l.faces l.a 0 l.bad;
  taking : Taking (shape_of l.sides) l.faces l.work l.a 0;
  rest : drop (4 * length l.faces) l.work ≡ drop (4 * length l.faces) l.initial.work;
}
