-- What the laws of the split assume of a control net.
use Rattle.std.specs.Prelude.{◌≡◌, ◌*◌, length}
use Rattle.search.specs.Search.{first}
use Rattle.polygons.specs.Polygons.{shape_of, Sided}
use Rattle.refusals.specs.Refusals.{bad_mark, marked_ring, Unrefused}
use Rattle.nets.specs.Net.{ControlNet}

-- the tables have the lengths of a net, and refusals 6 to 12 hold nowhere in the net as it is drawn
pub record WellFormed (m : ControlNet) : Type 0 where
  pub threes : length m.vertices ≡ 3 * length m.marks
  pub sided : Sided m.sides (length m.faces)
  pub no6 : first (bad_mark m.marks) (length m.marks) ≡ length m.marks
  pub no7to11 : Unrefused (shape_of m.sides) (length m.marks) m.faces
  pub no12 : first (marked_ring (shape_of m.sides) m.faces m.marks) (length m.marks) ≡ length m.marks
