-- What the laws of a round assume of a net, and what it passes on.
use Rattle.std.specs.Prelude.{◌≡◌, ◌*◌, ◌%◌, length}
use Rattle.search.specs.Search.{first}
use Rattle.nets.specs.Net.{Net}
use Rattle.topology.specs.Shape.{quads}
use Rattle.refusals.specs.Refusals.{bad_mark, marked_ring, Unrefused}

-- the tables have the lengths of a net, and refusals 6 to 12 hold nowhere
pub record Refinable (m : Net) : Type 0 where
  pub threes : length m.vertices ≡ 3 * length m.marks
  pub fours : length m.faces % 4 ≡ 0
  pub no6 : first (bad_mark m.marks) (length m.marks) ≡ length m.marks
  pub no7to11 : Unrefused quads (length m.marks) m.faces
  pub no12 : first (marked_ring quads m.faces m.marks) (length m.marks) ≡ length m.marks
