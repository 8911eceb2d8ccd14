-- A call as the caller makes it.
use Rattle.std.specs.Prelude.{Bool, true, false, List, [], ◌∷◌, ℕ, ◌*◌, ◌/◌, ◌^◌, length}
use Rattle.bounds.specs.Bounds.{max_faces}
use Rattle.nets.specs.Net.{Net, ControlNet}

-- how many numbers the output tables and the work table hold; and whether letters are asked for, and how many bytes their table holds
pub record Room : Type 0 where
  pub vertices : ℕ
  pub faces : ℕ
  pub marks : ℕ
  pub asked : Bool
  pub letters : ℕ
  pub work : ℕ

abbrev pub room : (vertices faces marks : ℕ) (asked : Bool) (letters work : ℕ) → Room
room vertices faces marks asked letters work = record { vertices = vertices; faces = faces; marks = marks; asked = asked; letters = letters; work = work }

-- "outputs of at least 12G coordinates, 4G corners and 4G marks, and a work table of at least 16G 32-bit numbers"; paper 02: "The lent letter table has 4G bytes"
abbrev pub needed : (g : ℕ) → Room
needed g = room (12 * g) (4 * g) (4 * g) true (4 * g) (16 * g)

-- the lengths of all tables of a call but that of the side counts, which is given whole where it matters
pub record Lengths : Type 0 where
  pub coordinates : ℕ
  pub corners : ℕ
  pub marks : ℕ
  pub room : Room

abbrev pub lengths : (coordinates corners marks : ℕ) → Room → Lengths
lengths coordinates corners marks room = record { coordinates = coordinates; corners = corners; marks = marks; room = room }

abbrev pub lengths_of : ControlNet → Room → Lengths
lengths_of m room = lengths (length m.vertices) (length m.faces) (length m.marks) room

pub record Call : Type 0 where
  pub rounds : ℕ
  pub net : ControlNet
  -- Paper 02: "The net record gains a tension t". What does not depend on it, as the net where refining begins, is given the tables alone
  pub tension : ℕ
  pub room : Room

abbrev pub call : ℕ → ControlNet → (tension : ℕ) → Room → Call
call rounds net tension room = record { rounds = rounds; net = net; tension = tension; room = room }

-- Paper 02: "checks each net as a call of zero rounds would"; "no outputs or tally are lent": a net by itself, with outputs as long as 4,096 faces need them, no letters, and a work
-- table of w numbers
abbrev pub alone_room : (w : ℕ) → Room
alone_room w = room (12 * max_faces) (4 * max_faces) (4 * max_faces) false 0 w

abbrev pub alone : ControlNet → (tension w : ℕ) → Call
alone m t w = call 0 m t (alone_room w)

-- "V and F are their counts." Past refusal 2 there is a mark for each vertex, so the marks are counted
abbrev pub vertex_count : Net → ℕ
vertex_count m = length m.marks

abbrev pub face_count : Net → ℕ
face_count m = length m.faces / 4

-- F of a drawn net, from its side counts and the number of its corners. Paper 02: "The limits on F and G count the quadrilaterals after the split", one for each corner
abbrev pub quadrilaterals : (sides : List ℕ) (corners : ℕ) → ℕ
quadrilaterals [] corners = corners / 4
quadrilaterals (c ∷ s) corners = corners

-- "After k rounds there are F × 4^k faces, called G."
abbrev pub final_faces : Call → ℕ
final_faces c = quadrilaterals c.net.sides (length c.net.faces) * 4 ^ c.rounds
