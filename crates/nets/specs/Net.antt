-- The tables of a net, and what they say of a vertex.
use Rattle.std.specs.Prelude.{Bool, List, [], ℕ, ◌+◌, ◌*◌, eqb, ℤ, pos, get_or, take}
use Rattle.curve.specs.Curve.{Point}

-- "The vertex table has three numbers per vertex, the face table four vertex numbers (32-bit, from 0) per face, the mark table one byte per vertex (1 corner, 0 not)."
pub record Net : Type 0 where
  pub vertices : List ℤ
  pub faces : List ℕ
  pub marks : List ℕ

abbrev pub net : List ℤ → List ℕ → List ℕ → Net
net vertices faces marks = record { vertices = vertices; faces = faces; marks = marks }

-- the net of v vertices and n corners at the front of the tables
abbrev pub front_net : ℕ → ℕ → List ℤ → List ℕ → List ℕ → Net
front_net v n vertices faces marks = net (take (3 * v) vertices) (take n faces) (take v marks)

-- a net as it is drawn. Paper 02: "A table of side counts comes with the corners"; without one, faces have four sides
pub record ControlNet : Type 0 where
  pub vertices : List ℤ
  pub faces : List ℕ
  pub sides : List ℕ
  pub marks : List ℕ

abbrev pub control_net : (vertices : List ℤ) (faces sides marks : List ℕ) → ControlNet
control_net vertices faces sides marks = record { vertices = vertices; faces = faces; sides = sides; marks = marks }

-- "a call without one": a net without side counts
abbrev pub plain : Net → ControlNet
plain m = control_net m.vertices m.faces [] m.marks

-- its vertices, corners and marks alone
abbrev pub control_tables : ControlNet → Net
control_tables m = net m.vertices m.faces m.marks

-- coordinate a of vertex v of a table
unfoldable pub axis : List ℤ → ℕ → ℕ → ℤ
axis vs a v = get_or vs (3 * v + a) (pos 0)

-- the point of vertex v
unfoldable pub point_of : Net → ℕ → Point
point_of m v = record { x = axis m.vertices 0 v; y = axis m.vertices 1 v; z = axis m.vertices 2 v }

-- "1 corner, 0 not"
unfoldable pub marked : List ℕ → ℕ → Bool
marked marks v = eqb (get_or marks v 0) 1
