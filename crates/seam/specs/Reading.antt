-- Boundary segments read from a net. Paper 01: "A stretch is read from a net's faces, marks and points as a list of points." Its "round" is Closed here.
use Rattle.std.specs.Prelude.{◌≡◌, true, false, List, ℕ, suc, ◌<◌, length}
use Rattle.lists.specs.Tabulate.{tabulate}
use Rattle.search.specs.Search.{iterate}
use Rattle.nets.specs.Net.{Net, point_of, marked}
use Rattle.curve.specs.Curve.{Kind, Open, Closed, Point}
use Rattle.topology.specs.Shape.{Shape, quads}
use Rattle.topology.specs.HalfEdge.{from, to}
use Rattle.topology.specs.Boundary.{boundary_from, boundary_into, Way, with_sides, against_sides}

-- the vertex after v along the boundary of the faces l of shape S: "each boundary vertex ends one boundary edge and starts one, the way the sides run";
-- "Either may be read with the sides or against them."
unfoldable pub next_vertex : Shape → List ℕ → Way → ℕ → ℕ
next_vertex S l with_sides v = to S l (boundary_from S l v)
next_vertex S l against_sides v = from l (boundary_into S l v)

-- the vertex i boundary edges on from u
unfoldable pub vertex_at : Shape → List ℕ → Way → ℕ → ℕ → ℕ
vertex_at S l way u i = iterate (next_vertex S l way) i u

-- the points of n vertices in a row, from u on
unfoldable pub points : Shape → Net → Way → ℕ → ℕ → List Point
points S m way u n = tabulate n (λ (i : ℕ). point_of m (vertex_at S m.faces way u i))

-- "Open: from a marked vertex along boundary edges to the next mark on its loop, both ends included (with one mark, the same vertex again)."
pub record OpenReading (S : Shape) (m : Net) (way : Way) (u : ℕ) (L : List Point) : Type 0 where
  -- u is on the boundary, and marked
  pub boundary : boundary_from S m.faces u < length m.faces
  pub starts : marked m.marks u ≡ true
  -- so many edges on, one or more, is the next mark
  pub edges : ℕ
  pub some : 0 < edges
  pub between : (i : ℕ) → 0 < i → i < edges → marked m.marks (vertex_at S m.faces way u i) ≡ false
  pub ends : marked m.marks (vertex_at S m.faces way u edges) ≡ true
  pub list : L ≡ points S m way u (suc edges)

-- "Round: on a loop without marks, once round from any vertex, the first not repeated."
pub record ClosedReading (S : Shape) (m : Net) (way : Way) (u : ℕ) (L : List Point) : Type 0 where
  -- u is on the boundary, and no vertex met from there is marked
  pub boundary : boundary_from S m.faces u < length m.faces
  pub unmarked : (i : ℕ) → marked m.marks (vertex_at S m.faces way u i) ≡ false
  -- so many edges on, one or more, one is back at u for the first time
  pub edges : ℕ
  pub some : 0 < edges
  pub once : (i : ℕ) → 0 < i → i < edges → vertex_at S m.faces way u i ≡ u → ⊥
  pub returns : vertex_at S m.faces way u edges ≡ u
  pub list : L ≡ points S m way u edges

-- reading a net of shape S from u, this way, gives the list L
abbrev pub ReadsIn : Shape → Net → Way → Kind → ℕ → List Point → Type 0
ReadsIn S m way Open u L = OpenReading S m way u L
ReadsIn S m way Closed u L = ClosedReading S m way u L

-- so in a net of four-sided faces
abbrev pub Reads : Net → Way → Kind → ℕ → List Point → Type 0
Reads = ReadsIn quads
