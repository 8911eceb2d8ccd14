-- What comparing two walks step by step finds.
use Rattle.std.specs.Prelude.{◌≡◌, Bool, true, false, not, List, ℕ, zero, suc, ◌+◌, ◌*◌, ◌≤◌, ◌<◌, ℤ, length, get_or}
use Rattle.bounds.specs.Bounds.{max_vertices, max_corners, max_half_edges}
use Rattle.search.specs.Search.{first}
use Rattle.topology.specs.HalfEdge.{from}
use Rattle.polygons.specs.Polygons.{shape_of}
use Rattle.nets.specs.Net.{ControlNet, marked}
use Rattle.boundarywalk.specs.Walkable.{Walkable, StartsAtMark, stepped, edges_to}
use Rattle.seamtest.specs.SeamTest.{same_vertex}

-- vertex u of the tables p and m, and vertex v of the tables q and n, are there
pub record Pair (p : List ℤ) (m : List ℕ) (u : ℕ) (q : List ℤ) (n : List ℕ) (v : ℕ) : Type 0 where
  pub few : u < max_vertices
  pub few' : v < max_vertices
  pub mark : u < length m
  pub mark' : v < length n
  pub point : 3 * u + 2 < length p
  pub point' : 3 * v + 2 < length q

-- the net of the first walk, and the boundary half-edge with which it starts; of the second walk the net's vertices and marks, its first vertex, and the table in which its next
-- vertices stand, from the place `at` on
pub record Walks : Type 0 where
  pub vertices : List ℤ
  pub faces : List ℕ
  pub sides : List ℕ
  pub marks : List ℕ
  pub half : ℕ
  pub vertices' : List ℤ
  pub marks' : List ℕ
  pub start' : ℕ
  pub work : List ℕ
  pub at : ℕ

abbrev pub walks : (a : ControlNet) (half : ℕ) (b : ControlNet) (start' : ℕ) → List ℕ → ℕ → Walks
walks a h b v w at = record { vertices = a.vertices; faces = a.faces; sides = a.sides; marks = a.marks; half = h; vertices' = b.vertices; marks' = b.marks; start' = v; work = w; at = at }

-- the vertex at step i of the first walk, along the boundary, and of the second
unfoldable pub first_at : Walks → ℕ → ℕ
first_at c i = from c.faces (stepped (shape_of c.sides) c.faces false c.half i)

unfoldable pub second_at : Walks → ℕ → ℕ
second_at c zero = c.start'
second_at c (suc i) = get_or c.work (c.at + i) 0

unfoldable pub apart : Walks → ℕ → Bool
apart c i = not (same_vertex c.vertices c.marks (first_at c i) c.vertices' c.marks' (second_at c i))

-- the first step that differs, or one more than the edges up to the next mark of the first walk
unfoldable pub first_apart : Walks → ℕ
first_apart c = first (apart c) (suc (edges_to (shape_of c.sides) c.faces c.marks false c.half))

-- e vertices of the second walk stand in the table, the last of them is marked, and all vertices met are there
pub record Comparable (c : Walks) (e : ℕ) : Type 0 where
  pub first : Walkable c.sides c.faces c.work
  pub starts : StartsAtMark c.sides c.faces c.marks c.half
  pub some : 0 < e
  pub few : e ≤ max_corners
  pub near : c.at ≤ max_half_edges
  pub room : c.at + e ≤ length c.work
  pub pairs : (i : ℕ) → i ≤ e → Pair c.vertices c.marks (first_at c i) c.vertices' c.marks' (second_at c i)
  pub ends : marked c.marks' (second_at c e) ≡ true
