-- Which vertices are ordinary, by the sizes of their rings: a table w has the ring size of vertex p of the net where refining begins, in 16 bits, at the place at + p.
-- Vertices that rounds made are ordinary.
use Rattle.std.specs.Prelude.{◌≡◌, Bool, true, false, cond, List, ℕ, ◌+◌, ◌*◌, ◌%◌, ◌≤◌, ◌<◌, ltb, eqb, length, get_or}
use Rattle.search.specs.Search.{count}
use Rattle.topology.specs.Shape.{quads}
use Rattle.topology.specs.HalfEdge.{mate}
use Rattle.topology.specs.Boundary.{is_boundary_from, boundary_from}
use Rattle.topology.specs.Vertex.{leaves, valence}
use Rattle.topology.specs.Manifold.{Manifold}
use Rattle.halfedges.specs.Tables.{Connectivity}
use Rattle.schemelaws.specs.Ordinary.{Ordinary}

-- how many faces the ring of p has. "For a boundary vertex P with end neighbours b and c, n = m + 2"
unfoldable pub ring_size : List ℕ → ℕ → ℕ
ring_size l p = valence l p + cond (ltb (boundary_from quads l p) (length l)) 2 0

pub record RingSizes (v at : ℕ) (l w : List ℕ) : Type 0 where
  pub sizes : (p : ℕ) → p < v → get_or w (at + p) 0 ≡ ring_size l p

-- the 16-bit number at a place of a table, the low bits of what stands there
abbrev pub size_at : List ℕ → ℕ → ℕ
size_at w i = get_or w i 0 % 65536

-- whether the table says that p is ordinary, where refining begins with `initial` vertices
unfoldable pub ordinary_by : List ℕ → ℕ → ℕ → ℕ → Bool
ordinary_by w at initial p = cond (ltb p initial) (eqb (size_at w (at + p)) 4) true

-- of the v vertices of the net with corners l, those that the table says to be ordinary are, and the others are not
pub record Classes (v at initial : ℕ) (l w : List ℕ) : Type 0 where
  pub fewer : initial ≤ v
  pub room : at + initial ≤ length w
  pub ordinary : (p : ℕ) → p < v → ordinary_by w at initial p ≡ true → Ordinary l p
  pub irregular : (p : ℕ) → p < v → ordinary_by w at initial p ≡ false → Ordinary l p → ⊥

-- ---- counting
-- corners l of a manifold net of v vertices, and a table w with their mates in front and room for v numbers from `at` on
pub record Countable (v at : ℕ) (l w : List ℕ) : Type 0 where
  pub net : Manifold quads v l
  pub table : Connectivity l w
  pub behind : length l ≤ at
  pub room : at + v ≤ length w

-- what half-edge h counts for the vertex that it leaves: 1, and 2 more on the boundary
unfoldable pub share_of : List ℕ → ℕ → ℕ
share_of l h = cond (ltb (mate quads l h) (length l)) 1 3

-- of the half-edges below h, how many leave each vertex, those on the boundary three times
pub record CountedBelow (v at : ℕ) (l w : List ℕ) (h : ℕ) : Type 0 where
  pub sizes : (p : ℕ) → p < v → get_or w (at + p) 0 ≡ count (leaves l p) h + 2 * count (is_boundary_from quads l p) h
