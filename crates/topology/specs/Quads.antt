-- Opposite sides and corners of four-sided faces, and the edges of open fans, in a net with corners l.
use Rattle.std.specs.Prelude.{List, ℕ, zero, suc, eqb}
use Rattle.search.specs.Search.{first}
use Rattle.topology.specs.Shape.{quads}
use Rattle.topology.specs.HalfEdge.{from, to, mate}
use Rattle.topology.specs.Boundary.{boundary_from}
use Rattle.topology.specs.Vertex.{valence, turns}

-- the side opposite h in its face; and "beyond each, the opposite edge of the neighbour"
unfoldable pub across : ℕ → ℕ
across h = quads.next (quads.next h)

unfoldable pub beyond : List ℕ → ℕ → ℕ
beyond l h = across (mate quads l h)

-- the corner of the face of h that lies opposite the vertex of h
unfoldable pub opposite_corner : List ℕ → ℕ → ℕ
opposite_corner l h = to quads l (quads.next h)

-- the far end of edge i of the open fan that starts with the half-edge s: of m faces, edges 0 to m
unfoldable pub fan_end : List ℕ → ℕ → ℕ → ℕ
fan_end l s zero = to quads l s
fan_end l s (suc i) = from l (quads.prev (turns quads l i s))

-- the place of the half-edge h in the fan of the boundary vertex v
unfoldable pub fan_place : List ℕ → ℕ → ℕ → ℕ
fan_place l v h = first (λ (i : ℕ). eqb (turns quads l i (boundary_from quads l v)) h) (valence l v)
