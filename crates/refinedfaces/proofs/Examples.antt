-- Small nets refined by computation.
use mathlib.Core.Path.{◌≡◌, refl}
use mathlib.Core.List.{List, [], ◌∷◌, map}
use Prim.Native.Nat.{ℕ}
use Rattle.lists.specs.Tabulate.{tabulate}
use Rattle.search.specs.Search.{first_from, first, count}
use Rattle.topology.specs.Shape.{quads}
use Rattle.topology.specs.HalfEdge.{from, to, opposed, mate, first_met, edge_count, edge}
use Rattle.refusals.proofs.Nets.{square, grid, cube}
use Rattle.refinedfaces.specs.Refined.{refined_vertices, corner, refined, vertices_after, corners_after}

-- a net; the number of vertices and the corners after a round
record Case : Type 0 where
  vertices : ℕ
  corners : List ℕ
  expected : List ℕ

cases : List Case
cases =
    -- the empty net; one square; two by two squares; a cube
    record { vertices = 0; corners = []; expected = 0 ∷ [] }
    ∷ record { vertices = 4; corners = square; expected = 9 ∷ 0 ∷ 4 ∷ 8 ∷ 7 ∷ 1 ∷ 5 ∷ 8 ∷ 4 ∷ 2 ∷ 6 ∷ 8 ∷ 5 ∷ 3 ∷ 7 ∷ 8 ∷ 6 ∷ [] }
    ∷ record { vertices = 9; corners = grid; expected = 25 ∷ 0 ∷ 9 ∷ 21 ∷ 12 ∷ 1 ∷ 10 ∷ 21 ∷ 9 ∷ 4 ∷ 11 ∷ 21 ∷ 10 ∷ 3 ∷ 12 ∷ 21 ∷ 11 ∷ 1 ∷ 13 ∷ 22 ∷ 10 ∷ 2 ∷ 14 ∷ 22 ∷ 13 ∷ 5 ∷ 15 ∷ 22 ∷ 14 ∷ 4 ∷ 10 ∷ 22 ∷ 15 ∷ 3 ∷ 11 ∷ 23 ∷ 18 ∷ 4 ∷ 16 ∷ 23 ∷ 11 ∷ 7 ∷ 17 ∷ 23 ∷ 16 ∷ 6 ∷ 18 ∷ 23 ∷ 17 ∷ 4 ∷ 15 ∷ 24 ∷ 16 ∷ 5 ∷ 19 ∷ 24 ∷ 15 ∷ 8 ∷ 20 ∷ 24 ∷ 19 ∷ 7 ∷ 16 ∷ 24 ∷ 20 ∷ [] }
    ∷ record { vertices = 8; corners = cube; expected = 26 ∷ 0 ∷ 8 ∷ 20 ∷ 11 ∷ 3 ∷ 9 ∷ 20 ∷ 8 ∷ 2 ∷ 10 ∷ 20 ∷ 9 ∷ 1 ∷ 11 ∷ 20 ∷ 10 ∷ 4 ∷ 12 ∷ 21 ∷ 15 ∷ 5 ∷ 13 ∷ 21 ∷ 12 ∷ 6 ∷ 14 ∷ 21 ∷ 13 ∷ 7 ∷ 15 ∷ 21 ∷ 14 ∷ 0 ∷ 11 ∷ 22 ∷ 17 ∷ 1 ∷ 16 ∷ 22 ∷ 11 ∷ 5 ∷ 12 ∷ 22 ∷ 16 ∷ 4 ∷ 17 ∷ 22 ∷ 12 ∷ 1 ∷ 10 ∷ 23 ∷ 16 ∷ 2 ∷ 18 ∷ 23 ∷ 10 ∷ 6 ∷ 13 ∷ 23 ∷ 18 ∷ 5 ∷ 16 ∷ 23 ∷ 13 ∷ 2 ∷ 9 ∷ 24 ∷ 18 ∷ 3 ∷ 19 ∷ 24 ∷ 9 ∷ 7 ∷ 14 ∷ 24 ∷ 19 ∷ 6 ∷ 18 ∷ 24 ∷ 14 ∷ 3 ∷ 8 ∷ 25 ∷ 19 ∷ 0 ∷ 17 ∷ 25 ∷ 8 ∷ 4 ∷ 15 ∷ 25 ∷ 17 ∷ 7 ∷ 19 ∷ 25 ∷ 15 ∷ [] }
    ∷ []

cases_hold : map (λ (c : Case). refined_vertices quads c.vertices c.corners ∷ refined quads c.vertices c.corners) cases ≡ map (λ (c : Case). c.expected) cases
unfolding cases square grid cube tabulate first_from first count quads from to opposed mate first_met edge_count edge corner refined
cases_hold = refl

-- a square after three rounds: nine by nine vertices
square_after : vertices_after 3 4 square ≡ 81
unfolding square tabulate first_from first count quads from to opposed mate first_met edge_count edge corner refined vertices_after corners_after
square_after = refl
