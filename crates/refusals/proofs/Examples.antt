-- Refusals 6 to 12 computed on small nets.
use mathlib.Core.Path.{◌≡◌, refl}
use mathlib.Core.Bool.{cond}
use mathlib.Core.List.{List, [], ◌∷◌, map}
use Prim.Native.Nat.{ℕ}
use lib.ListN.{length}
use Rattle.lists.specs.Tabulate.{tabulate}
use Rattle.search.specs.Search.{first_from, first, count, any, iterate}
use Rattle.topology.specs.Shape.{quads}
use Rattle.topology.specs.HalfEdge.{from, to, opposed, mate}
use Rattle.topology.specs.Boundary.{is_boundary_from, boundary_from}
use Rattle.topology.specs.Vertex.{leaves, valence, turn, start, stops, faces_met}
use Rattle.refusals.proofs.Nets.{square, grid, cube, fan_corner, fan_of, ring_corner, ring_of}
use Rattle.refusals.specs.Refusals.{bad_mark, bad_corner, isolated, repeated_side, non_manifold, bad_valence, marked_ring}

-- a net, and the lowest of 6 to 12 that holds with its place, or nothing
record Case : Type 0 where
  vertices : ℕ
  corners : List ℕ
  marks : List ℕ
  expected : List ℕ

lowest : ℕ → List ℕ → List ℕ → List ℕ
lowest v l marks =
    cond (any (bad_mark marks) v) (6 ∷ first (bad_mark marks) v ∷ [])
    (cond (any (bad_corner quads v l) (length l)) (7 ∷ quads.face (first (bad_corner quads v l) (length l)) ∷ [])
    (cond (any (isolated l) v) (8 ∷ first (isolated l) v ∷ [])
    (cond (any (repeated_side quads l) (length l)) (9 ∷ quads.face (first (repeated_side quads l) (length l)) ∷ [])
    (cond (any (non_manifold quads l) v) (10 ∷ first (non_manifold quads l) v ∷ [])
    (cond (any (bad_valence quads l) v) (11 ∷ first (bad_valence quads l) v ∷ [])
    (cond (any (marked_ring quads l marks) v) (12 ∷ first (marked_ring quads l marks) v ∷ []) []))))))

cases : List Case
cases =
    -- accepted: the empty net, one square with marks, two by two squares, a cube, rings of 3 and 8, a fan of 6
    record { vertices = 0; corners = []; marks = []; expected = [] }
    ∷ record { vertices = 4; corners = square; marks = 1 ∷ 1 ∷ 1 ∷ 1 ∷ []; expected = [] }
    ∷ record { vertices = 9; corners = grid; marks = 1 ∷ 0 ∷ 1 ∷ 0 ∷ 0 ∷ 0 ∷ 1 ∷ 0 ∷ 1 ∷ []; expected = [] }
    ∷ record { vertices = 8; corners = cube; marks = []; expected = [] }
    ∷ record { vertices = 7; corners = ring_of 3; marks = []; expected = [] }
    ∷ record { vertices = 17; corners = ring_of 8; marks = []; expected = [] }
    ∷ record { vertices = 14; corners = fan_of 6; marks = 1 ∷ []; expected = [] }
    -- 6
    ∷ record { vertices = 4; corners = square; marks = 0 ∷ 1 ∷ 2 ∷ 1 ∷ []; expected = 6 ∷ 2 ∷ [] }
    -- 7: a corner not below V; two equal corners
    ∷ record { vertices = 4; corners = 0 ∷ 1 ∷ 2 ∷ 4 ∷ []; marks = []; expected = 7 ∷ 0 ∷ [] }
    ∷ record { vertices = 6; corners = 0 ∷ 1 ∷ 2 ∷ 3 ∷ 4 ∷ 5 ∷ 4 ∷ 1 ∷ []; marks = []; expected = 7 ∷ 1 ∷ [] }
    -- 8: a vertex in no face; more vertices than corners
    ∷ record { vertices = 5; corners = 0 ∷ 1 ∷ 2 ∷ 4 ∷ []; marks = []; expected = 8 ∷ 3 ∷ [] }
    ∷ record { vertices = 5; corners = square; marks = []; expected = 8 ∷ 4 ∷ [] }
    -- 9: one face twice; a face turned against its neighbour; an edge of three faces
    ∷ record { vertices = 4; corners = 0 ∷ 1 ∷ 2 ∷ 3 ∷ 0 ∷ 1 ∷ 2 ∷ 3 ∷ []; marks = []; expected = 9 ∷ 1 ∷ [] }
    ∷ record { vertices = 6; corners = 0 ∷ 1 ∷ 2 ∷ 3 ∷ 1 ∷ 2 ∷ 4 ∷ 5 ∷ []; marks = []; expected = 9 ∷ 1 ∷ [] }
    ∷ record { vertices = 8; corners = 0 ∷ 1 ∷ 2 ∷ 3 ∷ 1 ∷ 0 ∷ 4 ∷ 5 ∷ 0 ∷ 1 ∷ 6 ∷ 7 ∷ []; marks = []; expected = 9 ∷ 2 ∷ [] }
    -- 10: two squares touching at one vertex
    ∷ record { vertices = 7; corners = 0 ∷ 1 ∷ 2 ∷ 3 ∷ 2 ∷ 4 ∷ 5 ∷ 6 ∷ []; marks = []; expected = 10 ∷ 2 ∷ [] }
    -- 11: a ring of two, which is a ring; a ring of 9; a fan of 7
    ∷ record { vertices = 5; corners = ring_of 2; marks = []; expected = 11 ∷ 0 ∷ [] }
    ∷ record { vertices = 19; corners = ring_of 9; marks = []; expected = 11 ∷ 0 ∷ [] }
    ∷ record { vertices = 16; corners = fan_of 7; marks = []; expected = 11 ∷ 0 ∷ [] }
    -- 12: a mark on a vertex of the cube, and on the middle of two by two squares
    ∷ record { vertices = 8; corners = cube; marks = 0 ∷ 0 ∷ 0 ∷ 0 ∷ 0 ∷ 1 ∷ []; expected = 12 ∷ 5 ∷ [] }
    ∷ record { vertices = 9; corners = grid; marks = 1 ∷ 0 ∷ 0 ∷ 0 ∷ 1 ∷ []; expected = 12 ∷ 4 ∷ [] }
    ∷ []

cases_hold : map (λ (c : Case). lowest c.vertices c.corners c.marks) cases ≡ map (λ (c : Case). c.expected) cases
unfolding lowest square fan_corner fan_of ring_corner ring_of grid cube cases tabulate first_from first count any iterate quads from to opposed mate is_boundary_from boundary_from leaves valence turn start stops faces_met bad_mark bad_corner isolated repeated_side non_manifold bad_valence marked_ring
cases_hold = refl
