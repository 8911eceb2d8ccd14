-- The seam test, computed on squares, strips, a triangle and a pentagon: answer, edges, and what is left of a work table full of sevens. Assumes nothing.
use mathlib.Core.Path.{◌≡◌, refl}
use mathlib.Core.List.{List, [], ◌∷◌, ◌++◌}
use Prim.Native.Nat.{ℕ, zero, suc, ◌-◌}
use lib.IntN.{ℤ, pos, negsuc}
use Rattle.search.specs.Search.{first_from, first, any, count, iterate}
use Rattle.topology.specs.Shape.{quads}
use Rattle.topology.specs.HalfEdge.{from, to, opposed, mate}
use Rattle.topology.specs.Boundary.{is_boundary_from, boundary_from, is_boundary_into, boundary_into}
use Rattle.topology.specs.Vertex.{leaves, valence, turn, start, stops, faces_met}
use Rattle.refusals.specs.Refusals.{bad_mark, bad_corner, isolated, repeated_side, non_manifold, bad_valence, marked_ring}
use Rattle.polygons.specs.Polygons.{side_after, side_before, face_then, no_face, polygons, shape_of, total, bad_count, bad_sides}
use Rattle.tables.specs.Tables.{cleared}
use Rattle.nets.specs.Net.{control_net, axis, marked}
use Rattle.verdict.specs.Verdict.{Verdict, accepted, refused, tables_verdict, size_verdict, room_verdict, limits_verdict, bad_coordinate, coordinates_verdict, vertex_verdict, adjacency_verdict, faces_verdict, shape_verdict, net_verdict, verdict}
use Rattle.seam.specs.Reading.{next_vertex, vertex_at}
use Rattle.seamtest.specs.SeamTest.{SeamSide, seam_side, step_at, edges_from, bad_start, unlike, same_axis, same_vertex, differs, seam_verdict, seam_edges, seam_work, SeamTested, seam_tested_as, seam_tested}

-- ---- points: p, q and r make the segment, s lies off it
abbrev point : (x y z : ℤ) → List ℤ
point x y z = x ∷ y ∷ z ∷ []

abbrev p : List ℤ
p = point (pos 0) (pos 0) (pos 0)

abbrev q : List ℤ
q = point (pos 10) (pos 0) (pos 1)

abbrev r : List ℤ
r = point (pos 20) (negsuc 4) (pos 2)

abbrev s : List ℤ
s = point (pos 10) (pos 10) (pos 0)

abbrev beyond : List ℤ
beyond = point (pos 10) (pos 0) (pos 1048577)

-- ---- nets whose sides run p, q, r, and, for the second net, r, q, p; at tension 4 and from vertex 0
abbrev side : List ℤ → (faces sides marks : List ℕ) → SeamSide
side vertices faces sides marks = seam_side (control_net vertices faces sides marks) 4 0

abbrev square : List ℤ → (marks : List ℕ) → SeamSide
square vertices marks = side vertices (0 ∷ 1 ∷ 2 ∷ 3 ∷ []) [] marks

abbrev ends : List ℕ
ends = 1 ∷ 0 ∷ 1 ∷ 0 ∷ []

abbrev first_square : SeamSide
first_square = square (p ++ q ++ r ++ s) ends

abbrev second_square : SeamSide
second_square = square (p ++ s ++ r ++ q) ends

-- strips of two faces, and of four in two rows
abbrev first_strip : SeamSide
first_strip = side (p ++ q ++ r ++ s ++ s ++ s) (0 ∷ 1 ∷ 4 ∷ 3 ∷ 1 ∷ 2 ∷ 5 ∷ 4 ∷ []) [] (1 ∷ 0 ∷ 1 ∷ 0 ∷ 0 ∷ 0 ∷ [])

abbrev second_strip : SeamSide
second_strip = side (p ++ q ++ r ++ s ++ s ++ s) (1 ∷ 0 ∷ 3 ∷ 4 ∷ 2 ∷ 1 ∷ 4 ∷ 5 ∷ []) [] (1 ∷ 0 ∷ 1 ∷ 0 ∷ 0 ∷ 0 ∷ [])

abbrev deep_strip : SeamSide
deep_strip =
    side (p ++ q ++ r ++ s ++ s ++ s ++ s ++ s ++ s) (1 ∷ 0 ∷ 3 ∷ 4 ∷ 2 ∷ 1 ∷ 4 ∷ 5 ∷ 4 ∷ 3 ∷ 6 ∷ 7 ∷ 5 ∷ 4 ∷ 7 ∷ 8 ∷ []) [] (1 ∷ 0 ∷ 1 ∷ 0 ∷ 0 ∷ 0 ∷ 0 ∷ 0 ∷ 0 ∷ [])

-- with side counts
abbrev triangle : SeamSide
triangle = side (p ++ q ++ r) (0 ∷ 1 ∷ 2 ∷ []) (3 ∷ []) (1 ∷ 0 ∷ 1 ∷ [])

abbrev pentagon : SeamSide
pentagon = side (p ++ s ++ s ++ r ++ q) (0 ∷ 1 ∷ 2 ∷ 3 ∷ 4 ∷ []) (5 ∷ []) (1 ∷ 0 ∷ 0 ∷ 1 ∷ 0 ∷ [])

-- refused with 9 for its second face, and with 2
abbrev twice : SeamSide
twice = side (p ++ q ++ r ++ s) (0 ∷ 1 ∷ 2 ∷ 3 ∷ 0 ∷ 1 ∷ 2 ∷ 3 ∷ []) [] ends

abbrev few_marks : SeamSide
few_marks = square (p ++ q ++ r ++ s) (1 ∷ 0 ∷ 1 ∷ [])

-- the same net at another tension, or read from another vertex
abbrev at_tension : ℕ → SeamSide → SeamSide
at_tension t a = seam_side a.net t a.start

abbrev from_vertex : ℕ → SeamSide → SeamSide
from_vertex v a = seam_side a.net a.tension v

-- ---- the table
abbrev copies : ℕ → ℕ → List ℕ
copies c zero = []
copies c (suc n) = c ∷ copies c n

record Row : Type 0 where
  computed : SeamTested
  stated : SeamTested

-- with n work numbers the test gives this verdict and so many edges, and leaves the first c work numbers zero and the others as found
abbrev row : SeamSide → SeamSide → (n : ℕ) → Verdict → (edges c : ℕ) → Row
row a b n v e c = record { computed = seam_tested a b (copies 7 n); stated = seam_tested_as v e (copies 0 c ++ copies 7 (n - c)) }

abbrev computed : List Row → List SeamTested
computed [] = []
computed (x ∷ l) = x.computed ∷ computed l

abbrev stated : List Row → List SeamTested
stated [] = []
stated (x ∷ l) = x.stated ∷ stated l

abbrev tests : List Row
tests =
    -- yes: strips of different depth, the first net the larger, squares, squares from their other marks, at tension 0, of one edge, with one mark each, and with side counts
    row first_strip deep_strip 66 accepted 2 64
    ∷ row first_strip second_square 34 accepted 2 32
    ∷ row first_square second_square 18 accepted 2 16
    ∷ row (from_vertex 2 first_square) (from_vertex 2 second_square) 18 accepted 2 16
    ∷ row (at_tension 0 first_square) (at_tension 0 second_square) 18 accepted 2 16
    ∷ row (square (p ++ q ++ r ++ s) (1 ∷ 1 ∷ 0 ∷ 0 ∷ [])) (square (p ++ s ++ r ++ q) (1 ∷ 0 ∷ 0 ∷ 1 ∷ [])) 18 accepted 1 16
    ∷ row (square (p ++ q ++ r ++ s) (1 ∷ 0 ∷ 0 ∷ 0 ∷ [])) (square (p ++ s ++ r ++ q) (1 ∷ 0 ∷ 0 ∷ 0 ∷ [])) 18 accepted 4 16
    ∷ row triangle pentagon 82 accepted 2 80
    -- 18: a point differs, at the first step in x, inside in y, at the last in z
    ∷ row first_square (square (point (pos 1) (pos 0) (pos 0) ++ s ++ r ++ q) ends) 18 (refused 18 0) 0 16
    ∷ row first_square (square (p ++ s ++ r ++ point (pos 10) (negsuc 0) (pos 1)) ends) 18 (refused 18 1) 0 16
    ∷ row first_square (square (p ++ s ++ point (pos 20) (negsuc 4) (negsuc 1) ++ q) ends) 18 (refused 18 2) 0 16
    -- a mark of the second net is missing, and then too early; so of the first
    ∷ row first_square (square (p ++ s ++ r ++ q) (1 ∷ 1 ∷ 0 ∷ 0 ∷ [])) 18 (refused 18 2) 0 16
    ∷ row first_square (square (p ++ s ++ r ++ q) (1 ∷ 0 ∷ 1 ∷ 1 ∷ [])) 18 (refused 18 1) 0 16
    ∷ row (square (p ++ q ++ r ++ s) (1 ∷ 0 ∷ 0 ∷ 1 ∷ [])) second_square 18 (refused 18 2) 0 16
    ∷ row (square (p ++ q ++ r ++ s) (1 ∷ 1 ∷ 1 ∷ 0 ∷ [])) second_square 18 (refused 18 1) 0 16
    -- tensions differ, a point inside too; only the first net, or only the second, has side counts
    ∷ row first_square (at_tension 3 second_square) 18 (refused 18 0) 0 16
    ∷ row first_square (at_tension 3 (square (p ++ s ++ r ++ s) ends)) 18 (refused 18 0) 0 16
    ∷ row triangle second_square 50 (refused 18 0) 0 48
    ∷ row first_square pentagon 82 (refused 18 0) 0 80
    -- 17: a net without vertices, an unmarked start, or none of the four vertices; before 18
    ∷ row (side [] [] [] []) (side [] [] [] []) 2 (refused 17 1) 0 0
    ∷ row first_square (side [] [] [] []) 18 (refused 17 2) 0 16
    ∷ row (from_vertex 1 first_square) second_square 18 (refused 17 1) 0 16
    ∷ row first_square (from_vertex 1 second_square) 18 (refused 17 2) 0 16
    ∷ row (from_vertex 1 first_square) (from_vertex 1 second_square) 18 (refused 17 1) 0 16
    ∷ row (from_vertex 4 first_square) second_square 18 (refused 17 1) 0 16
    ∷ row first_square (from_vertex 4294967295 second_square) 18 (refused 17 2) 0 16
    ∷ row (at_tension 3 first_square) (from_vertex 3 second_square) 18 (refused 17 2) 0 16
    -- the first net is refused: only its own work numbers are cleared, and none if the call is refused
    ∷ row (square (p ++ beyond ++ r ++ s) ends) second_strip 34 (refused 5 1) 0 16
    ∷ row few_marks second_strip 34 (refused 2 0) 0 0
    ∷ row (side (p ++ q ++ r) (0 ∷ 1 ∷ 2 ∷ []) (2 ∷ []) (1 ∷ 0 ∷ 1 ∷ [])) pentagon 82 (refused 14 0) 0 0
    ∷ row (at_tension 5 first_square) second_square 18 (refused 16 0) 0 0
    ∷ row first_strip second_square 31 (refused 4 0) 0 0
    -- the second net is refused: those of both are cleared, and those of the first if the call is refused; before 17
    ∷ row first_square twice 34 (refused 9 1) 0 32
    ∷ row first_strip (square (p ++ s ++ r ++ beyond) ends) 34 (refused 5 3) 0 32
    ∷ row (from_vertex 1 first_square) few_marks 18 (refused 2 0) 0 16
    ∷ row first_square (at_tension 5 second_square) 18 (refused 16 0) 0 16
    ∷ row first_square second_strip 31 (refused 4 0) 0 16
    -- both are refused: the first has a higher number
    ∷ row twice few_marks 34 (refused 9 1) 0 32
    ∷ []

tested : computed tests ≡ stated tests
unfolding verdict limits_verdict tables_verdict size_verdict room_verdict net_verdict coordinates_verdict bad_coordinate shape_verdict faces_verdict adjacency_verdict vertex_verdict bad_mark bad_corner isolated repeated_side non_manifold bad_valence marked_ring first_from first any count iterate from to opposed mate is_boundary_from boundary_from is_boundary_into boundary_into leaves valence turn start stops faces_met side_after side_before face_then no_face polygons shape_of total bad_count bad_sides quads next_vertex vertex_at axis marked cleared step_at edges_from bad_start unlike same_axis same_vertex differs seam_verdict seam_edges seam_work seam_tested
tested = refl
