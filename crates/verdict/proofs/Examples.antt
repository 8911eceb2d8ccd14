-- Verdicts, computed: limits, and what tells the order of refusals. Assumes nothing. `cases` has more nets.
use mathlib.Core.Path.{◌≡◌, refl}
use mathlib.Core.Bool.{Bool, true, false}
use mathlib.Core.List.{List, [], ◌∷◌}
use Prim.Native.Nat.{ℕ, zero, suc}
use lib.IntN.{ℤ, pos}
use Rattle.search.specs.Search.{first_from, first, any, count, iterate}
use Rattle.topology.specs.Shape.{quads}
use Rattle.topology.specs.HalfEdge.{from, to, opposed, mate}
use Rattle.topology.specs.Boundary.{is_boundary_from, boundary_from}
use Rattle.topology.specs.Vertex.{leaves, valence, turn, start, stops, faces_met}
use Rattle.refusals.specs.Refusals.{bad_mark, bad_corner, isolated, repeated_side, non_manifold, bad_valence, marked_ring}
use Rattle.nets.specs.Net.{ControlNet, control_net}
use Rattle.polygons.specs.Polygons.{shape_of, total, bad_count, bad_sides}
use Rattle.verdict.specs.Call.{Room, room, lengths, call, alone}
use Rattle.verdict.specs.Verdict.{Verdict, accepted, refused, tables_verdict, size_verdict, room_verdict, limits_verdict, bad_coordinate, coordinates_verdict, vertex_verdict, adjacency_verdict, faces_verdict, shape_verdict, net_verdict, verdict, work_after}

abbrev ample : Room
ample = room 4000000 4000000 4000000 false 0 5000000

-- 64 faces at 6 rounds pass 3, 65 do not
sixty_four : limits_verdict 6 [] (lengths 300 256 100 ample) ≡ accepted
unfolding limits_verdict tables_verdict size_verdict room_verdict
sixty_four = refl

sixty_five : limits_verdict 6 [] (lengths 300 260 100 ample) ≡ refused 3 0
unfolding limits_verdict tables_verdict size_verdict room_verdict
sixty_five = refl

-- the first that holds is given
rounds_first : limits_verdict 7 [] (lengths 301 257 5 (room 0 0 0 true 0 0)) ≡ refused 1 0
unfolding limits_verdict tables_verdict size_verdict room_verdict
rounds_first = refl

-- 14: before the marks, after rounds and the vertex table; "The limits on F and G count the quadrilaterals after the split"
abbrev sided : List Verdict
sided =
    limits_verdict 0 (9 ∷ []) (lengths 27 9 9 ample)
    ∷ limits_verdict 0 (2 ∷ 3 ∷ []) (lengths 15 5 5 ample)
    ∷ limits_verdict 0 (3 ∷ 5 ∷ []) (lengths 15 9 5 ample)
    ∷ limits_verdict 0 (3 ∷ 5 ∷ []) (lengths 15 7 4 ample)
    ∷ limits_verdict 7 (9 ∷ []) (lengths 27 9 9 ample)
    ∷ limits_verdict 0 (9 ∷ []) (lengths 28 9 9 ample)
    ∷ limits_verdict 0 (3 ∷ 5 ∷ []) (lengths 15 8 4 ample)
    ∷ limits_verdict 6 (8 ∷ 8 ∷ 8 ∷ 8 ∷ 8 ∷ 8 ∷ 8 ∷ 8 ∷ []) (lengths 300 64 100 ample)
    ∷ limits_verdict 6 (8 ∷ 8 ∷ 8 ∷ 8 ∷ 8 ∷ 8 ∷ 8 ∷ 5 ∷ 4 ∷ []) (lengths 300 65 100 ample)
    ∷ limits_verdict 0 (3 ∷ []) (lengths 9 3 3 (room 36 12 12 false 0 47))
    ∷ []

sides : sided ≡ refused 14 0 ∷ refused 14 0 ∷ refused 14 0 ∷ refused 14 0 ∷ refused 1 0 ∷ refused 2 0 ∷ refused 2 0 ∷ accepted ∷ refused 3 0 ∷ refused 4 0 ∷ []
unfolding limits_verdict tables_verdict size_verdict room_verdict bad_sides bad_count total first_from first any
sides = refl

-- a square, refined once: letters that are asked for need 4G bytes, and those that are not need none
abbrev lettered : Bool → ℕ → Verdict
lettered asked letters = limits_verdict 1 [] (lengths 12 4 4 (room 48 16 16 asked letters 64))

letters : lettered true 16 ∷ lettered true 15 ∷ lettered true 0 ∷ lettered false 15 ∷ lettered false 0 ∷ [] ≡ accepted ∷ refused 4 0 ∷ refused 4 0 ∷ accepted ∷ accepted ∷ []
unfolding limits_verdict tables_verdict size_verdict room_verdict
letters = refl

-- an empty net needs no room, with letters asked for too
empty : limits_verdict 6 [] (lengths 0 0 0 (room 0 0 0 true 0 0)) ≡ accepted
unfolding limits_verdict tables_verdict size_verdict room_verdict
empty = refl

-- ---- nets: coordinates are 0 but for the first
abbrev flat : ℕ → List ℤ
flat zero = []
flat (suc v) = pos 0 ∷ pos 0 ∷ pos 0 ∷ flat v

abbrev unmarked : ℕ → List ℕ
unmarked zero = []
unmarked (suc v) = 0 ∷ unmarked v

abbrev net_of : ℤ → ℕ → List ℕ → ControlNet
net_of x v faces = control_net (x ∷ pos 0 ∷ pos 0 ∷ flat v) faces [] (0 ∷ unmarked v)

abbrev square : List ℕ
square = 0 ∷ 1 ∷ 2 ∷ 3 ∷ []

-- "coordinate 1,048,576 passes; 1,048,577 gives 5"; 10 for all vertices comes before 11 for any: a ring of two at vertex 0, and a square that touches it at vertex 2
nets : net_verdict (net_of (pos 1048576) 3 square) ∷ net_verdict (net_of (pos 1048577) 3 square) ∷ net_verdict (net_of (pos 0) 7 (0 ∷ 1 ∷ 2 ∷ 3 ∷ 0 ∷ 3 ∷ 4 ∷ 1 ∷ 2 ∷ 5 ∷ 6 ∷ 7 ∷ [])) ∷ []
    ≡ accepted ∷ refused 5 0 ∷ refused 10 2 ∷ []
unfolding net_verdict coordinates_verdict shape_verdict faces_verdict adjacency_verdict vertex_verdict bad_coordinate bad_mark bad_corner isolated repeated_side non_manifold bad_valence marked_ring shape_of first_from first any count iterate quads from to opposed mate is_boundary_from boundary_from leaves valence turn start stops faces_met
nets = refl

-- ---- 16 of paper 02: a tension of 4 passes, 5 does not; 1, 2, 14 and 4 come before it, 5 and 9 after it
abbrev tensions : List Verdict
tensions =
    verdict (call 1 (net_of (pos 0) 3 square) 4 ample)
    ∷ verdict (call 1 (net_of (pos 0) 3 square) 5 ample)
    ∷ verdict (call 1 (net_of (pos 0) 3 square) 4294967295 ample)
    ∷ verdict (call 7 (net_of (pos 0) 3 square) 5 ample)
    ∷ verdict (call 1 (net_of (pos 0) 3 (0 ∷ 1 ∷ [])) 5 ample)
    ∷ verdict (call 1 (control_net (flat 4) square (5 ∷ []) (unmarked 4)) 5 ample)
    ∷ verdict (call 1 (net_of (pos 0) 3 square) 5 (room 48 16 16 false 0 63))
    ∷ verdict (call 1 (net_of (pos 1048577) 3 square) 5 ample)
    ∷ verdict (call 1 (net_of (pos 0) 3 (0 ∷ 1 ∷ 2 ∷ 3 ∷ 0 ∷ 1 ∷ 2 ∷ 3 ∷ [])) 5 ample)
    ∷ []

tension : tensions ≡ accepted ∷ refused 16 0 ∷ refused 16 0 ∷ refused 1 0 ∷ refused 2 0 ∷ refused 14 0 ∷ refused 4 0 ∷ refused 16 0 ∷ refused 16 0 ∷ []
unfolding verdict limits_verdict tables_verdict size_verdict room_verdict bad_sides bad_count total net_verdict coordinates_verdict shape_verdict faces_verdict adjacency_verdict vertex_verdict bad_coordinate bad_mark bad_corner isolated repeated_side non_manifold bad_valence marked_ring shape_of first_from first any count iterate quads from to opposed mate is_boundary_from boundary_from leaves valence turn start stops faces_met
tension = refl

-- "nothing touched"
untouched : work_after (call 0 (net_of (pos 0) 3 square) 5 (room 12 4 4 false 0 16)) (7 ∷ 7 ∷ 7 ∷ []) ≡ 7 ∷ 7 ∷ 7 ∷ []
unfolding limits_verdict tables_verdict size_verdict room_verdict
untouched = refl

-- a net by itself: a square needs a work table of 16 numbers
by_itself : verdict (alone (net_of (pos 0) 3 square) 4 15) ∷ verdict (alone (net_of (pos 0) 3 square) 4 16) ∷ [] ≡ refused 4 0 ∷ accepted ∷ []
unfolding verdict limits_verdict tables_verdict size_verdict room_verdict net_verdict coordinates_verdict shape_verdict faces_verdict adjacency_verdict vertex_verdict bad_coordinate bad_mark bad_corner isolated repeated_side non_manifold bad_valence marked_ring shape_of first_from first any count iterate quads from to opposed mate is_boundary_from boundary_from leaves valence turn start stops faces_met
by_itself = refl
