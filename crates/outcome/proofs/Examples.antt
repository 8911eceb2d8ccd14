-- The tally and the letter table, computed on a square, a triangle, a cube and no net. Assumes nothing.
use mathlib.Core.Path.{◌≡◌, refl}
use mathlib.Core.Bool.{true, false}
use mathlib.Core.List.{List, [], ◌∷◌, ◌++◌}
use Prim.Native.Nat.{ℕ, zero, suc, ◌+◌, ◌*◌}
use lib.IntN.{ℤ, pos}
use Rattle.lists.specs.Tabulate.{tabulate}
use Rattle.search.specs.Search.{first_from, first, any, count, iterate}
use Rattle.topology.specs.Shape.{quads}
use Rattle.topology.specs.HalfEdge.{from, to, opposed, mate, first_met, edge_count, edge, edge_at}
use Rattle.topology.specs.Quads.{across, beyond}
use Rattle.topology.specs.Boundary.{is_boundary_from, boundary_from}
use Rattle.topology.specs.Vertex.{leaves, valence, turn, start, stops, faces_met}
use Rattle.refusals.specs.Refusals.{bad_mark, bad_corner, isolated, repeated_side, non_manifold, bad_valence, marked_ring}
use Rattle.polygons.specs.Polygons.{side_after, side_before, face_then, no_face, polygons, shape_of}
use Rattle.refinedfaces.specs.Refined.{corner, refined, refined_marks}
use Rattle.nets.specs.Net.{ControlNet, control_net, marked}
use Rattle.tables.specs.Tables.{filled, cleared}
use Rattle.nets.specs.Buffers.{Buffers, buffers, Letters, letter_table}
use Rattle.scheme.specs.Points.{edge_rule, inner, four_inner, face_rule}
use Rattle.scheme.specs.Step.{step, steps}
use Rattle.splitting.specs.Splitting.{split, start_net}
use Rattle.origins.specs.Origins.{new_rule, start_origin, origin_from, origin_after, letters}
use Rattle.verdict.specs.Verdict.{Verdict, accepted, refused, tables_verdict, size_verdict, room_verdict, limits_verdict, bad_coordinate, coordinates_verdict, vertex_verdict, adjacency_verdict, faces_verdict, shape_verdict, net_verdict, verdict}
use Rattle.outcome.specs.Tally.{new_points, tally_verdict}
use Rattle.outcome.specs.Outcome.{refused_with, Request, request, Outcome, outcome_on, request_verdict, outcome}
use Rattle.outcome.specs.Series.{tally_after}

abbrev zeros : ℕ → List ℤ
zeros zero = []
zeros (suc n) = pos 0 ∷ zeros n

abbrev copies : ℕ → ℕ → List ℕ
copies c zero = []
copies c (suc n) = c ∷ copies c n

abbrev square : ControlNet
square = control_net (zeros 12) (0 ∷ 1 ∷ 2 ∷ 3 ∷ []) [] (copies 0 4)

abbrev triangle : ControlNet
triangle = control_net (zeros 9) (0 ∷ 1 ∷ 2 ∷ []) (3 ∷ []) (copies 0 3)

-- a cube with a marked vertex, which 12 refuses
abbrev cube : ControlNet
cube = control_net (zeros 24) (0 ∷ 3 ∷ 2 ∷ 1 ∷ 4 ∷ 5 ∷ 6 ∷ 7 ∷ 0 ∷ 1 ∷ 5 ∷ 4 ∷ 1 ∷ 2 ∷ 6 ∷ 5 ∷ 2 ∷ 3 ∷ 7 ∷ 6 ∷ 3 ∷ 0 ∷ 4 ∷ 7 ∷ []) [] (1 ∷ copies 0 7)

abbrev none : ControlNet
none = control_net [] [] [] []

-- zero rounds add nothing, but for the points of the split
points : new_points 4 0 square ∷ new_points 4 1 square ∷ new_points 4 2 square ∷ new_points 4 0 triangle ∷ new_points 4 1 triangle ∷ new_points 4 6 none ∷ [] ≡ 0 ∷ 5 ∷ 21 ∷ 4 ∷ 16 ∷ 0 ∷ []
unfolding new_points steps step start_net split tabulate first_from first count quads from to opposed mate first_met edge_count edge corner refined refined_marks side_after side_before face_then no_face polygons shape_of
points = refl

-- tables for g refined faces, and two work numbers more
abbrev tables : ℕ → Buffers
tables g = buffers (zeros (12 * g)) (copies 7 (4 * g)) (copies 7 (4 * g)) (copies 7 (16 * g + 2))

-- no letters
abbrev unasked : Letters
unasked = letter_table false []

-- the square refined once: five new points fit or do not, the sum beyond 64 bits too; nothing to add, at the limit and above; 1, 4 and 12 go first, and 16 before 12 and after 4; tension 0 passes
abbrev verdicts : List Verdict
verdicts =
    request_verdict (request 3999999995 1 square 4 (tables 4) unasked)
    ∷ request_verdict (request 3999999996 1 square 4 (tables 4) unasked)
    ∷ request_verdict (request 18446744073709551615 1 square 4 (tables 4) unasked)
    ∷ request_verdict (request 4000000000 0 square 4 (tables 4) unasked)
    ∷ request_verdict (request 4000000001 0 square 4 (tables 4) unasked)
    ∷ request_verdict (request 4000000000 6 none 4 (tables 0) unasked)
    ∷ request_verdict (request 18446744073709551615 0 none 4 (tables 0) unasked)
    ∷ request_verdict (request 18446744073709551615 7 none 4 (tables 0) unasked)
    ∷ request_verdict (request 18446744073709551615 2 square 4 (tables 4) unasked)
    ∷ request_verdict (request 18446744073709551615 0 cube 4 (tables 6) unasked)
    ∷ request_verdict (request 18446744073709551615 0 cube 5 (tables 6) unasked)
    ∷ request_verdict (request 0 2 square 4294967295 (tables 4) unasked)
    ∷ request_verdict (request 0 1 square 0 (tables 4) unasked)
    ∷ []

judged : verdicts ≡ accepted ∷ refused 15 0 ∷ refused 15 0 ∷ accepted ∷ refused 15 0 ∷ accepted ∷ refused 15 0 ∷ refused 1 0 ∷ refused 4 0 ∷ refused 12 0 ∷ refused 16 0 ∷ refused 4 0 ∷ accepted ∷ []
unfolding request_verdict tally_verdict new_points steps step start_net split tabulate first_from first any count iterate quads from to opposed mate first_met edge_count edge corner refined refined_marks shape_of verdict limits_verdict tables_verdict size_verdict room_verdict net_verdict coordinates_verdict shape_verdict faces_verdict adjacency_verdict vertex_verdict bad_coordinate bad_mark bad_corner isolated repeated_side non_manifold bad_valence marked_ring is_boundary_from boundary_from leaves valence turn start stops faces_met
judged = refl

-- the outcome of a call from 3,999,999,996 points with place 0, where all but the work table is as found
abbrev left : (number : ℕ) (work : List ℕ) → Outcome
left r w = outcome_on (refused_with r 0) 3999999996 (tables 4).vertices (tables 4).faces (tables 4).marks [] w

-- on 15 the outputs and the tally are as found, and the first 16G work numbers are zero; on 4 all is as found
fifteen : outcome (request 3999999996 1 square 4 (tables 4) unasked) ≡ left 15 (copies 0 64 ++ copies 7 2)
unfolding outcome request_verdict tally_verdict new_points steps step start_net split tabulate first_from first any count iterate quads from to opposed mate first_met edge_count edge corner refined refined_marks shape_of verdict limits_verdict tables_verdict size_verdict room_verdict net_verdict coordinates_verdict shape_verdict faces_verdict adjacency_verdict vertex_verdict bad_coordinate bad_mark bad_corner isolated repeated_side non_manifold bad_valence marked_ring is_boundary_from boundary_from leaves valence turn start stops faces_met cleared filled
fifteen = refl

four : outcome (request 3999999996 2 square 4 (tables 4) unasked) ≡ left 4 (copies 7 66)
unfolding outcome request_verdict tally_verdict new_points steps step start_net split tabulate first_from first any count iterate quads from to opposed mate first_met edge_count edge corner refined refined_marks shape_of verdict limits_verdict tables_verdict size_verdict room_verdict net_verdict coordinates_verdict shape_verdict faces_verdict adjacency_verdict vertex_verdict bad_coordinate bad_mark bad_corner isolated repeated_side non_manifold bad_valence marked_ring is_boundary_from boundary_from leaves valence turn start stops faces_met cleared filled
four = refl

-- so on 16
sixteen : outcome (request 3999999996 1 square 5 (tables 4) unasked) ≡ left 16 (copies 7 66)
unfolding outcome request_verdict tally_verdict new_points steps step start_net split tabulate first_from first any count iterate quads from to opposed mate first_met edge_count edge corner refined refined_marks shape_of verdict limits_verdict tables_verdict size_verdict room_verdict net_verdict coordinates_verdict shape_verdict faces_verdict adjacency_verdict vertex_verdict bad_coordinate bad_mark bad_corner isolated repeated_side non_manifold bad_valence marked_ring is_boundary_from boundary_from leaves valence turn start stops faces_met cleared filled
sixteen = refl

-- the square twice, then for too many rounds, then once more
abbrev calls : List Request
calls = request 0 1 square 4 (tables 4) unasked ∷ request 0 1 square 4 (tables 4) unasked ∷ request 0 7 square 4 (tables 4) unasked ∷ request 0 1 square 4 (tables 4) unasked ∷ []

series : tally_after 0 calls ∷ tally_after 3999999988 calls ∷ [] ≡ 15 ∷ 3999999998 ∷ []
unfolding tally_after outcome request_verdict tally_verdict new_points steps step start_net split tabulate first_from first any count iterate quads from to opposed mate first_met edge_count edge corner refined refined_marks shape_of verdict limits_verdict tables_verdict size_verdict room_verdict net_verdict coordinates_verdict shape_verdict faces_verdict adjacency_verdict vertex_verdict bad_coordinate bad_mark bad_corner isolated repeated_side non_manifold bad_valence marked_ring is_boundary_from boundary_from leaves valence turn start stops faces_met
series = refl

-- the letter table as the square refined once leaves it: asked for, not asked for, one byte too short, on 15 and on 12; and with no net
abbrev letter_tables : List (List ℕ)
letter_tables =
    (outcome (request 0 1 square 4 (tables 4) (letter_table true (copies 7 18)))).letters
    ∷ (outcome (request 0 1 square 4 (tables 4) (letter_table false (copies 7 18)))).letters
    ∷ (outcome (request 0 1 square 4 (tables 4) (letter_table true (copies 7 15)))).letters
    ∷ (outcome (request 3999999996 1 square 4 (tables 4) (letter_table true (copies 7 16)))).letters
    ∷ (outcome (request 0 0 cube 4 (tables 6) (letter_table true (copies 7 24)))).letters
    ∷ (outcome (request 0 6 none 4 (tables 0) (letter_table true (copies 7 1)))).letters
    ∷ []

letters_left : letter_tables ≡ (86 ∷ 86 ∷ 86 ∷ 86 ∷ 65 ∷ 65 ∷ 65 ∷ 65 ∷ 69 ∷ copies 7 9) ∷ copies 7 18 ∷ copies 7 15 ∷ copies 7 16 ∷ copies 7 24 ∷ copies 7 1 ∷ []
unfolding outcome request_verdict tally_verdict new_points steps step start_net split tabulate first_from first any count iterate quads from to opposed mate first_met edge_count edge edge_at across beyond corner refined refined_marks shape_of marked edge_rule inner four_inner face_rule new_rule start_origin origin_from origin_after letters verdict limits_verdict tables_verdict size_verdict room_verdict net_verdict coordinates_verdict shape_verdict faces_verdict adjacency_verdict vertex_verdict bad_coordinate bad_mark bad_corner isolated repeated_side non_manifold bad_valence marked_ring is_boundary_from boundary_from leaves valence turn start stops faces_met cleared filled
letters_left = refl
