-- Verdicts on more nets, computed. Assumes nothing.
use mathlib.Core.Path.{◌≡◌, refl}
use mathlib.Core.List.{List, [], ◌∷◌}
use Prim.Native.Nat.{ℕ, zero, suc}
use lib.IntN.{ℤ, pos, negsuc}
use Rattle.search.specs.Search.{first_from, first, any, count, iterate}
use Rattle.topology.specs.Shape.{quads}
use Rattle.topology.specs.HalfEdge.{from, to, opposed, mate}
use Rattle.topology.specs.Boundary.{is_boundary_from, boundary_from}
use Rattle.topology.specs.Vertex.{leaves, valence, turn, start, stops, faces_met}
use Rattle.refusals.specs.Refusals.{bad_mark, bad_corner, isolated, repeated_side, non_manifold, bad_valence, marked_ring}
use Rattle.nets.specs.Net.{ControlNet, control_net}
use Rattle.polygons.specs.Polygons.{side_after, side_before, face_then, no_face, polygons, shape_of}
use Rattle.verdict.specs.Verdict.{Verdict, accepted, refused, bad_coordinate, coordinates_verdict, vertex_verdict, adjacency_verdict, faces_verdict, shape_verdict, net_verdict}
use Rattle.cases.specs.Cases.{flat, unmarked}

-- v vertices with first coordinate x, all others 0, in four-sided faces
abbrev net_of : ℤ → ℕ → List ℕ → ControlNet
net_of x v faces = control_net (x ∷ pos 0 ∷ pos 0 ∷ flat v) faces [] (0 ∷ unmarked v)

abbrev square : List ℕ
square = 0 ∷ 1 ∷ 2 ∷ 3 ∷ []

-- seven faces in a fan at vertex 0, and two squares that touch at vertex 16
abbrev fan_and_touching : List ℕ
fan_and_touching =
    0 ∷ 1 ∷ 2 ∷ 3 ∷ 0 ∷ 3 ∷ 4 ∷ 5 ∷ 0 ∷ 5 ∷ 6 ∷ 7 ∷ 0 ∷ 7 ∷ 8 ∷ 9 ∷ 0 ∷ 9 ∷ 10 ∷ 11 ∷ 0 ∷ 11 ∷ 12 ∷ 13 ∷ 0 ∷ 13 ∷ 14 ∷ 15
    ∷ 16 ∷ 17 ∷ 18 ∷ 19 ∷ 16 ∷ 20 ∷ 21 ∷ 22 ∷ []

-- n + 1 faces at vertex 0 from vertex i on, with vertex 1 opposite in each; the last ends at vertex 2
abbrev ring_from : ℕ → ℕ → List ℕ
ring_from zero i = 0 ∷ i ∷ 1 ∷ 2 ∷ []
ring_from (suc n) i = 0 ∷ i ∷ 1 ∷ suc i ∷ ring_from n (suc i)

abbrev computed : List Verdict
computed =
    net_verdict (net_of (negsuc 1048575) 3 square)
    -- a vertex in no face; more vertices than corners; no face
    ∷ net_verdict (net_of (pos 0) 4 square)
    ∷ net_verdict (net_of (pos 0) 8 square)
    ∷ net_verdict (net_of (pos 0) 0 [])
    -- 5 before 9
    ∷ net_verdict (net_of (negsuc 1048576) 3 (0 ∷ 1 ∷ 2 ∷ 3 ∷ 0 ∷ 1 ∷ 2 ∷ 3 ∷ []))
    -- 10 before 11
    ∷ net_verdict (net_of (pos 0) 22 fan_and_touching)
    -- a ring of two is a ring, of too few faces
    ∷ net_verdict (net_of (pos 0) 4 (0 ∷ 1 ∷ 2 ∷ 3 ∷ 0 ∷ 3 ∷ 4 ∷ 1 ∷ []))
    -- a ring of eight passes at vertex 0, and a ring of two gets 11 at vertex 2; a ring of nine gets it at vertex 0
    ∷ net_verdict (net_of (pos 0) 9 (ring_from 7 2))
    ∷ net_verdict (net_of (pos 0) 10 (ring_from 8 2))
    -- mark 1 on a vertex with a full ring: the centre of two by two squares
    ∷ net_verdict (control_net (flat 9) (0 ∷ 1 ∷ 4 ∷ 3 ∷ 1 ∷ 2 ∷ 5 ∷ 4 ∷ 3 ∷ 4 ∷ 7 ∷ 6 ∷ 4 ∷ 5 ∷ 8 ∷ 7 ∷ []) [] (0 ∷ 0 ∷ 0 ∷ 0 ∷ 1 ∷ 0 ∷ 0 ∷ 0 ∷ 0 ∷ []))
    -- faces of other numbers of sides: a tetrahedron; equal corners three apart in an octagon; a side of the first triangle again in the second; a ring of two
    ∷ net_verdict (control_net (flat 4) (0 ∷ 1 ∷ 2 ∷ 0 ∷ 2 ∷ 3 ∷ 0 ∷ 3 ∷ 1 ∷ 1 ∷ 3 ∷ 2 ∷ []) (3 ∷ 3 ∷ 3 ∷ 3 ∷ []) (unmarked 4))
    ∷ net_verdict (control_net (flat 7) (0 ∷ 1 ∷ 2 ∷ 3 ∷ 1 ∷ 4 ∷ 5 ∷ 6 ∷ []) (8 ∷ []) (unmarked 7))
    ∷ net_verdict (control_net (flat 4) (0 ∷ 1 ∷ 2 ∷ 0 ∷ 1 ∷ 3 ∷ []) (3 ∷ 3 ∷ []) (unmarked 4))
    ∷ net_verdict (control_net (flat 3) (0 ∷ 1 ∷ 2 ∷ 0 ∷ 2 ∷ 1 ∷ []) (3 ∷ 3 ∷ []) (unmarked 3))
    ∷ []

nets : computed
    ≡ accepted ∷ refused 8 4 ∷ refused 8 4 ∷ refused 8 0 ∷ refused 5 0 ∷ refused 10 16 ∷ refused 11 0 ∷ refused 11 2 ∷ refused 11 0 ∷ refused 12 4 ∷ accepted ∷ refused 7 0 ∷ refused 9 1 ∷ refused 11 0 ∷ []
unfolding net_verdict coordinates_verdict shape_verdict faces_verdict adjacency_verdict vertex_verdict bad_coordinate bad_mark bad_corner isolated repeated_side non_manifold bad_valence marked_ring side_after side_before face_then no_face polygons shape_of first_from first any count iterate quads from to opposed mate is_boundary_from boundary_from leaves valence turn start stops faces_met
nets = refl
