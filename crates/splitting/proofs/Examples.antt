-- The split, computed: a triangle, a square and a pentagon. Assumes nothing.
use mathlib.Core.Path.{◌≡◌, refl}
use mathlib.Core.List.{List, [], ◌∷◌}
use lib.IntN.{ℤ, pos, negsuc}
use Rattle.lists.specs.Tabulate.{tabulate}
use Rattle.search.specs.Search.{first_from, first, count, iterate}
use Rattle.rounding.specs.Rounding.{round}
use Rattle.fractions.specs.Fraction.{sumᶠ}
use Rattle.rules.specs.Rules.{midpoint}
use Rattle.topology.specs.HalfEdge.{from, to, opposed, mate, first_met, edge_count, edge, edge_at}
use Rattle.polygons.specs.Polygons.{side_after, side_before, face_then, no_face, polygons, shape_of}
use Rattle.refinedfaces.specs.Refined.{corner, refined, refined_marks}
use Rattle.nets.specs.Net.{Net, net, ControlNet, control_net, axis}
use Rattle.splitting.specs.Splitting.{side_midpoint, corner_mean, first_side, split_value, split_coordinate, split, start_net}

abbrev plane : ℤ → ℤ → List ℤ → List ℤ
plane x y l = x ∷ y ∷ pos 0 ∷ l

abbrev heights : List ℤ → List ℤ
heights [] = []
heights (z ∷ l) = pos 0 ∷ pos 0 ∷ z ∷ heights l

abbrev triangle : ControlNet
triangle = control_net (plane (pos 0) (pos 0) (plane (pos 6) (pos 0) (plane (pos 0) (pos 6) []))) (0 ∷ 1 ∷ 2 ∷ []) (3 ∷ []) (1 ∷ 0 ∷ 0 ∷ [])

abbrev square : ControlNet
square =
    control_net (plane (pos 0) (pos 0) (plane (pos 16) (pos 0) (plane (pos 16) (pos 16) (plane (pos 0) (pos 16) [])))) (0 ∷ 1 ∷ 2 ∷ 3 ∷ []) (4 ∷ [])
    (0 ∷ 0 ∷ 0 ∷ 0 ∷ [])

abbrev pentagon : ControlNet
pentagon = control_net (heights (pos 0 ∷ pos 0 ∷ negsuc 0 ∷ pos 0 ∷ negsuc 1 ∷ [])) (0 ∷ 1 ∷ 2 ∷ 3 ∷ 4 ∷ []) (5 ∷ []) (0 ∷ 0 ∷ 0 ∷ 0 ∷ 0 ∷ [])

abbrev computed : List Net
computed = start_net triangle ∷ start_net square ∷ start_net pentagon ∷ []

abbrev stated : List Net
stated =
    net (plane (pos 0) (pos 0) (plane (pos 6) (pos 0) (plane (pos 0) (pos 6) (plane (pos 3) (pos 0) (plane (pos 3) (pos 3) (plane (pos 0) (pos 3) (plane (pos 2) (pos 2) [])))))))
    (0 ∷ 3 ∷ 6 ∷ 5 ∷ 1 ∷ 4 ∷ 6 ∷ 3 ∷ 2 ∷ 5 ∷ 6 ∷ 4 ∷ []) (1 ∷ 0 ∷ 0 ∷ 0 ∷ 0 ∷ 0 ∷ 0 ∷ [])
    ∷ net
    (plane (pos 0) (pos 0) (plane (pos 16) (pos 0) (plane (pos 16) (pos 16) (plane (pos 0) (pos 16)
    (plane (pos 8) (pos 0) (plane (pos 16) (pos 8) (plane (pos 8) (pos 16) (plane (pos 0) (pos 8) (plane (pos 8) (pos 8) [])))))))))
    (0 ∷ 4 ∷ 8 ∷ 7 ∷ 1 ∷ 5 ∷ 8 ∷ 4 ∷ 2 ∷ 6 ∷ 8 ∷ 5 ∷ 3 ∷ 7 ∷ 8 ∷ 6 ∷ []) (0 ∷ 0 ∷ 0 ∷ 0 ∷ 0 ∷ 0 ∷ 0 ∷ 0 ∷ 0 ∷ [])
    ∷ net
    (heights (pos 0 ∷ pos 0 ∷ negsuc 0 ∷ pos 0 ∷ negsuc 1 ∷ pos 0 ∷ pos 0 ∷ pos 0 ∷ negsuc 0 ∷ negsuc 0 ∷ negsuc 0 ∷ []))
    (0 ∷ 5 ∷ 10 ∷ 9 ∷ 1 ∷ 6 ∷ 10 ∷ 5 ∷ 2 ∷ 7 ∷ 10 ∷ 6 ∷ 3 ∷ 8 ∷ 10 ∷ 7 ∷ 4 ∷ 9 ∷ 10 ∷ 8 ∷ []) (0 ∷ 0 ∷ 0 ∷ 0 ∷ 0 ∷ 0 ∷ 0 ∷ 0 ∷ 0 ∷ 0 ∷ 0 ∷ [])
    ∷ []

nets : computed ≡ stated
unfolding tabulate first_from first count iterate round sumᶠ midpoint from to opposed mate first_met edge_count edge edge_at side_after side_before face_then no_face polygons shape_of corner refined refined_marks axis side_midpoint corner_mean first_side split_value split_coordinate split start_net
nets = refl
