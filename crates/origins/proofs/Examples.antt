-- Letters, computed. Assumes nothing.
use mathlib.Core.Path.{◌≡◌, refl}
use mathlib.Core.List.{List, [], ◌∷◌, ◌++◌}
use Prim.Native.Nat.{ℕ, zero, suc, ◌+◌, ◌*◌, ◌/◌, ◌%◌}
use lib.IntN.{ℤ, pos, negsuc}
use lib.ListN.{get_or, replicate}
use Rattle.lists.specs.Tabulate.{tabulate}
use Rattle.search.specs.Search.{first_from, first, count, iterate}
use Rattle.rounding.specs.Rounding.{round}
use Rattle.curve.specs.Weights.{kobbelt}
use Rattle.fractions.specs.Fraction.{to_whole, sumᶠ}
use Rattle.rings.specs.Ring.{virtual}
use Rattle.rules.specs.Rules.{interior_point, end_point, midpoint, extrapolated, extrapolated_corner}
use Rattle.topology.specs.Shape.{quads}
use Rattle.topology.specs.HalfEdge.{from, to, opposed, mate, first_met, edge_count, edge, edge_at}
use Rattle.topology.specs.Boundary.{is_boundary_from, is_boundary_into, boundary_from, boundary_into, along, back}
use Rattle.topology.specs.Vertex.{leaves, valence, turn}
use Rattle.topology.specs.Quads.{opposite_corner, fan_end, fan_place, across, beyond}
use Rattle.polygons.specs.Polygons.{side_after, side_before, face_then, no_face, polygons, shape_of}
use Rattle.refinedfaces.specs.Refined.{corner, refined, refined_marks}
use Rattle.nets.specs.Net.{ControlNet, control_net, marked}
use Rattle.scheme.specs.Rings.{extrapolated_at, fan_neighbour, fan_corner, ring_virtual, fan_virtual, virtual_at}
use Rattle.scheme.specs.Points.{edge_rule, edge_value, edge_point, direction, inner, four_inner, face_rule, face_value}
use Rattle.scheme.specs.Step.{step, steps}
use Rattle.splitting.specs.Splitting.{split, start_net}
use Rattle.origins.specs.Origins.{Rule, within_segment, end_rule, single_rule, interior_edge, four_inner_edges, other_face, letter_of, made_by, new_rule, rule_value, start_origin, origin_from, origin_after, letters, face_case}

-- a square with these side counts and marks; letters see no coordinates
abbrev square : (sides marks : List ℕ) → ControlNet
square sides marks = control_net (replicate 12 (pos 0)) (0 ∷ 1 ∷ 2 ∷ 3 ∷ []) sides marks

-- "VVVVMMMME" and so on
abbrev computed : List (List ℕ)
computed =
    letters kobbelt (square [] (replicate 4 1)) 1
    ∷ letters kobbelt (square [] (replicate 4 0)) 1
    ∷ letters kobbelt (square [] (1 ∷ 0 ∷ 0 ∷ 0 ∷ [])) 1
    ∷ letters kobbelt (square (4 ∷ []) (replicate 4 1)) 0
    ∷ letters kobbelt (square [] (replicate 4 1)) 0
    ∷ []

abbrev stated : List (List ℕ)
stated =
    (replicate 4 86 ++ (replicate 4 77 ++ (69 ∷ [])))
    ∷ (replicate 4 86 ++ (replicate 4 65 ++ (69 ∷ [])))
    ∷ (replicate 4 86 ++ (66 ∷ 65 ∷ 65 ∷ 66 ∷ 69 ∷ []))
    ∷ (replicate 4 86 ++ replicate 5 83)
    ∷ replicate 4 86
    ∷ []

squares : computed ≡ stated
unfolding tabulate first_from first count iterate quads from to opposed mate first_met edge_count edge edge_at across beyond side_after side_before face_then no_face polygons shape_of corner refined refined_marks marked edge_rule inner four_inner face_rule step steps split start_net new_rule start_origin origin_from origin_after letters
squares = refl

-- after two rounds: old letters, then an end edge on each side of a marked corner, inner edges, and four faces without a direction of four inner edges
twice : letters kobbelt (square [] (replicate 4 1)) 2 ≡ replicate 4 86 ++ (replicate 4 77 ++ (69 ∷ (66 ∷ 67 ∷ 67 ∷ 66 ∷ 66 ∷ 67 ∷ 66 ∷ 66 ∷ 67 ∷ 66 ∷ 66 ∷ 66 ∷ replicate 4 69)))
unfolding tabulate first_from first count iterate quads from to opposed mate first_met edge_count edge edge_at across beyond corner refined refined_marks marked edge_rule inner four_inner face_rule step steps start_net new_rule start_origin origin_from origin_after letters
twice = refl

-- ---- D and E: the faces of a grid of a by b squares, row by row
abbrev grid_corner : ℕ → ℕ → ℕ → ℕ
grid_corner a f zero = f + f / a
grid_corner a f (suc zero) = f + f / a + 1
grid_corner a f (suc (suc zero)) = f + f / a + a + 2
grid_corner a f (suc (suc (suc j))) = f + f / a + a + 1

abbrev grid : (a b : ℕ) → List ℕ
grid a b = tabulate (4 * (a * b)) (λ (g : ℕ). grid_corner a (g / 4) (g % 4))

abbrev grid_letters : (a b : ℕ) → List ℕ
grid_letters a b = tabulate (a * b) (λ (f : ℕ). letter_of (made_by (face_case (face_rule (grid a b) f))))

-- a row with one D in its middle
abbrev middle : List ℕ → List ℕ
middle l = 69 ∷ 69 ∷ 68 ∷ 69 ∷ 69 ∷ l

three_by_three : grid_letters 3 3 ≡ replicate 9 69
unfolding tabulate first_from first quads from to opposed mate across beyond inner four_inner face_rule
three_by_three = refl

five_by_three : grid_letters 5 3 ≡ middle (middle (middle []))
unfolding tabulate first_from first quads from to opposed mate across beyond inner four_inner face_rule
five_by_three = refl

five_by_five : grid_letters 5 5 ≡ middle (middle (replicate 5 68 ++ middle (middle [])))
unfolding tabulate first_from first quads from to opposed mate across beyond inner four_inner face_rule
five_by_five = refl

-- ---- rules taken at their word, each also where it is not the vertex's own
abbrev value : (l marks : List ℕ) → List ℤ → ℕ → Rule → ℤ
value l marks heights i r = to_whole (rule_value kobbelt l marks (λ (v : ℕ). get_or heights v (pos 0)) i r)

-- the first side of a square, with all corners marked, and with none
abbrev first_side : (marks : List ℕ) → Rule → ℤ
first_side marks = value (0 ∷ 1 ∷ 2 ∷ 3 ∷ []) marks (pos 16 ∷ pos 0 ∷ pos 0 ∷ pos 160 ∷ []) 4

edges_at_their_word : first_side (replicate 4 1) within_segment ∷ first_side (replicate 4 1) end_rule ∷ first_side (replicate 4 1) single_rule ∷ first_side (replicate 4 0) end_rule ∷ first_side (replicate 4 0) single_rule ∷ first_side (replicate 4 0) interior_edge ∷ []
    ≡ negsuc 0 ∷ pos 7 ∷ pos 8 ∷ pos 0 ∷ pos 8 ∷ pos 1 ∷ []
unfolding round sumᶠ virtual first_from first count iterate quads from to opposed mate first_met edge_count edge edge_at is_boundary_from is_boundary_into boundary_from boundary_into along back leaves valence turn interior_point end_point midpoint extrapolated extrapolated_corner opposite_corner fan_end extrapolated_at fan_neighbour fan_corner fan_place ring_virtual fan_virtual virtual_at marked edge_rule edge_value edge_point across beyond direction inner four_inner face_rule face_value rule_value
edges_at_their_word = refl

-- the middle one of five squares in a row, one of whose directions has four inner edges; vertex 2 raised, vertex 3 marked
abbrev middle_face : Rule → ℤ
middle_face = value (grid 5 1) (replicate 3 0 ++ (1 ∷ replicate 8 0)) (pos 0 ∷ pos 0 ∷ pos 1600 ∷ replicate 9 (pos 0)) 30

face_at_its_word : middle_face other_face ∷ middle_face four_inner_edges ∷ [] ≡ pos 475 ∷ pos 450 ∷ []
unfolding tabulate round sumᶠ virtual first_from first count iterate quads from to opposed mate first_met edge_count edge edge_at is_boundary_from is_boundary_into boundary_from boundary_into along back leaves valence turn interior_point end_point midpoint extrapolated extrapolated_corner opposite_corner fan_end extrapolated_at fan_neighbour fan_corner fan_place ring_virtual fan_virtual virtual_at marked edge_rule edge_value edge_point across beyond direction inner four_inner face_rule face_value rule_value
face_at_its_word = refl

-- three of two by two squares, none of whose faces has a direction of four inner edges, vertex 5 raised: the point of the raised face by E, and by D the first direction.
-- So a D for an E is found out: it names a point that the rule for E does not give.
abbrev raised_face : Rule → ℤ
raised_face = value (0 ∷ 1 ∷ 4 ∷ 3 ∷ 1 ∷ 2 ∷ 5 ∷ 4 ∷ 3 ∷ 4 ∷ 7 ∷ 6 ∷ []) (replicate 8 0) (replicate 5 (pos 0) ++ (pos 720 ∷ pos 0 ∷ pos 0 ∷ [])) 19

other_face_at_its_word : raised_face other_face ∷ raised_face four_inner_edges ∷ [] ≡ pos 181 ∷ pos 180 ∷ []
unfolding round sumᶠ virtual first_from first count iterate quads from to opposed mate first_met edge_count edge edge_at is_boundary_from is_boundary_into boundary_from boundary_into along back leaves valence turn interior_point end_point midpoint extrapolated extrapolated_corner opposite_corner fan_end extrapolated_at fan_neighbour fan_corner fan_place ring_virtual fan_virtual virtual_at marked edge_rule edge_value edge_point across beyond direction inner four_inner face_rule face_value rule_value
other_face_at_its_word = refl
