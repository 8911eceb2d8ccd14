-- One round, computed: what tells the rules from other readings. Assumes nothing. The cases of paper 01 are in `cases`.
use mathlib.Core.Path.{◌≡◌, refl}
use mathlib.Core.List.{List, [], ◌∷◌}
use Prim.Native.Nat.{ℕ}
use lib.IntN.{ℤ, pos, negsuc}
use lib.ListN.{length, drop}
use Rattle.lists.specs.Tabulate.{tabulate}
use Rattle.rounding.specs.Rounding.{round}
use Rattle.fractions.specs.Fraction.{sumᶠ}
use Rattle.rings.specs.Ring.{virtual}
use Rattle.rules.specs.Rules.{interior_point, end_point, midpoint, extrapolated, extrapolated_corner}
use Rattle.search.specs.Search.{first_from, first, count, iterate}
use Rattle.curve.specs.Weights.{kobbelt}
use Rattle.nets.specs.Net.{Net, marked, axis}
use Rattle.topology.specs.Shape.{quads}
use Rattle.topology.specs.HalfEdge.{from, to, opposed, mate, first_met, edge_count, edge, edge_at}
use Rattle.topology.specs.Boundary.{is_boundary_from, is_boundary_into, boundary_from, boundary_into, along, back}
use Rattle.topology.specs.Vertex.{leaves, valence, turn}
use Rattle.refinedfaces.specs.Refined.{corner, refined, refined_marks}
use Rattle.scheme.specs.Rings.{extrapolated_at, fan_neighbour, fan_corner, ring_virtual, fan_virtual, virtual_at}
use Rattle.topology.specs.Quads.{opposite_corner, fan_end, fan_place, across, beyond}
use Rattle.scheme.specs.Points.{edge_rule, edge_value, edge_point, direction, inner, four_inner, face_rule, face_value, face_point}
use Rattle.scheme.specs.Step.{refined_coordinate, step, steps}

abbrev plane : ℤ → ℤ → List ℤ → List ℤ
plane x y l = x ∷ y ∷ pos 0 ∷ l

-- a square of side 16 with the marks given, its first corner at height z
abbrev square : ℤ → List ℕ → Net
square z marks = record {
  vertices = pos 0 ∷ pos 0 ∷ z ∷ plane (pos 16) (pos 0) (plane (pos 16) (pos 16) (plane (pos 0) (pos 16) []));
  faces = 0 ∷ 1 ∷ 2 ∷ 3 ∷ [];
  marks = marks;
}

abbrev heights : List ℤ → List ℤ
heights [] = []
heights (z ∷ l) = pos 0 ∷ pos 0 ∷ z ∷ heights l

-- three squares in a ring, open above and below; one upper vertex is marked and raised
abbrev prism : Net
prism = record {
  vertices = heights (pos 64 ∷ pos 0 ∷ pos 0 ∷ pos 0 ∷ pos 0 ∷ pos 0 ∷ []);
  faces = 0 ∷ 1 ∷ 4 ∷ 3 ∷ 1 ∷ 2 ∷ 5 ∷ 4 ∷ 0 ∷ 3 ∷ 5 ∷ 2 ∷ [];
  marks = 1 ∷ 0 ∷ 0 ∷ 0 ∷ 0 ∷ 0 ∷ [];
}

-- three squares of two by two: vertex 4 lies on the boundary and has two inner edges; its end neighbour 5 is raised
abbrev ell : Net
ell = record {
  vertices = heights (pos 0 ∷ pos 0 ∷ pos 0 ∷ pos 0 ∷ pos 0 ∷ pos 720 ∷ pos 0 ∷ pos 0 ∷ []);
  faces = 0 ∷ 1 ∷ 4 ∷ 3 ∷ 1 ∷ 2 ∷ 5 ∷ 4 ∷ 3 ∷ 4 ∷ 7 ∷ 6 ∷ [];
  marks = 0 ∷ 0 ∷ 0 ∷ 0 ∷ 0 ∷ 0 ∷ 0 ∷ 0 ∷ [];
}

-- coordinate a of refined vertex i
abbrev refined_at : Net → ℕ → ℕ → ℤ
refined_at m a i = refined_coordinate kobbelt (length m.marks) m.faces m.marks (axis m.vertices a) i

-- all corners marked
abbrev all_marked : List ℤ
all_marked = drop 12 (step kobbelt (square (pos 0) (1 ∷ 1 ∷ 1 ∷ 1 ∷ []))).vertices

-- the end edges at a lone mark
abbrev at_mark : List ℤ
at_mark = refined_at (square (pos 0) (1 ∷ 0 ∷ 0 ∷ 0 ∷ [])) 1 4 ∷ refined_at (square (pos 0) (1 ∷ 0 ∷ 0 ∷ 0 ∷ [])) 0 7 ∷ []

-- a face point of 1/4, whose edge points are 9/16 and -1/16
abbrev quarter : List ℤ
quarter = refined_at (square (pos 1) (0 ∷ 0 ∷ 0 ∷ 0 ∷ [])) 2 8 ∷ []

-- an inner edge point whose ends have no inner neighbour; two face points in which one direction counts alone
abbrev on_prism : List ℤ
on_prism = refined_at prism 2 9 ∷ refined_at prism 2 15 ∷ refined_at prism 2 17 ∷ []

-- the two inner edge points at a boundary vertex of three faces
abbrev on_ell : List ℤ
on_ell = refined_at ell 2 9 ∷ refined_at ell 2 10 ∷ []

-- after two rounds: the point on the first half of a side, between (0, 0) and (8, -2), where a round that only splits puts (4, -1)
abbrev twice : Net
twice = steps kobbelt 2 (square (pos 0) (0 ∷ 0 ∷ 0 ∷ 0 ∷ []))

abbrev second_round : List ℤ
second_round = axis twice.vertices 0 9 ∷ axis twice.vertices 1 9 ∷ []

cases : (all_marked ≡ plane (pos 8) (pos 0) (plane (pos 16) (pos 8) (plane (pos 8) (pos 16) (plane (pos 0) (pos 8) (plane (pos 8) (pos 8) [])))))
    × (at_mark ≡ negsuc 0 ∷ negsuc 0 ∷ [])
    × (quarter ≡ pos 0 ∷ [])
    × (on_prism ≡ pos 32 ∷ pos 18 ∷ pos 18 ∷ [])
    × (on_ell ≡ pos 7 ∷ negsuc 27 ∷ [])
    × (second_round ≡ pos 4 ∷ negsuc 1 ∷ [])
unfolding tabulate round sumᶠ virtual first_from first count iterate quads from to opposed mate first_met edge_count edge is_boundary_from is_boundary_into boundary_from boundary_into along back leaves valence turn corner refined refined_marks interior_point end_point midpoint extrapolated extrapolated_corner opposite_corner fan_end extrapolated_at fan_neighbour fan_corner fan_place ring_virtual fan_virtual virtual_at marked edge_rule edge_value edge_point across beyond direction inner four_inner face_rule face_value face_point edge_at refined_coordinate axis step steps
cases = (refl, refl, refl, refl, refl, refl)
