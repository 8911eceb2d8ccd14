-- Every case of the table holds, by one test that computes. Assumes nothing.
use mathlib.Core.Path.{◌≡◌, refl, ap₂}
use mathlib.Core.Bool.{Bool, true, false, ◌&&◌}
use mathlib.Core.List.{List, [], ◌∷◌}
use Prim.Native.Nat.{ℕ}
use lib.Dec.{T}
use lib.IntN.{ℤ}
use lib.ListN.{get_or}
use Rattle.lists.proofs.Table.{both_parts, eq_z, eqZ→eq, every, every_at}
use Rattle.rounding.specs.Rounding.{round}
use Rattle.curve.specs.Curve.{curve_step, curve}
use Rattle.fractions.specs.Fraction.{sumᶠ}
use Rattle.rings.specs.Ring.{virtual}
use Rattle.rules.specs.Rules.{interior_point, end_point, midpoint, extrapolated, extrapolated_corner}
use Rattle.search.specs.Search.{first_from, first, any, count, iterate}
use Rattle.topology.specs.Shape.{quads}
use Rattle.topology.specs.HalfEdge.{from, to, opposed, mate, first_met, edge_count, edge, edge_at}
use Rattle.topology.specs.Boundary.{is_boundary_from, is_boundary_into, boundary_from, boundary_into, along, back}
use Rattle.topology.specs.Vertex.{leaves, valence, turn, start, stops, faces_met}
use Rattle.refusals.specs.Refusals.{bad_mark, bad_corner, isolated, repeated_side, non_manifold, bad_valence, marked_ring}
use Rattle.verdict.specs.Verdict.{limits_verdict, tables_verdict, size_verdict, room_verdict, net_verdict, coordinates_verdict, shape_verdict, faces_verdict, adjacency_verdict, vertex_verdict, bad_coordinate}
use Rattle.scheme.specs.Rings.{extrapolated_at, fan_neighbour, fan_corner, ring_virtual, fan_virtual, virtual_at}
use Rattle.topology.specs.Quads.{opposite_corner, fan_end, fan_place, across, beyond}
use Rattle.nets.specs.Net.{marked, axis}
use Rattle.scheme.specs.Points.{edge_rule, edge_value, edge_point, direction, inner, four_inner, face_rule, face_value, face_point}
use Rattle.scheme.specs.Step.{refined_coordinate, step, steps}
use Rattle.lists.specs.Tabulate.{tabulate}
use Rattle.polygons.specs.Polygons.{side_after, side_before, face_then, no_face, polygons, shape_of}
use Rattle.refinedfaces.specs.Refined.{corner, refined, refined_marks}
use Rattle.splitting.specs.Splitting.{side_midpoint, corner_mean, first_side, split_value, split_coordinate, split, start_net}
use Rattle.origins.specs.Origins.{new_rule, start_origin, origin_from, origin_after, letters}
use Rattle.cases.specs.Digits.{read_from, characters}
use Rattle.cases.specs.Cases.{Case, cases, AllHold}

abbrev eq_list : List ℤ → List ℤ → Bool
eq_list [] [] = true
eq_list [] (y ∷ m) = false
eq_list (x ∷ l) [] = false
eq_list (x ∷ l) (y ∷ m) = eq_z x y && eq_list l m

eqList→eq : (l m : List ℤ) → T (eq_list l m) → l ≡ m
eqList→eq [] [] t = refl
eqList→eq [] (y ∷ m) t = absurd t
eqList→eq (x ∷ l) [] t = absurd t
eqList→eq (x ∷ l) (y ∷ m) t = let h = both_parts (eq_z x y) (eq_list l m) t in ap₂ ◌∷◌ (eqZ→eq x y h.0) (eqList→eq l m h.1)

abbrev agrees : ℕ → Case → Bool
agrees k c = eq_list c.computed c.stated

passes : T (every agrees 0 cases)
unfolding cases read_from characters curve_step curve round limits_verdict tables_verdict size_verdict room_verdict net_verdict coordinates_verdict shape_verdict faces_verdict adjacency_verdict vertex_verdict bad_coordinate bad_mark bad_corner isolated repeated_side non_manifold bad_valence marked_ring first_from first any count iterate quads from to opposed mate first_met edge_count edge is_boundary_from is_boundary_into boundary_from boundary_into along back leaves valence turn start stops faces_met sumᶠ virtual interior_point end_point midpoint extrapolated extrapolated_corner opposite_corner fan_end extrapolated_at fan_neighbour fan_corner fan_place ring_virtual fan_virtual virtual_at marked edge_rule edge_value edge_point across beyond direction inner four_inner face_rule face_value face_point edge_at refined_coordinate axis tabulate side_after side_before face_then no_face polygons shape_of corner refined refined_marks side_midpoint corner_mean first_side split_value split_coordinate split start_net step steps new_rule start_origin origin_from origin_after letters
passes = tt

pub cases_hold : AllHold cases
cases_hold = record { hold = λ k c h. eqList→eq (get_or cases k c).computed (get_or cases k c).stated (every_at agrees cases c passes k h) }
