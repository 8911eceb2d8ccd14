-- Readings of paper 01's square, and the seam of two squares; a triangle before and after its split.
use mathlib.Core.Path.{◌≡◌, refl, sym}
use mathlib.Core.Bool.{true, false}
use mathlib.Core.List.{List, [], ◌∷◌}
use Prim.Native.Nat.{ℕ, zero, suc, ◌<◌, ◌≤◌}
use native.Mathlib.Omega.{arith}
use lib.IntN.{ℤ, pos, negsuc}
use lib.ListN.{length}
use Rattle.lists.specs.Tabulate.{tabulate}
use Rattle.rounding.specs.Rounding.{round}
use Rattle.search.specs.Search.{first_from, first, count, any, iterate}
use Rattle.nets.specs.Net.{Net, ControlNet, control_net, control_tables, marked, axis, point_of}
use Rattle.curve.specs.Weights.{kobbelt}
use Rattle.curve.specs.Curve.{Open, Closed, Point, curve}
use Rattle.topology.specs.Shape.{Shape, quads, Lawful}
use Rattle.topology.specs.HalfEdge.{from, to, opposed, mate, first_met, edge_count, edge, edge_at}
use Rattle.topology.specs.Boundary.{is_boundary_from, is_boundary_into, boundary_from, boundary_into, along, back, Way, with_sides, against_sides}
use Rattle.topology.specs.Vertex.{leaves, valence, turn, start, stops, faces_met}
use Rattle.topology.proofs.Shape.{quads_lawful}
use Rattle.polygons.specs.Polygons.{side_after, side_before, face_then, no_face, polygons, shape_of, total, bad_count, bad_sides}
use Rattle.polygons.proofs.Counts.{shape_lawful}
use Rattle.refusals.specs.Refusals.{bad_corner, isolated, repeated_side, non_manifold, bad_valence}
use Rattle.refusals.proofs.Manifold.{manifold_if}
use Rattle.refinedfaces.specs.Refined.{corner, refined, refined_marks}
use Rattle.rules.specs.Rules.{interior_point, end_point, midpoint}
use Rattle.scheme.specs.Points.{edge_rule, edge_value, edge_point}
use Rattle.scheme.specs.Step.{refined_coordinate, step}
use Rattle.splitting.specs.Splitting.{side_midpoint, corner_mean, first_side, split_value, split_coordinate, split}
use Rattle.seam.specs.Reading.{next_vertex, vertex_at, points, Reads}
use Rattle.seam.specs.Seam.{Admissible, Seam}
use Rattle.seam.specs.Split.{halved, ReadsControl, AdmissibleControl, SplitShared}
use Rattle.seam.proofs.Seam.{seam}
use Rattle.seam.proofs.Split.{split_shared}

-- the corners of the square of side 16
abbrev flat : ℤ → ℤ → Point
flat x y = record { x = x; y = y; z = pos 0 }

abbrev c₀ : Point
c₀ = flat (pos 0) (pos 0)

abbrev c₁ : Point
c₁ = flat (pos 16) (pos 0)

abbrev c₂ : Point
c₂ = flat (pos 16) (pos 16)

abbrev c₃ : Point
c₃ = flat (pos 0) (pos 16)

-- the square with the marks given, and the one that lies below it
abbrev square : List ℕ → Net
square marks = record {
  vertices = pos 0 ∷ pos 0 ∷ pos 0 ∷ pos 16 ∷ pos 0 ∷ pos 0 ∷ pos 16 ∷ pos 16 ∷ pos 0 ∷ pos 0 ∷ pos 16 ∷ pos 0 ∷ [];
  faces = 0 ∷ 1 ∷ 2 ∷ 3 ∷ [];
  marks = marks;
}

abbrev below : List ℕ → Net
below marks = record {
  vertices = pos 0 ∷ pos 0 ∷ pos 0 ∷ pos 0 ∷ negsuc 15 ∷ pos 0 ∷ pos 16 ∷ negsuc 15 ∷ pos 0 ∷ pos 16 ∷ pos 0 ∷ pos 0 ∷ [];
  faces = 0 ∷ 1 ∷ 2 ∷ 3 ∷ [];
  marks = marks;
}

-- ---- four marks: each side is a segment of one edge
one_edge : (m : Net) (way : Way) (u : ℕ) → boundary_from quads m.faces u < length m.faces → marked m.marks u ≡ true → marked m.marks (vertex_at quads m.faces way u 1) ≡ true
    → Reads m way Open u (points quads m way u 2)
one_edge m way u b s e = record {
  boundary = b;
  starts = s;
  edges = 1;
  some = omega arith;
  between = λ i a b. absurd (omega arith);
  ends = e;
  list = refl;
}

four_marks : Reads (square (1 ∷ 1 ∷ 1 ∷ 1 ∷ [])) with_sides Open 0 (c₀ ∷ c₁ ∷ [])
unfolding tabulate first_from first iterate quads from to opposed mate is_boundary_from boundary_from marked axis point_of next_vertex vertex_at points
four_marks = one_edge (square (1 ∷ 1 ∷ 1 ∷ 1 ∷ [])) with_sides 0 (omega arith) refl refl

four_marks_below : Reads (below (1 ∷ 1 ∷ 1 ∷ 1 ∷ [])) against_sides Open 0 (c₀ ∷ c₁ ∷ [])
unfolding tabulate first_from first iterate quads from to opposed mate is_boundary_from is_boundary_into boundary_from boundary_into marked axis point_of next_vertex vertex_at points
four_marks_below = one_edge (below (1 ∷ 1 ∷ 1 ∷ 1 ∷ [])) against_sides 0 (omega arith) refl refl

-- ---- one mark: all the way round, the marked vertex first and last
one_mark : Reads (square (1 ∷ 0 ∷ 0 ∷ 0 ∷ [])) with_sides Open 0 (c₀ ∷ c₁ ∷ c₂ ∷ c₃ ∷ c₀ ∷ [])
unfolding tabulate first_from first iterate quads from to opposed mate is_boundary_from boundary_from marked axis point_of next_vertex vertex_at points
one_mark = record {
  boundary = omega arith;
  starts = refl;
  edges = 4;
  some = omega arith;
  between = between;
  ends = refl;
  list = refl;
}
  where
    between : (i : ℕ) → 0 < i → i < 4 → marked (1 ∷ 0 ∷ 0 ∷ 0 ∷ []) (vertex_at quads (0 ∷ 1 ∷ 2 ∷ 3 ∷ []) with_sides 0 i) ≡ false
    between zero a b = absurd (omega arith)
    between (suc zero) a b = refl
    between (suc (suc zero)) a b = refl
    between (suc (suc (suc zero))) a b = refl
    between (suc (suc (suc (suc i)))) a b = absurd (omega arith)

-- ---- no mark: once round, here from vertex 2 against the sides
no_marks : Reads (square (0 ∷ 0 ∷ 0 ∷ 0 ∷ [])) against_sides Closed 2 (c₂ ∷ c₁ ∷ c₀ ∷ c₃ ∷ [])
unfolding tabulate first_from first iterate quads from to opposed mate is_boundary_from is_boundary_into boundary_from boundary_into marked axis point_of next_vertex vertex_at points
no_marks = record {
  boundary = omega arith;
  unmarked = λ i. unmarked (vertex_at quads (0 ∷ 1 ∷ 2 ∷ 3 ∷ []) against_sides 2 i);
  edges = 4;
  some = omega arith;
  once = once;
  returns = refl;
  list = refl;
}
  where
    unmarked : (v : ℕ) → marked (0 ∷ 0 ∷ 0 ∷ 0 ∷ []) v ≡ false
    unmarked zero = refl
    unmarked (suc zero) = refl
    unmarked (suc (suc zero)) = refl
    unmarked (suc (suc (suc zero))) = refl
    unmarked (suc (suc (suc (suc v)))) = refl

    once : (i : ℕ) → 0 < i → i < 4 → vertex_at quads (0 ∷ 1 ∷ 2 ∷ 3 ∷ []) against_sides 2 i ≡ 2 → ⊥
    once zero a b e = absurd (omega arith)
    once (suc zero) a b e = let z : ◌≡◌ {A = ℕ} 1 2 = e in omega arith
    once (suc (suc zero)) a b e = let z : ◌≡◌ {A = ℕ} 0 2 = e in omega arith
    once (suc (suc (suc zero))) a b e = let z : ◌≡◌ {A = ℕ} 3 2 = e in omega arith
    once (suc (suc (suc (suc i)))) a b e = absurd (omega arith)

-- after a round, worked out on the net: the curves of the last two lists
after_one : points quads (step kobbelt (square (1 ∷ 0 ∷ 0 ∷ 0 ∷ []))) with_sides 0 9 ∷ points quads (step kobbelt (square (0 ∷ 0 ∷ 0 ∷ 0 ∷ []))) against_sides 2 8 ∷ []
    ≡ curve kobbelt Open 1 (c₀ ∷ c₁ ∷ c₂ ∷ c₃ ∷ c₀ ∷ []) ∷ curve kobbelt Closed 1 (c₂ ∷ c₁ ∷ c₀ ∷ c₃ ∷ []) ∷ []
unfolding tabulate round interior_point end_point midpoint first_from first count iterate quads from to opposed mate first_met edge_count edge is_boundary_from is_boundary_into boundary_from boundary_into along back corner refined refined_marks marked edge_rule edge_value edge_point edge_at refined_coordinate axis step point_of next_vertex vertex_at points curve
after_one = refl

-- ---- two squares that share a side: one is read with the sides, the other against them
admissible : Admissible (square (1 ∷ 1 ∷ 1 ∷ 1 ∷ []))
unfolding first_from first count any iterate quads from to opposed mate is_boundary_from boundary_from leaves valence turn start stops faces_met bad_corner isolated repeated_side non_manifold bad_valence
admissible = manifold_if quads 4 (0 ∷ 1 ∷ 2 ∷ 3 ∷ []) (quads_lawful 4 refl) (record { no7 = refl; no8 = refl; no9 = refl; no10 = refl; no11 = refl })

shared : (t : ℕ) → t ≤ 4 → (k : ℕ) → Seam t (square (1 ∷ 1 ∷ 1 ∷ 1 ∷ [])) (below (1 ∷ 1 ∷ 1 ∷ 1 ∷ [])) with_sides against_sides Open 0 0 (c₀ ∷ c₁ ∷ []) k
shared t low = seam t low (square (1 ∷ 1 ∷ 1 ∷ 1 ∷ [])) (below (1 ∷ 1 ∷ 1 ∷ 1 ∷ [])) admissible admissible with_sides against_sides Open 0 0 (c₀ ∷ c₁ ∷ []) four_marks four_marks_below

-- ---- a triangle without marks, with its side count, and the same one turned over
abbrev d₀ : Point
d₀ = flat (pos 0) (pos 0)

abbrev d₁ : Point
d₁ = flat (pos 6) (pos 0)

abbrev d₂ : Point
d₂ = flat (pos 0) (pos 6)

abbrev triangle : List ℕ → ControlNet
triangle faces = control_net (pos 0 ∷ pos 0 ∷ pos 0 ∷ pos 6 ∷ pos 0 ∷ pos 0 ∷ pos 0 ∷ pos 6 ∷ pos 0 ∷ []) faces (3 ∷ []) (0 ∷ 0 ∷ 0 ∷ [])

abbrev three : Shape
three = shape_of (3 ∷ [])

abbrev up : ControlNet
up = triangle (0 ∷ 1 ∷ 2 ∷ [])

abbrev down : ControlNet
down = triangle (0 ∷ 2 ∷ 1 ∷ [])

once_round : (l : List ℕ) (way : Way) → boundary_from three l 0 < length l → vertex_at three l way 0 1 ≡ 1 → vertex_at three l way 0 2 ≡ 2
    → vertex_at three l way 0 3 ≡ 0 → ReadsControl (triangle l) way Closed 0 (points three (control_tables (triangle l)) way 0 3)
unfolding marked
once_round l way b one two back = record {
  boundary = b;
  unmarked = λ i. unmarked (vertex_at three l way 0 i);
  edges = 3;
  some = omega arith;
  once = once;
  returns = back;
  list = refl;
}
  where
    unmarked : (v : ℕ) → marked (0 ∷ 0 ∷ 0 ∷ []) v ≡ false
    unmarked zero = refl
    unmarked (suc zero) = refl
    unmarked (suc (suc zero)) = refl
    unmarked (suc (suc (suc v))) = refl

    once : (i : ℕ) → 0 < i → i < 3 → vertex_at three l way 0 i ≡ 0 → ⊥
    once zero a c e = absurd (omega arith)
    once (suc zero) a c e = omega arith
    once (suc (suc zero)) a c e = omega arith
    once (suc (suc (suc i))) a c e = absurd (omega arith)

up_read : ReadsControl up with_sides Closed 0 (d₀ ∷ d₁ ∷ d₂ ∷ [])
unfolding tabulate first_from first iterate side_after side_before face_then no_face polygons shape_of from to opposed mate is_boundary_from boundary_from axis point_of next_vertex vertex_at points
up_read = once_round (0 ∷ 1 ∷ 2 ∷ []) with_sides (omega arith) refl refl refl

down_read : ReadsControl down against_sides Closed 0 (d₀ ∷ d₁ ∷ d₂ ∷ [])
unfolding tabulate first_from first iterate side_after side_before face_then no_face polygons shape_of from to opposed mate is_boundary_from is_boundary_into boundary_from boundary_into axis point_of next_vertex vertex_at points
down_read = once_round (0 ∷ 2 ∷ 1 ∷ []) against_sides (omega arith) refl refl refl

abbrev split_list : List Point
split_list = d₀ ∷ flat (pos 3) (pos 0) ∷ d₁ ∷ flat (pos 3) (pos 3) ∷ d₂ ∷ flat (pos 0) (pos 3) ∷ []

list_halved : halved Closed (d₀ ∷ d₁ ∷ d₂ ∷ []) ≡ split_list
unfolding round halved
list_halved = refl

-- after the split, worked out on the net
points-split : points quads (split up) with_sides 0 6 ∷ points quads (split down) against_sides 0 6 ∷ [] ≡ split_list ∷ split_list ∷ []
unfolding tabulate round midpoint first_from first count iterate side_after side_before face_then no_face polygons shape_of quads from to opposed mate first_met edge_count edge edge_at is_boundary_from is_boundary_into boundary_from boundary_into corner refined refined_marks side_midpoint corner_mean first_side split_value split_coordinate split axis point_of next_vertex vertex_at points
points-split = refl

lawful_three : Lawful three 3
unfolding first_from first any total bad_count bad_sides
lawful_three = shape_lawful (3 ∷ []) 3 (record { fours = λ e. absurd (omega arith); counts = λ k. refl })

admissible_both : AdmissibleControl up × AdmissibleControl down
unfolding first_from first count any iterate side_after side_before face_then no_face polygons shape_of from to opposed mate is_boundary_from boundary_from leaves valence turn start stops faces_met bad_corner isolated repeated_side non_manifold bad_valence
admissible_both = (
  manifold_if three 3 (0 ∷ 1 ∷ 2 ∷ []) lawful_three (record { no7 = refl; no8 = refl; no9 = refl; no10 = refl; no11 = refl }),
  manifold_if three 3 (0 ∷ 2 ∷ 1 ∷ []) lawful_three (record { no7 = refl; no8 = refl; no9 = refl; no10 = refl; no11 = refl }),
)

shared_split : SplitShared up down with_sides against_sides Closed 0 0 (d₀ ∷ d₁ ∷ d₂ ∷ [])
shared_split = split_shared up down admissible_both.0 admissible_both.1 with_sides against_sides Closed 0 0 (d₀ ∷ d₁ ∷ d₂ ∷ []) up_read down_read

after_split : Reads (split up) with_sides Closed 0 split_list
after_split = (shared_split.left split_list).1 (sym list_halved)
