-- A net with side counts, split once into quadrilaterals. Paper 02: "Before refining, a face of n sides is to be split once into n quadrilaterals". "Sides and
-- numbering follow the round in 01": old vertices, then one per edge, then one per face; each side of a drawn face gives one face.
use Rattle.std.specs.Prelude.{cond, List, [], ◌∷◌, ℕ, ◌+◌, ◌-◌, ◌*◌, ◌/◌, ◌%◌, eqb, ltb, ℤ, length}
use Rattle.lists.specs.Tabulate.{tabulate}
use Rattle.search.specs.Search.{first, iterate}
use Rattle.fractions.specs.Fraction.{Fraction, whole, to_whole, ◌/ᶠ◌, sumᶠ}
use Rattle.rules.specs.Rules.{midpoint}
use Rattle.topology.specs.Shape.{Shape}
use Rattle.topology.specs.HalfEdge.{from, to, edge_count, edge_at}
use Rattle.polygons.specs.Polygons.{shape_of}
use Rattle.refinedfaces.specs.Refined.{refined_vertices, refined, refined_marks}
use Rattle.nets.specs.Net.{Net, ControlNet, control_tables, axis}

-- "each edge point the midpoint": of the side h, on one coordinate p of the vertices
unfoldable pub side_midpoint : Shape → List ℕ → (ℕ → ℤ) → ℕ → Fraction
side_midpoint S l p h = midpoint (whole (p (from l h))) (whole (p (to S l h)))

-- "The face point is the mean of its corners": of the face that has the side h
unfoldable pub corner_mean : Shape → List ℕ → (ℕ → ℤ) → ℕ → Fraction
corner_mean S l p h = sumᶠ (S.sides h) (λ (k : ℕ). whole (p (from l (iterate S.next k h)))) /ᶠ S.sides h

-- the first side of face f
unfoldable pub first_side : Shape → List ℕ → ℕ → ℕ
first_side S l f = first (λ (h : ℕ). eqb (S.face h) f) (length l)

-- the new vertex i: old vertices, then one per edge, then one per face
unfoldable pub split_value : Shape → ℕ → List ℕ → (ℕ → ℤ) → ℕ → Fraction
split_value S v l p i =
    cond (ltb i (v + edge_count S l)) (side_midpoint S l p (edge_at S l (i - v)))
    (corner_mean S l p (first_side S l (i - (v + edge_count S l))))

-- "rounded like any new point; drawn points stay"
unfoldable pub split_coordinate : Shape → ℕ → List ℕ → (ℕ → ℤ) → ℕ → ℤ
split_coordinate S v l p i = cond (ltb i v) (p i) (to_whole (split_value S v l p i))

-- "Four-sided faces are split too"
unfoldable pub split : ControlNet → Net
split m =
    let v = length m.marks in
    let S = shape_of m.sides in
    record {
      vertices = tabulate (3 * refined_vertices S v m.faces) (λ (i : ℕ). split_coordinate S v m.faces (axis m.vertices (i % 3)) (i / 3));
      faces = refined S v m.faces;
      marks = refined_marks S v m.faces m.marks;
    }

abbrev start_by : List ℕ → ControlNet → Net
start_by [] m = control_tables m
start_by (c ∷ s) m = split m

-- the net where refining begins: "zero rounds gives the split net"; "a call without one, or with an empty one, is as before"
unfoldable pub start_net : ControlNet → Net
start_net m = start_by m.sides m
