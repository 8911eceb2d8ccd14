-- One round on a whole net, and k rounds.
use Rattle.std.specs.Prelude.{cond, List, ℕ, zero, suc, ◌+◌, ◌-◌, ◌*◌, ◌/◌, ◌%◌, ltb, ℤ, length}
use Rattle.lists.specs.Tabulate.{tabulate}
use Rattle.nets.specs.Net.{Net, axis}
use Rattle.curve.specs.Weights.{Weights}
use Rattle.fractions.specs.Fraction.{to_whole}
use Rattle.topology.specs.Shape.{quads}
use Rattle.topology.specs.HalfEdge.{edge_count, edge_at}
use Rattle.refinedfaces.specs.Refined.{refined_vertices, refined, refined_marks}
use Rattle.scheme.specs.Points.{edge_point, face_point}

-- "Refined vertices are the old ones, then one per edge, then one per face." Every new coordinate is an exact fraction, rounded once.
unfoldable pub refined_coordinate : Weights → ℕ → List ℕ → List ℕ → (ℕ → ℤ) → ℕ → ℤ
refined_coordinate w v l marks p i =
    cond (ltb i v) (p i)
    (cond (ltb i (v + edge_count quads l)) (to_whole (edge_point w l marks p (edge_at quads l (i - v))))
    (to_whole (face_point w l marks p (i - (v + edge_count quads l)))))

unfoldable pub step : Weights → Net → Net
step w m =
    let v = length m.marks in
    record {
      vertices = tabulate (3 * refined_vertices quads v m.faces) (λ (i : ℕ). refined_coordinate w v m.faces m.marks (axis m.vertices (i % 3)) (i / 3));
      faces = refined quads v m.faces;
      marks = refined_marks quads v m.faces m.marks;
    }

-- "Zero rounds copies the net."
unfoldable pub steps : Weights → ℕ → Net → Net
steps w zero m = m
steps w (suc k) m = step w (steps w k m)
