-- The exact new points of one round, on one coordinate p of the vertices of a net with four-sided faces l.
use Rattle.std.specs.Prelude.{Bool, cond, ◌&&◌, List, ℕ, ◌*◌, ◌+◌, ltb, ℤ, length}
use Rattle.curve.specs.Weights.{Weights}
use Rattle.fractions.specs.Fraction.{Fraction, whole}
use Rattle.rules.specs.Rules.{interior_point, end_point, midpoint, inner_edge, direction_two, direction_one, direction_none, mean_of_both}
use Rattle.topology.specs.Shape.{quads}
use Rattle.topology.specs.HalfEdge.{from, to, mate}
use Rattle.topology.specs.Boundary.{along, back}
use Rattle.topology.specs.Quads.{across, beyond}
use Rattle.nets.specs.Net.{marked}
use Rattle.scheme.specs.Rings.{virtual_at}

-- ---- edges: which rule makes the point on the edge of h, by adjacency and marks alone
-- "A loop is cut at its marked vertices into open stretches": whether a boundary edge lies inside its segment, starts it, ends it, or is all of it
pub data EdgeRule : Type 0 where
  inside_segment start_of_segment end_of_segment whole_segment inner_rule : EdgeRule

unfoldable pub edge_rule : List ℕ → List ℕ → ℕ → EdgeRule
edge_rule l marks h =
    cond (ltb (mate quads l h) (length l)) inner_rule
    (cond (marked marks (from l h))
    (cond (marked marks (to quads l h)) whole_segment start_of_segment)
    (cond (marked marks (to quads l h)) end_of_segment inside_segment))

unfoldable pub edge_value : Weights → List ℕ → (ℕ → ℤ) → ℕ → EdgeRule → Fraction
edge_value w l p h inside_segment =
    interior_point w (whole (p (from l (back quads l h)))) (whole (p (from l h))) (whole (p (to quads l h))) (whole (p (to quads l (along quads l h))))
edge_value w l p h start_of_segment = end_point w (whole (p (from l h))) (whole (p (to quads l h))) (whole (p (to quads l (along quads l h))))
edge_value w l p h end_of_segment = end_point w (whole (p (to quads l h))) (whole (p (from l h))) (whole (p (from l (back quads l h))))
edge_value w l p h whole_segment = midpoint (whole (p (from l h))) (whole (p (to quads l h)))
edge_value w l p h inner_rule = inner_edge w (whole (p (from l h))) (whole (p (to quads l h))) (virtual_at w l p h) (virtual_at w l p (mate quads l h))

-- the exact point on the edge of h
unfoldable pub edge_point : Weights → List ℕ → List ℕ → (ℕ → ℤ) → ℕ → Fraction
edge_point w l marks p h = edge_value w l p h (edge_rule l marks h)

-- ---- faces
-- "In each direction take two opposite sides and, beyond each, the opposite edge of the neighbour.": the direction of the side h, from the edge points e, by the
-- rules for two neighbours, for one and for none
abbrev pub direction_by : {A B : Type 0} → (A → A → A → A → B) → (A → A → A → B) → (A → A → B) → List ℕ → (ℕ → A) → ℕ → B
direction_by two one none l e h =
    cond (ltb (mate quads l h) (length l))
    (cond (ltb (mate quads l (across h)) (length l))
    (two (e (beyond l h)) (e h) (e (across h)) (e (beyond l (across h))))
    (one (e (across h)) (e h) (e (beyond l h))))
    (cond (ltb (mate quads l (across h)) (length l))
    (one (e h) (e (across h)) (e (beyond l (across h))))
    (none (e h) (e (across h))))

unfoldable pub direction : Weights → List ℕ → (ℕ → Fraction) → ℕ → Fraction
direction w l e h = direction_by (direction_two w) (direction_one w) direction_none l e h

-- whether the direction of the side h "has four inner edges"
unfoldable pub inner : List ℕ → ℕ → Bool
inner l h = ltb (mate quads l h) (length l)

unfoldable pub four_inner : List ℕ → ℕ → Bool
four_inner l h = inner l h && inner l (across h) && inner l (beyond l h) && inner l (beyond l (across h))

-- "If exactly one direction has four inner edges, it alone counts. Otherwise the mean of both.": the first direction is that of side 0, the second that of side 1;
-- both have four inner edges, or neither has
pub data FaceRule : Type 0 where
  first_alone second_alone both_inner neither_inner : FaceRule

unfoldable pub face_rule : List ℕ → ℕ → FaceRule
face_rule l f =
    cond (four_inner l (4 * f)) (cond (four_inner l (4 * f + 1)) both_inner first_alone)
    (cond (four_inner l (4 * f + 1)) second_alone neither_inner)

unfoldable pub face_value : Weights → List ℕ → (ℕ → Fraction) → ℕ → FaceRule → Fraction
face_value w l e f first_alone = direction w l e (4 * f)
face_value w l e f second_alone = direction w l e (4 * f + 1)
face_value w l e f both_inner = mean_of_both (direction w l e (4 * f)) (direction w l e (4 * f + 1))
face_value w l e f neither_inner = mean_of_both (direction w l e (4 * f)) (direction w l e (4 * f + 1))

-- "Face points use the unrounded edge points."
unfoldable pub face_point : Weights → List ℕ → List ℕ → (ℕ → ℤ) → ℕ → Fraction
face_point w l marks p f = face_value w l (edge_point w l marks p) f (face_rule l f)
