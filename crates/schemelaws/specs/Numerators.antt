-- The points of `scheme` as whole numbers over the common denominators of `rings` `Scales`, on one coordinate p of the vertices of a net with four-sided faces l.
use Rattle.std.specs.Prelude.{cond, List, ℕ, suc, ◌+◌, ◌-◌, ◌*◌, eqb, ltb, ℤ, pos, ◌+ℤ◌, ◌*ℤ◌, length}
use Rattle.curve.specs.Weights.{Weights, interior, end_edge, single_edge}
use Rattle.rings.specs.Ring.{wrap}
use Rattle.rings.specs.RingWeights.{virtual_numerator}
use Rattle.rings.specs.Scales.{extrapolated_scale, virtual_scale}
use Rattle.rules.specs.Numerators.{extrapolated_z, extrapolated_corner_z, inner_edge_z}
use Rattle.topology.specs.Shape.{quads}
use Rattle.topology.specs.HalfEdge.{from, to, mate}
use Rattle.topology.specs.Boundary.{boundary_from}
use Rattle.topology.specs.Vertex.{valence, turns}
use Rattle.topology.specs.Quads.{opposite_corner, fan_end, fan_place}
use Rattle.scheme.specs.Points.{EdgeRule, inside_segment, start_of_segment, end_of_segment, whole_segment, inner_rule, edge_rule, direction_by, FaceRule, first_alone, second_alone, both_inner, neither_inner, face_rule}
use Rattle.schemelaws.specs.Ordinary.{ordinary_value}

-- ---- over `extrapolated_scale`
unfoldable pub extrapolated_at_z : List ℕ → (ℕ → ℤ) → ℕ → ℤ
extrapolated_at_z l p v =
    cond (eqb (valence l v) 1)
    (extrapolated_corner_z (p v) (p (opposite_corner l (boundary_from quads l v))))
    (extrapolated_z (p v) (valence l v - 1) (λ (i : ℕ). p (fan_end l (boundary_from quads l v) (suc i))))

unfoldable pub fan_neighbour_z : List ℕ → (ℕ → ℤ) → ℕ → ℕ → ℤ
fan_neighbour_z l p v i =
    cond (eqb i (valence l v + 1)) (extrapolated_at_z l p v)
    (pos extrapolated_scale *ℤ p (fan_end l (boundary_from quads l v) i))

unfoldable pub fan_corner_z : List ℕ → (ℕ → ℤ) → ℕ → ℕ → ℤ
fan_corner_z l p v i =
    cond (eqb i (valence l v)) (extrapolated_at_z l p (fan_end l (boundary_from quads l v) (valence l v)))
    (cond (eqb i (valence l v + 1)) (extrapolated_at_z l p (fan_end l (boundary_from quads l v) 0))
    (pos extrapolated_scale *ℤ p (opposite_corner l (turns quads l i (boundary_from quads l v)))))

-- the neighbours and the opposite corners round the vertex of h, where it has a full ring
unfoldable pub ring_neighbour_z : List ℕ → (ℕ → ℤ) → ℕ → ℕ → ℤ
ring_neighbour_z l p h i = pos extrapolated_scale *ℤ p (to quads l (turns quads l i h))

unfoldable pub ring_corner_z : List ℕ → (ℕ → ℤ) → ℕ → ℕ → ℤ
ring_corner_z l p h i = pos extrapolated_scale *ℤ p (opposite_corner l (turns quads l i h))

-- ---- over `virtual_scale`
unfoldable pub ring_virtual_z : Weights → List ℕ → (ℕ → ℤ) → ℕ → ℤ
ring_virtual_z w l p h = virtual_numerator w (valence l (from l h)) (ring_neighbour_z l p h) (ring_corner_z l p h) 0

unfoldable pub fan_virtual_z : Weights → List ℕ → (ℕ → ℤ) → ℕ → ℤ
fan_virtual_z w l p h =
    virtual_numerator w (valence l (from l h) + 2) (wrap (valence l (from l h) + 2) (fan_neighbour_z l p (from l h))) (wrap (valence l (from l h) + 2) (fan_corner_z l p (from l h)))
    (fan_place l (from l h) h)

unfoldable pub virtual_at_z : Weights → List ℕ → (ℕ → ℤ) → ℕ → ℤ
virtual_at_z w l p h = cond (ltb (boundary_from quads l (from l h)) (length l)) (fan_virtual_z w l p h) (ring_virtual_z w l p h)

-- ---- over `edge_scale`: a boundary edge's numerator over `scale`, times `virtual_scale`
unfoldable pub edge_value_z : Weights → List ℕ → (ℕ → ℤ) → ℕ → EdgeRule → ℤ
edge_value_z w l p h inside_segment = pos (virtual_scale w) *ℤ ordinary_value w l p h inside_segment
edge_value_z w l p h start_of_segment = pos (virtual_scale w) *ℤ ordinary_value w l p h start_of_segment
edge_value_z w l p h end_of_segment = pos (virtual_scale w) *ℤ ordinary_value w l p h end_of_segment
edge_value_z w l p h whole_segment = pos (virtual_scale w) *ℤ ordinary_value w l p h whole_segment
edge_value_z w l p h inner_rule = inner_edge_z w (p (from l h)) (p (to quads l h)) (virtual_at_z w l p h) (virtual_at_z w l p (mate quads l h))

-- the edge point of h
unfoldable pub edge_z : Weights → List ℕ → List ℕ → (ℕ → ℤ) → ℕ → ℤ
edge_z w l marks p h = edge_value_z w l p h (edge_rule l marks h)

-- ---- faces, from edge points e over one denominator: a direction over `scale` times it
unfoldable pub direction_z : Weights → List ℕ → (ℕ → ℤ) → ℕ → ℤ
direction_z w l e h = direction_by (interior w) (end_edge w) (single_edge w) l e h

-- a face point over twice that: a direction that counts alone is doubled
unfoldable pub face_value_z : Weights → List ℕ → (ℕ → ℤ) → ℕ → FaceRule → ℤ
face_value_z w l e f first_alone = pos 2 *ℤ direction_z w l e (4 * f)
face_value_z w l e f second_alone = pos 2 *ℤ direction_z w l e (4 * f + 1)
face_value_z w l e f both_inner = direction_z w l e (4 * f) +ℤ direction_z w l e (4 * f + 1)
face_value_z w l e f neither_inner = direction_z w l e (4 * f) +ℤ direction_z w l e (4 * f + 1)

-- the face point of f
unfoldable pub face_z : Weights → List ℕ → (ℕ → ℤ) → ℕ → ℤ
face_z w l e f = face_value_z w l e f (face_rule l f)
