-- The rings of vertices of a net with four-sided faces l, and the virtual and extrapolated points on one coordinate p of its vertices.
use Rattle.std.specs.Prelude.{cond, List, ℕ, suc, ◌+◌, ◌-◌, eqb, ltb, ℤ, length}
use Rattle.curve.specs.Weights.{Weights}
use Rattle.fractions.specs.Fraction.{Fraction, whole}
use Rattle.rings.specs.Ring.{wrap, virtual}
use Rattle.rules.specs.Rules.{extrapolated, extrapolated_corner}
use Rattle.topology.specs.Shape.{quads}
use Rattle.topology.specs.HalfEdge.{from, to}
use Rattle.topology.specs.Boundary.{boundary_from}
use Rattle.topology.specs.Vertex.{valence, turns}
use Rattle.topology.specs.Quads.{opposite_corner, fan_end, fan_place}

-- "For a boundary vertex P in m faces, P* = 2P minus the mean of the far ends of its m - 1 inner edges; for m = 1, P* = 2P minus the opposite corner of its face."
-- Of the ends 0 to m of the fan the first and the last are on the boundary, and 1 to m - 1 those of inner edges
unfoldable pub extrapolated_at : List ℕ → (ℕ → ℤ) → ℕ → Fraction
extrapolated_at l p v =
    let m = valence l v in
    let s = boundary_from quads l v in
    cond (eqb m 1)
    (extrapolated_corner (whole (p v)) (whole (p (opposite_corner l s))))
    (extrapolated (whole (p v)) (m - 1) (λ (i : ℕ). whole (p (fan_end l s (suc i)))))

-- "For a boundary vertex P with end neighbours b and c, n = m + 2: P* joins the ring between b and c, and b*, c* are the two added opposite corners."
-- The fan at P starts with the half-edge s. Neighbours 0 to m are b to c, and m + 1 is P*; opposite corners 0 to m - 1 are those of the faces, then come c* between c
-- and P*, and b* between P* and b.
unfoldable pub fan_neighbour : List ℕ → (ℕ → ℤ) → ℕ → ℕ → Fraction
fan_neighbour l p v i =
    let m = valence l v in
    let s = boundary_from quads l v in
    cond (eqb i (m + 1)) (extrapolated_at l p v)
    (whole (p (fan_end l s i)))

unfoldable pub fan_corner : List ℕ → (ℕ → ℤ) → ℕ → ℕ → Fraction
fan_corner l p v i =
    let m = valence l v in
    let s = boundary_from quads l v in
    -- c*
    cond (eqb i m) (extrapolated_at l p (fan_end l s m))
    -- b*
    (cond (eqb i (m + 1)) (extrapolated_at l p (fan_end l s 0))
    (whole (p (opposite_corner l (turns quads l i s)))))

-- the virtual point at the vertex that h leaves, on the edge of h: the ring is taken from h on, or the fan from its start. A turn goes over the side before h, so
-- the face of h lies between neighbours 0 and 1, and its opposite corner is corner 0
unfoldable pub ring_virtual : Weights → List ℕ → (ℕ → ℤ) → ℕ → Fraction
ring_virtual w l p h =
    virtual w (valence l (from l h)) (λ (i : ℕ). whole (p (to quads l (turns quads l i h)))) (λ (i : ℕ). whole (p (opposite_corner l (turns quads l i h)))) 0

unfoldable pub fan_virtual : Weights → List ℕ → (ℕ → ℤ) → ℕ → Fraction
fan_virtual w l p h =
    let v = from l h in
    let n = valence l v + 2 in
    virtual w n (wrap n (fan_neighbour l p v)) (wrap n (fan_corner l p v)) (fan_place l v h)

unfoldable pub virtual_at : Weights → List ℕ → (ℕ → ℤ) → ℕ → Fraction
virtual_at w l p h = cond (ltb (boundary_from quads l (from l h)) (length l)) (fan_virtual w l p h) (ring_virtual w l p h)
