-- Vertices as in a grid, inside it or on its side, and the points on edges between such vertices: over the scale of the weights alone.
use Rattle.std.specs.Prelude.{◌≡◌, cond, List, ℕ, ◌<◌, ltb, ℤ, length}
use Rattle.curve.specs.Weights.{Weights, interior, end_edge, single_edge, mirror}
use Rattle.topology.specs.Shape.{quads}
use Rattle.topology.specs.HalfEdge.{from, to, mate}
use Rattle.topology.specs.Boundary.{boundary_from, along, back}
use Rattle.topology.specs.Vertex.{valence, turns}
use Rattle.scheme.specs.Points.{EdgeRule, inside_segment, start_of_segment, end_of_segment, whole_segment, inner_rule, edge_rule}

-- a full ring of four, or a fan of two
pub data Ordinary (l : List ℕ) (q : ℕ) : Type 0 where
  ring_of_four : boundary_from quads l q ≡ length l → valence l q ≡ 4 → Ordinary l q
  fan_of_two : boundary_from quads l q < length l → valence l q ≡ 2 → Ordinary l q

-- h is an inner half-edge between ordinary vertices
pub record OrdinaryEnds (l : List ℕ) (h : ℕ) : Type 0 where
  pub lt : h < length l
  pub inner : mate quads l h < length l
  pub start : Ordinary l (from l h)
  pub end : Ordinary l (to quads l h)

-- what the virtual point on an inner edge h is at an ordinary vertex P that h leaves for Q: the neighbour straight across, or Q mirrored at P where there is none
unfoldable pub straight : List ℕ → (ℕ → ℤ) → ℕ → ℤ
straight l p h =
    cond (ltb (boundary_from quads l (from l h)) (length l)) (mirror (p (from l h)) (p (to quads l h)))
    (p (to quads l (turns quads l 2 h)))

-- the point on the edge of h over the scale: a boundary edge always, an inner edge where both its ends are ordinary
unfoldable pub ordinary_value : Weights → List ℕ → (ℕ → ℤ) → ℕ → EdgeRule → ℤ
ordinary_value w l p h inside_segment = interior w (p (from l (back quads l h))) (p (from l h)) (p (to quads l h)) (p (to quads l (along quads l h)))
ordinary_value w l p h start_of_segment = end_edge w (p (from l h)) (p (to quads l h)) (p (to quads l (along quads l h)))
ordinary_value w l p h end_of_segment = end_edge w (p (to quads l h)) (p (from l h)) (p (from l (back quads l h)))
ordinary_value w l p h whole_segment = single_edge w (p (from l h)) (p (to quads l h))
ordinary_value w l p h inner_rule = interior w (straight l p h) (p (from l h)) (p (to quads l h)) (straight l p (mate quads l h))

unfoldable pub ordinary_edge : Weights → List ℕ → List ℕ → (ℕ → ℤ) → ℕ → ℤ
ordinary_edge w l marks p h = ordinary_value w l p h (edge_rule l marks h)
