-- A net on which the law of both directions says something: three by three squares closed up both ways, where every vertex has a full ring of four; and its
-- numerators, computed. Assumes nothing.
use mathlib.Core.Path.{◌≡◌, refl, subst}
use mathlib.Core.Bool.{Bool, true, false, cond, not, ◌&&◌}
use mathlib.Core.List.{List, [], ◌∷◌}
use Prim.Native.Nat.{ℕ, ◌<◌}
use native.Mathlib.Omega.{arith}
use lib.Dec.{T, eqb, ltb, eqb→eq, ltb→lt}
use lib.IntN.{ℤ, pos, ◌*ℤ◌}
use borrow.Author.Tests.{eq-eqb}
use Rattle.lists.proofs.Table.{both_parts, every_below, below_at}
use Rattle.search.specs.Search.{first_from, first, count, iterate}
use Rattle.search.proofs.Tests.{and_on}
use Rattle.integers.specs.Sum.{sum}
use Rattle.curve.specs.Weights.{kobbelt}
use Rattle.rings.specs.RingWeights.{virtual_z}
use Rattle.nets.specs.Net.{marked}
use Rattle.topology.specs.Shape.{quads}
use Rattle.topology.specs.HalfEdge.{from, to, opposed, mate}
use Rattle.topology.specs.Boundary.{is_boundary_from, boundary_from}
use Rattle.topology.specs.Vertex.{leaves, valence, turn}
use Rattle.topology.specs.Quads.{opposite_corner, across, beyond}
use Rattle.scheme.specs.Points.{edge_rule, inner, four_inner, face_rule}
use Rattle.schemelaws.specs.Agreement.{Inside, Regular}
use Rattle.schemelaws.specs.Ordinary.{straight, ordinary_value, ordinary_edge}
use Rattle.schemelaws.specs.Numerators.{ring_neighbour_z, ring_corner_z, ring_virtual_z, virtual_at_z, edge_value_z, edge_z, direction_z, face_value_z, face_z}

abbrev torus : List ℕ
torus =
    0 ∷ 1 ∷ 4 ∷ 3 ∷ 1 ∷ 2 ∷ 5 ∷ 4 ∷ 2 ∷ 0 ∷ 3 ∷ 5 ∷ 3 ∷ 4 ∷ 7 ∷ 6 ∷ 4 ∷ 5 ∷ 8 ∷ 7 ∷ 5 ∷ 3 ∷ 6 ∷ 8 ∷ 6 ∷ 7 ∷ 1 ∷ 0 ∷ 7 ∷ 8 ∷ 2 ∷ 1 ∷ 8 ∷ 6 ∷ 0 ∷ 2 ∷ []

-- each vertex lies inside and has four faces
full : ℕ → Bool
full q = eqb (boundary_from quads torus q) 36 && eqb (valence torus q) 4

all_full : T (every_below 9 full)
unfolding full first_from first count quads from to opposed mate is_boundary_from boundary_from leaves valence
all_full = tt

-- all vertices are below 9
below : ℕ → Bool
below h = ltb (to quads torus h) 9

all_below : T (every_below 36 below)
unfolding below quads from to
all_below = tt

-- no half-edge h joins the corner of g to the opposite one
joined : ℕ → ℕ → Bool
joined g h = eqb (from torus h) (from torus g) && eqb (to quads torus h) (opposite_corner torus g)

none_joined : T (every_below 4 (λ g. every_below 36 (λ h. not (joined g h))))
unfolding joined quads from to opposite_corner
none_joined = tt

inside : (q : ℕ) → q < 9 → Inside torus q
unfolding full
inside q b = eqb→eq (boundary_from quads torus q) 36 (both_parts (eqb (boundary_from quads torus q) 36) (eqb (valence torus q) 4) (below_at 9 full all_full q b)).0

four : (q : ℕ) → q < 9 → valence torus q ≡ 4
unfolding full
four q b = eqb→eq (valence torus q) 4 (both_parts (eqb (boundary_from quads torus q) 36) (eqb (valence torus q) 4) (below_at 9 full all_full q b)).1

to_below : (h : ℕ) → h < 36 → to quads torus h < 9
unfolding below
to_below h b = ltb→lt (to quads torus h) 9 (below_at 36 below all_below h b)

from_below : (h : ℕ) → h < 36 → from torus h < 9
unfolding to
from_below h b = let e = next_prev h in subst (λ (g : ℕ). from torus g < 9) e (to_below (quads.prev h) (prev_lt h b))
  where
    next_prev : (h : ℕ) → quads.next (quads.prev h) ≡ h
    next_prev h = unfold quads in omega arith

    prev_lt : (h : ℕ) → h < 36 → quads.prev h < 36
    prev_lt h b = unfold quads in omega arith

-- so its first face meets the hypotheses
pub torus_regular : Regular torus 0
unfolding joined
torus_regular = record {
  corners = λ g s. inside (from torus g) (from_below g s.lt);
  neighbours = λ g h s e. inside (to quads torus h) (to_below h e.lt);
  four = λ g h s e c. four (to quads torus h) (to_below h e.lt);
  opposite = λ g h s e q. off (joined g h) (and_on _ _ (eq-eqb (from torus h) (from torus g) e.start) (eq-eqb (to quads torus h) (opposite_corner torus g) q))
      (below_at 36 (λ h. not (joined g h)) (below_at 4 (λ g. every_below 36 (λ h. not (joined g h))) none_joined g (first_face g s.face)) h e.lt);
}
  where
    first_face : (g : ℕ) → quads.face g ≡ 0 → g < 4
    first_face g e = unfold quads in omega arith

    off : (b : Bool) → b ≡ true → T (not b) → ⊥
    off true e t = t
    off false e t = let z : ◌≡◌ {A = ℕ} 0 1 = cc in omega arith

-- ---- its numerators at paper 01's weights, where vertex 4 has the coordinate 16 and the others 0
abbrev raised : ℕ → ℤ
raised q = cond (eqb q 4) (pos 16) (pos 0)

abbrev unmarked : List ℕ
unmarked = 0 ∷ 0 ∷ 0 ∷ 0 ∷ 0 ∷ 0 ∷ 0 ∷ 0 ∷ 0 ∷ []

-- the virtual point at vertex 3 on its edge to vertex 5 is vertex 4: 16 over 453,600
torus_virtual : virtual_at_z kobbelt torus raised 10 ≡ pos 453600 *ℤ pos 16
unfolding first_from first count iterate quads from to opposed mate is_boundary_from boundary_from leaves valence turn opposite_corner sum virtual_z ring_neighbour_z ring_corner_z ring_virtual_z virtual_at_z
torus_virtual = refl

-- the point on the edge from vertex 3 to vertex 4: 144 over 16, and 9 over 7,257,600
torus_edge : (ordinary_edge kobbelt torus unmarked raised 12 ≡ pos 144) × (edge_z kobbelt torus unmarked raised 12 ≡ pos 7257600 *ℤ pos 9)
unfolding first_from first count iterate quads from to opposed mate is_boundary_from boundary_from leaves valence turn opposite_corner sum virtual_z ring_neighbour_z ring_corner_z ring_virtual_z virtual_at_z marked edge_rule straight ordinary_value ordinary_edge edge_value_z edge_z
torus_edge = (refl, refl)

-- the point of its face 3: 81/16, over 116,121,600 and 232,243,200
torus_face : (direction_z kobbelt torus (edge_z kobbelt torus unmarked raised) 12 ≡ pos 7257600 *ℤ pos 81) × (face_z kobbelt torus (edge_z kobbelt torus unmarked raised) 3 ≡ pos 14515200 *ℤ pos 81)
unfolding first_from first count iterate quads from to opposed mate is_boundary_from boundary_from leaves valence turn opposite_corner sum virtual_z ring_neighbour_z ring_corner_z ring_virtual_z virtual_at_z marked edge_rule straight ordinary_value ordinary_edge edge_value_z edge_z across beyond inner four_inner face_rule direction_z face_value_z face_z
torus_face = (refl, refl)
