-- The points of a round in fractions are those in whole numbers, over the common denominators: at any weights, at every half-edge and every face of a
-- manifold net.
use mathlib.Core.Path.{◌≡◌, refl, ◌∙◌}
use mathlib.Core.Bool.{Bool, true, false, cond}
use mathlib.Core.List.{List}
use Prim.Native.Nat.{ℕ, suc, ◌+◌, ◌-◌, ◌*◌, ◌%◌, ◌≤◌, ◌<◌}
use native.Mathlib.Decide.{dec_lt}
use native.Mathlib.Nat.{mul_comm}
use native.Mathlib.Omega.{arith}
use lib.Dec.{eqb, ltb}
use lib.IntN.{ℤ, pos, ◌*ℤ◌}
use lib.ListN.{length}
use borrow.Author.Tests.{ltb-true, ltb-false, eqb-false, lt-ltb, le-ltb}
use Rattle.curve.specs.Weights.{Weights, scale}
use Rattle.fractions.specs.Fraction.{Fraction, whole, Equals}
use Rattle.fractions.proofs.Laws.{equals_cong, equals_scaled}
use Rattle.rings.specs.Ring.{wrap}
use Rattle.rings.specs.Scales.{extrapolated_scale, virtual_scale, edge_scale, direction_scale, face_scale}
use Rattle.rings.proofs.Ties.{equals_numerator}
use Rattle.rules.specs.Rules.{inner_edge}
use Rattle.rules.specs.Numerators.{inner_edge_z}
use Rattle.rules.proofs.Ties.{whole_over, equals_interior, equals_end, equals_single, whole-interior, whole_end, whole_single, equals_inner, equals_mean, equals_extrapolated, equals_extrapolated-corner}
use Rattle.topology.specs.Shape.{quads}
use Rattle.topology.specs.HalfEdge.{from, to, mate}
use Rattle.topology.specs.Boundary.{boundary_from, along, back}
use Rattle.topology.specs.Vertex.{valence, turns}
use Rattle.topology.specs.Manifold.{Manifold}
use Rattle.topology.proofs.Shape.{face_prev}
use Rattle.scheme.specs.Rings.{extrapolated_at, fan_neighbour, fan_corner, ring_virtual, fan_virtual, virtual_at}
use Rattle.topology.specs.Quads.{opposite_corner, fan_end, fan_place, across, beyond}
use Rattle.nets.specs.Net.{marked}
use Rattle.scheme.specs.Points.{EdgeRule, inside_segment, start_of_segment, end_of_segment, whole_segment, inner_rule, edge_rule, edge_value, edge_point, direction, FaceRule, first_alone, second_alone, both_inner, neither_inner, face_rule, face_value, face_point}
use Rattle.schemelaws.specs.Ordinary.{ordinary_value, ordinary_edge}
use Rattle.schemelaws.specs.Agreement.{SideOf}
use Rattle.schemelaws.specs.Numerators.{extrapolated_at_z, fan_neighbour_z, fan_corner_z, ring_neighbour_z, ring_corner_z, ring_virtual_z, fan_virtual_z, virtual_at_z, edge_value_z, edge_z, direction_z, face_value_z, face_z}
use Rattle.schemelaws.proofs.Vertices.{fan_at, fan_le, first_end, last_end, ring_ge, ring_le}

-- a choice is tied where both its sides are
equals_cond : (b : Bool) {x y : Fraction} {z w : ℤ} {d : ℕ} → (b ≡ true → Equals x z d) → (b ≡ false → Equals y w d) → Equals (cond b x y) (cond b z w) d
equals_cond true f g = f refl
equals_cond false f g = g refl

-- ---- a boundary vertex, over `extrapolated_scale`
module _ (v : ℕ) (l : List ℕ) (ok : Manifold quads v l) (p : ℕ → ℤ) where
  module _ (P : ℕ) (b : boundary_from quads l P < length l) where
    equals_extrapolated_at : Equals (extrapolated_at l p P) (extrapolated_at_z l p P) extrapolated_scale
    unfolding extrapolated_at extrapolated_at_z
    equals_extrapolated_at =
        let s = (fan_at v l ok P b).some in
        let t = fan_le v l ok P b in
        equals_cond (eqb (valence l P) 1) (λ e. equals_extrapolated-corner (p P) (p (opposite_corner l (boundary_from quads l P))))
        (λ e. let k : valence l P ≡ 1 → ⊥ = eqb-false (valence l P) 1 e in equals_extrapolated (p P) (valence l P - 1) (λ (i : ℕ). p (fan_end l (boundary_from quads l P) (suc i))) (omega arith) (omega arith))

    pub equals_fan_neighbour : (i : ℕ) → Equals (fan_neighbour l p P i) (fan_neighbour_z l p P i) extrapolated_scale
    unfolding fan_neighbour fan_neighbour_z
    equals_fan_neighbour i = equals_cond (eqb i (valence l P + 1)) (λ e. equals_extrapolated_at) (λ e. whole_over extrapolated_scale (p (fan_end l (boundary_from quads l P) i)))

  module _ (P : ℕ) (b : boundary_from quads l P < length l) where
    pub equals_fan_corner : (i : ℕ) → Equals (fan_corner l p P i) (fan_corner_z l p P i) extrapolated_scale
    unfolding fan_corner fan_corner_z
    equals_fan_corner i =
        equals_cond (eqb i (valence l P)) (λ e. equals_extrapolated_at (fan_end l (boundary_from quads l P) (valence l P)) (last_end v l ok P b))
        (λ e. equals_cond (eqb i (valence l P + 1)) (λ f. equals_extrapolated_at (fan_end l (boundary_from quads l P) 0) (first_end v l ok P b))
        (λ f. whole_over extrapolated_scale (p (opposite_corner l (turns quads l i (boundary_from quads l P))))))

-- ---- virtual points, over `virtual_scale`
module _ (w : Weights) (near : 0 < w.near) (v : ℕ) (l : List ℕ) (ok : Manifold quads v l) (p : ℕ → ℤ) where
  equals_fan_virtual : (h : ℕ) → boundary_from quads l (from l h) < length l → Equals (fan_virtual w l p h) (fan_virtual_z w l p h) (virtual_scale w)
  unfolding fan_virtual fan_virtual_z
  equals_fan_virtual h b =
      let P : ℕ = from l h in
      let n : ℕ = valence l P + 2 in
      let s = (fan_at v l ok P b).some in
      let t = fan_le v l ok P b in
      equals_numerator w n (omega arith) (omega arith) near (wrap n (fan_neighbour l p P)) (wrap n (fan_corner l p P)) (wrap n (fan_neighbour_z l p P)) (wrap n (fan_corner_z l p P))
      (λ i. equals_fan_neighbour v l ok p P b (i % n)) (λ i. equals_fan_corner v l ok p P b (i % n)) (fan_place l P h)

  equals_ring_virtual : (h : ℕ) → h < length l → length l ≤ boundary_from quads l (from l h) → Equals (ring_virtual w l p h) (ring_virtual_z w l p h) (virtual_scale w)
  unfolding ring_virtual ring_virtual_z ring_neighbour_z ring_corner_z
  equals_ring_virtual h k b =
      equals_numerator w (valence l (from l h)) (ring_ge v l ok h k b) (ring_le v l ok h k b) near (λ (i : ℕ). whole (p (to quads l (turns quads l i h)))) (λ (i : ℕ). whole (p (opposite_corner l (turns quads l i h)))) (ring_neighbour_z l p h) (ring_corner_z l p h)
      (λ i. whole_over extrapolated_scale (p (to quads l (turns quads l i h)))) (λ i. whole_over extrapolated_scale (p (opposite_corner l (turns quads l i h)))) 0

  pub equals_virtual_at : (h : ℕ) → h < length l → Equals (virtual_at w l p h) (virtual_at_z w l p h) (virtual_scale w)
  unfolding virtual_at virtual_at_z
  equals_virtual_at h k =
      let b : ℕ = boundary_from quads l (from l h) in
      equals_cond (ltb b (length l)) (λ e. equals_fan_virtual h (ltb-true b (length l) e)) (λ e. equals_ring_virtual h k (ltb-false b (length l) e))

-- ---- edge points
-- the inner rule is that of half-edges with a mate
outer : (a b : Bool) → cond a (cond b whole_segment start_of_segment) (cond b end_of_segment inside_segment) ≡ inner_rule → ⊥
outer true true e = let z : ◌≡◌ {A = ℕ} 0 1 = cc in omega arith
outer true false e = let z : ◌≡◌ {A = ℕ} 0 1 = cc in omega arith
outer false true e = let z : ◌≡◌ {A = ℕ} 0 1 = cc in omega arith
outer false false e = let z : ◌≡◌ {A = ℕ} 0 1 = cc in omega arith

module _ (l marks : List ℕ) (h : ℕ) where
  pub rule_inner : edge_rule l marks h ≡ inner_rule → mate quads l h < length l
  unfolding edge_rule
  rule_inner = go (dec_lt (mate quads l h) (length l))
    where
      go : Dec (mate quads l h < length l) → edge_rule l marks h ≡ inner_rule → mate quads l h < length l
      go (yes m) e = m
      go (no m) e =
          let t = le-ltb (mate quads l h) (length l) (omega arith) in
          absurd (outer (marked marks (from l h)) (marked marks (to quads l h)) (rw t at e))

  pub inner_rule_lem : mate quads l h < length l → edge_rule l marks h ≡ inner_rule
  unfolding edge_rule
  inner_rule_lem m = let t = lt-ltb (mate quads l h) (length l) m in rw t

-- a boundary edge has its point over the scale
module _ (w : Weights) (l marks : List ℕ) (p : ℕ → ℤ) (h : ℕ) (none : mate quads l h < length l → ⊥) where
  pub edge_boundary : edge_z w l marks p h ≡ pos (virtual_scale w) *ℤ ordinary_edge w l marks p h
  unfolding edge_z edge_value_z ordinary_edge
  edge_boundary = by (edge_rule l marks h) (λ e. none (rule_inner l marks h e))
    where
      by : (r : EdgeRule) → (r ≡ inner_rule → ⊥) → edge_value_z w l p h r ≡ pos (virtual_scale w) *ℤ ordinary_value w l p h r
      by inside_segment f = refl
      by start_of_segment f = refl
      by end_of_segment f = refl
      by whole_segment f = refl
      by inner_rule f = absurd (f refl)

  pub equals_boundary : 0 < scale w → Equals (edge_point w l marks p h) (ordinary_edge w l marks p h) (scale w)
  unfolding edge_point ordinary_edge edge_value ordinary_value
  equals_boundary some = by (edge_rule l marks h) (λ e. none (rule_inner l marks h e))
    where
      by : (r : EdgeRule) → (r ≡ inner_rule → ⊥) → Equals (edge_value w l p h r) (ordinary_value w l p h r) (scale w)
      by inside_segment f = whole-interior w some (p (from l (back quads l h))) (p (from l h)) (p (to quads l h)) (p (to quads l (along quads l h)))
      by start_of_segment f = whole_end w some (p (from l h)) (p (to quads l h)) (p (to quads l (along quads l h)))
      by end_of_segment f = whole_end w some (p (to quads l h)) (p (from l h)) (p (from l (back quads l h)))
      by whole_segment f = whole_single w some (p (from l h)) (p (to quads l h))
      by inner_rule f = absurd (f refl)

-- an inner edge between its virtual points
module _ (w : Weights) (l marks : List ℕ) (p : ℕ → ℤ) (h : ℕ) (m : mate quads l h < length l) where
  pub edge-inner : edge_z w l marks p h ≡ inner_edge_z w (p (from l h)) (p (to quads l h)) (virtual_at_z w l p h) (virtual_at_z w l p (mate quads l h))
  unfolding edge_z edge_value_z
  edge-inner = rw (inner_rule_lem l marks h m)

  pub point_inner : edge_point w l marks p h ≡ inner_edge w (whole (p (from l h))) (whole (p (to quads l h))) (virtual_at w l p h) (virtual_at w l p (mate quads l h))
  unfolding edge_point edge_value
  point_inner = rw (inner_rule_lem l marks h m)

-- from over the scale to over `edge_scale`
pub edge_scaled : (w : Weights) {x : Fraction} {z : ℤ} → Equals x z (scale w) → Equals x (pos (virtual_scale w) *ℤ z) (edge_scale w)
edge_scaled w i = equals_cong refl (mul_comm (virtual_scale w) (scale w)) (equals_scaled (virtual_scale w) i)

module _ (w : Weights) (near : 0 < w.near) (apart : 0 < scale w) (v : ℕ) (l marks : List ℕ) (ok : Manifold quads v l) (p : ℕ → ℤ) where
  pub equals_edge : (h : ℕ) → h < length l → Equals (edge_point w l marks p h) (edge_z w l marks p h) (edge_scale w)
  equals_edge h k = go (dec_lt (mate quads l h) (length l))
    where
      go : Dec (mate quads l h < length l) → Equals (edge_point w l marks p h) (edge_z w l marks p h) (edge_scale w)
      go (yes m) =
          rw (point_inner w l marks p h m, edge-inner w l marks p h m)
          (equals_inner w apart (p (from l h)) (p (to quads l h)) (equals_virtual_at w near v l ok p h k) (equals_virtual_at w near v l ok p (mate quads l h) m))
      go (no m) = rw (edge_boundary w l marks p h m) (edge_scaled w (equals_boundary w l marks p h m apart))

-- ---- the sides of a face
pub across_lt : (v : ℕ) (l : List ℕ) → Manifold quads v l → (h : ℕ) → h < length l → across h < length l
unfolding across
across_lt v l ok h k = ok.oriented.shape.next_lt (quads.next h) (ok.oriented.shape.next_lt h k)

-- the first two sides of a face
pub side₀_lt : (l : List ℕ) (f : ℕ) → f < quads.faces (length l) → 4 * f < length l
unfolding quads
side₀_lt l f k = omega arith

pub side₁_lt : (l : List ℕ) (f : ℕ) → f < quads.faces (length l) → 4 * f + 1 < length l
unfolding quads
side₁_lt l f k = omega arith

module _ (l : List ℕ) (f : ℕ) (k : f < quads.faces (length l)) where
  pub side₀ : SideOf l f (4 * f)
  side₀ = record { lt = side₀_lt l f k; face = unfold quads in omega arith }

  side₁ : SideOf l f (4 * f + 1)
  side₁ = record { lt = side₁_lt l f k; face = unfold quads in omega arith }

module _ (v : ℕ) (l : List ℕ) (ok : Manifold quads v l) (f h : ℕ) (s : SideOf l f h) where
  pub next_side : SideOf l f (quads.next h)
  next_side = record { lt = ok.oriented.shape.next_lt h s.lt; face = ok.oriented.shape.face_next h ∙ s.face }

  pub prev_side : SideOf l f (quads.prev h)
  prev_side = record { lt = ok.oriented.shape.prev_lt h s.lt; face = face_prev quads (length l) ok.oriented.shape h ∙ s.face }

across-side : (v : ℕ) (l : List ℕ) (ok : Manifold quads v l) (f h : ℕ) → SideOf l f h → SideOf l f (across h)
unfolding across
across-side v l ok f h s = next_side v l ok f (quads.next h) (next_side v l ok f h s)

-- ---- tied at the edges of one face
module _ (w : Weights) (apart : 0 < scale w) (v : ℕ) (l : List ℕ) (ok : Manifold quads v l) (f : ℕ) (e : ℕ → Fraction) (E : ℕ → ℤ) (D : ℕ)
    (side : (g : ℕ) → SideOf l f g → Equals (e g) (E g) D) (further : (g : ℕ) → SideOf l f g → mate quads l g < length l → Equals (e (beyond l g)) (E (beyond l g)) D) where
  tied_direction : (h : ℕ) → SideOf l f h → Equals (direction w l e h) (direction_z w l E h) (scale w * D)
  unfolding direction direction_z
  tied_direction h s =
      let g : ℕ = across h in
      let u = across-side v l ok f h s in
      let b₀ : ltb (mate quads l h) (length l) ≡ true → Equals (e (beyond l h)) (E (beyond l h)) D = λ t. further h s (ltb-true (mate quads l h) (length l) t) in
      let b₁ : ltb (mate quads l g) (length l) ≡ true → Equals (e (beyond l g)) (E (beyond l g)) D = λ t. further g u (ltb-true (mate quads l g) (length l) t) in
      equals_cond (ltb (mate quads l h) (length l))
      (λ t. equals_cond (ltb (mate quads l g) (length l)) (λ r. equals_interior w apart (b₀ t) (side h s) (side g u) (b₁ r)) (λ r. equals_end w apart (side g u) (side h s) (b₀ t)))
      (λ t. equals_cond (ltb (mate quads l g) (length l)) (λ r. equals_end w apart (side h s) (side g u) (b₁ r)) (λ r. equals_single w apart (side h s) (side g u)))

  tied_face : f < quads.faces (length l) → (r : FaceRule) → Equals (face_value w l e f r) (face_value_z w l E f r) (2 * (scale w * D))
  unfolding face_value face_value_z
  tied_face k first_alone = equals_scaled 2 (tied_direction (4 * f) (side₀ l f k))
  tied_face k second_alone = equals_scaled 2 (tied_direction (4 * f + 1) (side₁ l f k))
  tied_face k both_inner = equals_mean (tied_direction (4 * f) (side₀ l f k)) (tied_direction (4 * f + 1) (side₁ l f k))
  tied_face k neither_inner = equals_mean (tied_direction (4 * f) (side₀ l f k)) (tied_direction (4 * f + 1) (side₁ l f k))

-- ---- tied at all edges
module _ (w : Weights) (near : 0 < w.near) (apart : 0 < scale w) (v : ℕ) (l marks : List ℕ) (ok : Manifold quads v l) (p : ℕ → ℤ) where
  further : (g : ℕ) → mate quads l g < length l → Equals (edge_point w l marks p (beyond l g)) (edge_z w l marks p (beyond l g)) (edge_scale w)
  unfolding beyond
  further g m = equals_edge w near apart v l marks ok p (across (mate quads l g)) (across_lt v l ok (mate quads l g) m)

  pub equals_direction : (h : ℕ) → h < length l → Equals (direction w l (edge_point w l marks p) h) (direction_z w l (edge_z w l marks p) h) (direction_scale w)
  equals_direction h k =
      tied_direction w apart v l ok (quads.face h) (edge_point w l marks p) (edge_z w l marks p) (edge_scale w)
      (λ g s. equals_edge w near apart v l marks ok p g s.lt) (λ g s m. further g m) h (record { lt = k; face = refl })

  pub equals_face : (f : ℕ) → f < quads.faces (length l) → Equals (face_point w l marks p f) (face_z w l (edge_z w l marks p) f) (face_scale w)
  unfolding face_point face_z
  equals_face f k =
      tied_face w apart v l ok f (edge_point w l marks p) (edge_z w l marks p) (edge_scale w)
      (λ g s. equals_edge w near apart v l marks ok p g s.lt) (λ g s m. further g m) k (face_rule l f)
