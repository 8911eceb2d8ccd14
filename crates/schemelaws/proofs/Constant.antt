-- A round is constant on constants: where every vertex has the coordinate c, so have all virtual, edge and face points, in numerators over the common
-- denominators. At any weights for virtual points; the end rule asks that the far weight is at most half of the near one.
use mathlib.Core.Path.{◌≡◌, refl, ap, ap₂, ◌∙◌}
use mathlib.Core.Bool.{true, cond}
use mathlib.Core.List.{List, [], ◌∷◌}
use Prim.Native.Nat.{ℕ, ◌+◌, ◌-◌, ◌*◌, ◌%◌, ◌≤◌, ◌<◌}
use native.Mathlib.Omega.{arith}
use lib.Dec.{eqb, ltb}
use lib.IntN.{ℤ, pos, ◌+ℤ◌, ◌*ℤ◌}
use lib.ListN.{length}
use borrow.Author.Tests.{ltb-true, ltb-false, eqb-false}
use Rattle.search.proofs.Tests.{cond_elim}
use Rattle.integers.proofs.Polynomial.{var, lit, ◌⊞◌, ◌⊠◌, same}
use Rattle.curve.specs.Weights.{Weights, scale, interior, end_edge, single_edge}
use Rattle.rings.specs.Ring.{wrap}
use Rattle.rings.specs.RingWeights.{virtual_numerator}
use Rattle.rings.specs.Scales.{extrapolated_scale, virtual_scale, edge_scale}
use Rattle.rings.proofs.Ties.{numerator_constant}
use Rattle.rules.specs.Numerators.{extrapolated_z, extrapolated_corner_z, inner_edge_z}
use Rattle.rules.proofs.Norm.{interior_constant, end_constant, single_constant, extrapolated_constant, extrapolated-corner_constant, inner_constant}
use Rattle.topology.specs.Shape.{quads}
use Rattle.topology.specs.HalfEdge.{from, mate}
use Rattle.topology.specs.Boundary.{boundary_from}
use Rattle.topology.specs.Vertex.{valence}
use Rattle.topology.specs.Manifold.{Manifold}
use Rattle.topology.specs.Quads.{fan_end, fan_place, across, beyond}
use Rattle.scheme.specs.Points.{EdgeRule, inside_segment, start_of_segment, end_of_segment, whole_segment, inner_rule, edge_rule, FaceRule, first_alone, second_alone, both_inner, neither_inner, face_rule}
use Rattle.schemelaws.specs.Ordinary.{ordinary_value}
use Rattle.schemelaws.specs.Numerators.{extrapolated_at_z, fan_neighbour_z, fan_corner_z, ring_neighbour_z, ring_corner_z, ring_virtual_z, fan_virtual_z, virtual_at_z, edge_value_z, edge_z, direction_z, face_value_z, face_z}
use Rattle.schemelaws.proofs.Vertices.{fan_at, fan_le, first_end, last_end, ring_ge, ring_le}
use Rattle.schemelaws.proofs.Ties.{rule_inner, across_lt, side₀_lt, side₁_lt}

module _ (v : ℕ) (l : List ℕ) (ok : Manifold quads v l) (c : ℤ) where
  module _ (P : ℕ) (b : boundary_from quads l P < length l) where
    pub extrapolated_at_constant : extrapolated_at_z l (λ (x : ℕ). c) P ≡ pos extrapolated_scale *ℤ c
    unfolding extrapolated_at_z
    extrapolated_at_constant =
        let s = (fan_at v l ok P b).some in
        let t = fan_le v l ok P b in
        cond_elim (λ (z : ℤ). z ≡ pos extrapolated_scale *ℤ c) (eqb (valence l P) 1) (extrapolated_corner_z c c) (extrapolated_z c (valence l P - 1) (λ (i : ℕ). c))
        (λ e. extrapolated-corner_constant c) (λ e. let k : valence l P ≡ 1 → ⊥ = eqb-false (valence l P) 1 e in extrapolated_constant c (valence l P - 1) (omega arith) (omega arith))

  module _ (P : ℕ) (b : boundary_from quads l P < length l) where
    pub fan_neighbour_constant : (i : ℕ) → fan_neighbour_z l (λ (x : ℕ). c) P i ≡ pos extrapolated_scale *ℤ c
    unfolding fan_neighbour_z
    fan_neighbour_constant i = cond_elim (λ (z : ℤ). z ≡ pos extrapolated_scale *ℤ c) (eqb i (valence l P + 1)) (extrapolated_at_z l (λ (x : ℕ). c) P) (pos extrapolated_scale *ℤ c) (λ e. extrapolated_at_constant P b) (λ e. refl)

    pub fan_corner_constant : (i : ℕ) → fan_corner_z l (λ (x : ℕ). c) P i ≡ pos extrapolated_scale *ℤ c
    unfolding fan_corner_z
    fan_corner_constant i =
        let b₀ : ℕ = fan_end l (boundary_from quads l P) 0 in
        let c₀ : ℕ = fan_end l (boundary_from quads l P) (valence l P) in
        cond_elim (λ (z : ℤ). z ≡ pos extrapolated_scale *ℤ c) (eqb i (valence l P)) (extrapolated_at_z l (λ (x : ℕ). c) c₀) (cond (eqb i (valence l P + 1)) (extrapolated_at_z l (λ (x : ℕ). c) b₀) (pos extrapolated_scale *ℤ c))
        (λ e. extrapolated_at_constant c₀ (last_end v l ok P b))
        (λ e. cond_elim (λ (z : ℤ). z ≡ pos extrapolated_scale *ℤ c) (eqb i (valence l P + 1)) (extrapolated_at_z l (λ (x : ℕ). c) b₀) (pos extrapolated_scale *ℤ c) (λ f. extrapolated_at_constant b₀ (first_end v l ok P b)) (λ f. refl))

module _ (w : Weights) (v : ℕ) (l : List ℕ) (ok : Manifold quads v l) (c : ℤ) where
  fan_all : (h : ℕ) → boundary_from quads l (from l h) < length l → fan_virtual_z w l (λ (x : ℕ). c) h ≡ pos (virtual_scale w) *ℤ c
  unfolding fan_virtual_z
  fan_all h b =
      let P : ℕ = from l h in
      let n : ℕ = valence l P + 2 in
      let s = (fan_at v l ok P b).some in
      let t = fan_le v l ok P b in
      let e : wrap n (fan_neighbour_z l (λ (x : ℕ). c) P) ≡ (λ (i : ℕ). pos extrapolated_scale *ℤ c) = λ y i. fan_neighbour_constant v l ok c P b (i % n) y in
      let f : wrap n (fan_corner_z l (λ (x : ℕ). c) P) ≡ (λ (i : ℕ). pos extrapolated_scale *ℤ c) = λ y i. fan_corner_constant v l ok c P b (i % n) y in
      ap₂ (λ (x y : ℕ → ℤ). virtual_numerator w n x y (fan_place l P h)) e f ∙ numerator_constant w n (omega arith) (omega arith) c (fan_place l P h)

  pub virtual_at_constant : (h : ℕ) → h < length l → virtual_at_z w l (λ (x : ℕ). c) h ≡ pos (virtual_scale w) *ℤ c
  unfolding virtual_at_z ring_virtual_z ring_neighbour_z ring_corner_z
  virtual_at_constant h k =
      let b : ℕ = boundary_from quads l (from l h) in
      cond_elim (λ (z : ℤ). z ≡ pos (virtual_scale w) *ℤ c) (ltb b (length l)) (fan_virtual_z w l (λ (x : ℕ). c) h) (virtual_numerator w (valence l (from l h)) (λ (i : ℕ). pos extrapolated_scale *ℤ c) (λ (i : ℕ). pos extrapolated_scale *ℤ c) 0)
      (λ e. fan_all h (ltb-true b (length l) e))
      (λ e. let g = ltb-false b (length l) e in numerator_constant w (valence l (from l h)) (ring_ge v l ok h k g) (ring_le v l ok h k g) c 0)

  module _ (end : 2 * w.far ≤ w.near) where
    inside : w.far ≤ w.near
    inside = omega arith

    scaled : (z : ℤ) → z ≡ pos (scale w) *ℤ c → pos (virtual_scale w) *ℤ z ≡ pos (edge_scale w) *ℤ c
    scaled z e = ap (λ (t : ℤ). pos (virtual_scale w) *ℤ t) e ∙ same (var 0 ⊠ (var 1 ⊠ var 2)) (var 1 ⊠ var 0 ⊠ var 2) (pos (virtual_scale w) ∷ pos (scale w) ∷ c ∷ []) refl

    value_all : (h : ℕ) → h < length l → (r : EdgeRule) → (r ≡ inner_rule → mate quads l h < length l) → edge_value_z w l (λ (x : ℕ). c) h r ≡ pos (edge_scale w) *ℤ c
    unfolding edge_value_z ordinary_value
    value_all h k inside_segment f = scaled (interior w c c c c) (interior_constant w c inside)
    value_all h k start_of_segment f = scaled (end_edge w c c c) (end_constant w c end)
    value_all h k end_of_segment f = scaled (end_edge w c c c) (end_constant w c end)
    value_all h k whole_segment f = scaled (single_edge w c c) (single_constant w c)
    value_all h k inner_rule f = ap₂ (λ (x y : ℤ). inner_edge_z w c c x y) (virtual_at_constant h k) (virtual_at_constant (mate quads l h) (f refl)) ∙ inner_constant w inside c

    pub edge_constant : (marks : List ℕ) (h : ℕ) → h < length l → edge_z w l marks (λ (x : ℕ). c) h ≡ pos (edge_scale w) *ℤ c
    unfolding edge_z
    edge_constant marks h k = value_all h k (edge_rule l marks h) (rule_inner l marks h)

-- from edge points that are all c
module _ (w : Weights) (end : 2 * w.far ≤ w.near) (v : ℕ) (l : List ℕ) (ok : Manifold quads v l) (e : ℕ → ℤ) (c : ℤ) (const : (h : ℕ) → h < length l → e h ≡ c) where
  pub direction_constant : (h : ℕ) → h < length l → direction_z w l e h ≡ pos (scale w) *ℤ c
  unfolding direction_z beyond
  direction_constant h k =
      let g : ℕ = across h in
      let less : w.far ≤ w.near = omega arith in
      let P : ℤ → Type 0 = λ z. z ≡ pos (scale w) *ℤ c in
      let eh = const h k in
      let eg = const g (across_lt v l ok h k) in
      let far : (i : ℕ) → ltb (mate quads l i) (length l) ≡ true → e (across (mate quads l i)) ≡ c =
      λ i t. const (across (mate quads l i)) (across_lt v l ok (mate quads l i) (ltb-true (mate quads l i) (length l) t)) in
      let x : ℤ = e (across (mate quads l h)) in
      let y : ℤ = e (across (mate quads l g)) in
      cond_elim P (ltb (mate quads l h) (length l)) (cond (ltb (mate quads l g) (length l)) (interior w x (e h) (e g) y) (end_edge w (e g) (e h) x))
      (cond (ltb (mate quads l g) (length l)) (end_edge w (e h) (e g) y) (single_edge w (e h) (e g)))
      (λ s. cond_elim P (ltb (mate quads l g) (length l)) (interior w x (e h) (e g) y) (end_edge w (e g) (e h) x)
      (λ t. rw (far h s, eh, eg, far g t) (interior_constant w c less)) (λ t. rw (far h s, eh, eg) (end_constant w c end)))
      (λ s. cond_elim P (ltb (mate quads l g) (length l)) (end_edge w (e h) (e g) y) (single_edge w (e h) (e g)) (λ t. rw (eh, eg, far g t) (end_constant w c end)) (λ t. rw (eh, eg) (single_constant w c)))

  twice : (x : ℤ) → x ≡ pos (scale w) *ℤ c → pos 2 *ℤ x ≡ pos (2 * scale w) *ℤ c
  twice x i = ap (λ (t : ℤ). pos 2 *ℤ t) i ∙ same (lit (pos 2) ⊠ (var 0 ⊠ var 1)) (lit (pos 2) ⊠ var 0 ⊠ var 1) (pos (scale w) ∷ c ∷ []) refl

  both : (x y : ℤ) → x ≡ pos (scale w) *ℤ c → y ≡ pos (scale w) *ℤ c → x +ℤ y ≡ pos (2 * scale w) *ℤ c
  both x y i j = ap₂ ◌+ℤ◌ i j ∙ same (var 0 ⊠ var 1 ⊞ var 0 ⊠ var 1) (lit (pos 2) ⊠ var 0 ⊠ var 1) (pos (scale w) ∷ c ∷ []) refl

  face_value_all : (f : ℕ) → f < quads.faces (length l) → (r : FaceRule) → face_value_z w l e f r ≡ pos (2 * scale w) *ℤ c
  unfolding face_value_z
  face_value_all f k first_alone = twice (direction_z w l e (4 * f)) (direction_constant (4 * f) (side₀_lt l f k))
  face_value_all f k second_alone = twice (direction_z w l e (4 * f + 1)) (direction_constant (4 * f + 1) (side₁_lt l f k))
  face_value_all f k both_inner = both (direction_z w l e (4 * f)) (direction_z w l e (4 * f + 1)) (direction_constant (4 * f) (side₀_lt l f k)) (direction_constant (4 * f + 1) (side₁_lt l f k))
  face_value_all f k neither_inner = both (direction_z w l e (4 * f)) (direction_z w l e (4 * f + 1)) (direction_constant (4 * f) (side₀_lt l f k)) (direction_constant (4 * f + 1) (side₁_lt l f k))

  pub face_z_constant : (f : ℕ) → f < quads.faces (length l) → face_z w l e f ≡ pos (2 * scale w) *ℤ c
  unfolding face_z
  face_z_constant f k = face_value_all f k (face_rule l f)
