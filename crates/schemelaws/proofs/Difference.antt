-- Every numerator is additive in the points, and those of a face in the edge points: adjacency and marks choose the rule, and each rule is additive. Assumes nothing.
use mathlib.Core.Path.{◌≡◌, refl, ap, ap₂, ◌∙◌}
use mathlib.Core.Bool.{Bool, true, false, cond}
use mathlib.Core.List.{List, [], ◌∷◌}
use Prim.Native.Nat.{ℕ, suc, ◌+◌, ◌-◌, ◌*◌, ◌/◌, ◌%◌}
use lib.Dec.{eqb, ltb}
use lib.IntN.{ℤ, pos, ◌+ℤ◌, ◌-ℤ◌, ◌*ℤ◌}
use lib.ListN.{length}
use Rattle.integers.proofs.Polynomial.{var, ◌⊞◌, ◌⊟◌, ◌⊠◌, same}
use Rattle.curve.specs.Weights.{Weights, interior, end_edge, single_edge}
use Rattle.rings.specs.RingWeights.{virtual_numerator, virtual_z}
use Rattle.rings.specs.Scales.{extrapolated_scale, valence_scale, virtual_scale}
use Rattle.rings.proofs.Virtual.{virtual-sub}
use Rattle.rules.specs.Numerators.{inner_edge_z}
use Rattle.rules.proofs.Norm.{interior-sub, end_sub, single_sub, extrapolated-sub, extrapolated-corner-sub, inner-sub}
use Rattle.topology.specs.Shape.{quads}
use Rattle.topology.specs.HalfEdge.{from, to, mate}
use Rattle.topology.specs.Boundary.{boundary_from, along, back}
use Rattle.topology.specs.Vertex.{valence, turns}
use Rattle.topology.specs.Quads.{opposite_corner, fan_end, fan_place, across, beyond}
use Rattle.scheme.specs.Points.{EdgeRule, inside_segment, start_of_segment, end_of_segment, whole_segment, inner_rule, edge_rule, FaceRule, first_alone, second_alone, both_inner, neither_inner, face_rule}
use Rattle.schemelaws.specs.Ordinary.{ordinary_value}
use Rattle.schemelaws.specs.Numerators.{extrapolated_at_z, fan_neighbour_z, fan_corner_z, ring_neighbour_z, ring_corner_z, ring_virtual_z, fan_virtual_z, virtual_at_z, edge_value_z, edge_z, direction_z, face_value_z, face_z}

-- F takes a difference of points to the difference of its values
pub record Additive (F : (ℕ → ℤ) → ℤ) : Type 0 where
  pub sub : (p q : ℕ → ℤ) → F (λ (x : ℕ). p x -ℤ q x) ≡ F p -ℤ F q

-- ---- a point, a choice, and the rules
point : (x : ℕ) → Additive (λ (p : ℕ → ℤ). p x)
point x = record { sub = λ p q. refl }

either : (b : Bool) {F G : (ℕ → ℤ) → ℤ} → Additive F → Additive G → Additive (λ (p : ℕ → ℤ). cond b (F p) (G p))
either true f g = f
either false f g = g

times : (k : ℕ) {F : (ℕ → ℤ) → ℤ} → Additive F → Additive (λ (p : ℕ → ℤ). pos k *ℤ F p)
times k {F} f = record {
  sub = λ p q. ap (λ (t : ℤ). pos k *ℤ t) (f.sub p q) ∙ same (var 0 ⊠ (var 1 ⊟ var 2)) (var 0 ⊠ var 1 ⊟ var 0 ⊠ var 2) (pos k ∷ F p ∷ F q ∷ []) refl;
}

plus : {A B : (ℕ → ℤ) → ℤ} → Additive A → Additive B → Additive (λ (p : ℕ → ℤ). A p +ℤ B p)
plus {A} {B} a b = record {
  sub = λ p q. ap₂ ◌+ℤ◌ (a.sub p q) (b.sub p q) ∙ same ((var 0 ⊟ var 2) ⊞ (var 1 ⊟ var 3)) ((var 0 ⊞ var 1) ⊟ (var 2 ⊞ var 3)) (A p ∷ B p ∷ A q ∷ B q ∷ []) refl;
}

module _ (w : Weights) {A B : (ℕ → ℤ) → ℤ} (a : Additive A) (b : Additive B) where
  single : Additive (λ (p : ℕ → ℤ). single_edge w (A p) (B p))
  single = record { sub = λ p q. ap₂ (single_edge w) (a.sub p q) (b.sub p q) ∙ single_sub w (A p) (B p) (A q) (B q) }

  module _ {C : (ℕ → ℤ) → ℤ} (c : Additive C) where
    end : Additive (λ (p : ℕ → ℤ). end_edge w (A p) (B p) (C p))
    end = record { sub = λ p q. rw (a.sub p q, b.sub p q, c.sub p q) (end_sub w (A p) (B p) (C p) (A q) (B q) (C q)) }

    module _ {D : (ℕ → ℤ) → ℤ} (d : Additive D) where
      four : Additive (λ (p : ℕ → ℤ). interior w (A p) (B p) (C p) (D p))
      four = record { sub = λ p q. rw (a.sub p q, b.sub p q, c.sub p q, d.sub p q) (interior-sub w (A p) (B p) (C p) (D p) (A q) (B q) (C q) (D q)) }

      inner : Additive (λ (p : ℕ → ℤ). inner_edge_z w (A p) (B p) (C p) (D p))
      inner = record { sub = λ p q. rw (a.sub p q, b.sub p q, c.sub p q, d.sub p q) (inner-sub w (A p) (B p) (C p) (D p) (A q) (B q) (C q) (D q)) }

virtual : (w : Weights) (n j : ℕ) {L K : (ℕ → ℤ) → ℕ → ℤ} → ((i : ℕ) → Additive (λ (p : ℕ → ℤ). L p i)) → ((i : ℕ) → Additive (λ (p : ℕ → ℤ). K p i))
    → Additive (λ (p : ℕ → ℤ). virtual_numerator w n (L p) (K p) j)
virtual w n j {L} {K} f g = times (valence_scale / n) {F = λ (p : ℕ → ℤ). virtual_z w n (L p) (K p) j} (record {
  sub = λ p q.
      let e : L (λ (x : ℕ). p x -ℤ q x) ≡ (λ (i : ℕ). L p i -ℤ L q i) = λ y i. (f i).sub p q y in
      let e' : K (λ (x : ℕ). p x -ℤ q x) ≡ (λ (i : ℕ). K p i -ℤ K q i) = λ y i. (g i).sub p q y in
      ap₂ (λ (x y : ℕ → ℤ). virtual_z w n x y j) e e' ∙ virtual-sub w n (L p) (K p) (L q) (K q) j;
})

module _ (l : List ℕ) where
  -- ---- over `extrapolated_scale`
  extrapolated_at_z-sub : (v : ℕ) → Additive (λ (p : ℕ → ℤ). extrapolated_at_z l p v)
  unfolding extrapolated_at_z
  extrapolated_at_z-sub v =
      let s : ℕ = boundary_from quads l v in
      either (eqb (valence l v) 1) (record { sub = λ p q. extrapolated-corner-sub (p v) (p (opposite_corner l s)) (q v) (q (opposite_corner l s)) })
      (record { sub = λ p q. extrapolated-sub (p v) (q v) (valence l v - 1) (λ (i : ℕ). p (fan_end l s (suc i))) (λ (i : ℕ). q (fan_end l s (suc i))) })

  fan_neighbour_z-sub : (v i : ℕ) → Additive (λ (p : ℕ → ℤ). fan_neighbour_z l p v i)
  unfolding fan_neighbour_z
  fan_neighbour_z-sub v i = either (eqb i (valence l v + 1)) (extrapolated_at_z-sub v) (times extrapolated_scale (point (fan_end l (boundary_from quads l v) i)))

  fan_corner_z-sub : (v i : ℕ) → Additive (λ (p : ℕ → ℤ). fan_corner_z l p v i)
  unfolding fan_corner_z
  fan_corner_z-sub v i =
      let s : ℕ = boundary_from quads l v in
      either (eqb i (valence l v)) (extrapolated_at_z-sub (fan_end l s (valence l v)))
      (either (eqb i (valence l v + 1)) (extrapolated_at_z-sub (fan_end l s 0)) (times extrapolated_scale (point (opposite_corner l (turns quads l i s)))))

module _ (w : Weights) (l : List ℕ) where
  -- ---- over `virtual_scale`
  virtual_at_z-sub : (h : ℕ) → Additive (λ (p : ℕ → ℤ). virtual_at_z w l p h)
  unfolding virtual_at_z fan_virtual_z ring_virtual_z ring_neighbour_z ring_corner_z
  virtual_at_z-sub h =
      let v : ℕ = from l h in
      let n : ℕ = valence l v + 2 in
      either (ltb (boundary_from quads l v) (length l)) (virtual w n (fan_place l v h) (λ i. fan_neighbour_z-sub l v (i % n)) (λ i. fan_corner_z-sub l v (i % n)))
      (virtual w (valence l v) 0 (λ i. times extrapolated_scale (point (to quads l (turns quads l i h)))) (λ i. times extrapolated_scale (point (opposite_corner l (turns quads l i h)))))

  -- ---- over `edge_scale`
  value_sub : (h : ℕ) (r : EdgeRule) → Additive (λ (p : ℕ → ℤ). edge_value_z w l p h r)
  unfolding edge_value_z ordinary_value
  value_sub h inside_segment = times (virtual_scale w) (four w (point (from l (back quads l h))) (point (from l h)) (point (to quads l h)) (point (to quads l (along quads l h))))
  value_sub h start_of_segment = times (virtual_scale w) (end w (point (from l h)) (point (to quads l h)) (point (to quads l (along quads l h))))
  value_sub h end_of_segment = times (virtual_scale w) (end w (point (to quads l h)) (point (from l h)) (point (from l (back quads l h))))
  value_sub h whole_segment = times (virtual_scale w) (single w (point (from l h)) (point (to quads l h)))
  value_sub h inner_rule = inner w (point (from l h)) (point (to quads l h)) (virtual_at_z-sub h) (virtual_at_z-sub (mate quads l h))

  pub edge_z-sub : (marks : List ℕ) (h : ℕ) → Additive (λ (p : ℕ → ℤ). edge_z w l marks p h)
  unfolding edge_z
  edge_z-sub marks h = value_sub h (edge_rule l marks h)

  -- ---- in the edge points
  direction_z-sub : (h : ℕ) → Additive (λ (e : ℕ → ℤ). direction_z w l e h)
  unfolding direction_z
  direction_z-sub h =
      let g : ℕ = across h in
      let t : Bool = ltb (mate quads l g) (length l) in
      either (ltb (mate quads l h) (length l))
      (either t (four w (point (beyond l h)) (point h) (point g) (point (beyond l g))) (end w (point g) (point h) (point (beyond l h))))
      (either t (end w (point h) (point g) (point (beyond l g))) (single w (point h) (point g)))

  face_value_sub : (f : ℕ) (r : FaceRule) → Additive (λ (e : ℕ → ℤ). face_value_z w l e f r)
  unfolding face_value_z
  face_value_sub f first_alone = times 2 (direction_z-sub (4 * f))
  face_value_sub f second_alone = times 2 (direction_z-sub (4 * f + 1))
  face_value_sub f both_inner = plus (direction_z-sub (4 * f)) (direction_z-sub (4 * f + 1))
  face_value_sub f neither_inner = plus (direction_z-sub (4 * f)) (direction_z-sub (4 * f + 1))

  pub face_z-sub : (f : ℕ) → Additive (λ (e : ℕ → ℤ). face_z w l e f)
  unfolding face_z
  face_z-sub f = face_value_sub f (face_rule l f)
