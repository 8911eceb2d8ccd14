-- Paper 02: "Old callers get t = 4 and their old points." At tension 4 the weights are four times those of paper 01: numerators of virtual points are four times, of
-- edge points 16 times and of face points 64 times those of paper 01, and so are their denominators; so the rounded points are the same.
use mathlib.Core.Path.{◌≡◌, refl, sym, ap, ◌∙◌}
use mathlib.Core.Bool.{Bool, true, false, cond}
use mathlib.Core.List.{List, [], ◌∷◌}
use Prim.Native.Nat.{ℕ, zero, suc, ◌+◌, ◌-◌, ◌*◌, ◌/◌, ◌%◌, ◌<◌}
use native.Mathlib.Omega.{arith}
use lib.Dec.{ltb}
use lib.IntN.{ℤ, pos, ◌+ℤ◌, ◌*ℤ◌}
use lib.ListN.{length}
use Rattle.integers.specs.Sum.{sum}
use Rattle.integers.proofs.Polynomial.{var, lit, ◌⊞◌, ◌⊟◌, ◌⊠◌, same}
use Rattle.rounding.specs.Rounding.{round}
use Rattle.rounding.proofs.Laws.{round-scale}
use Rattle.curve.specs.Weights.{kobbelt, tension}
use Rattle.curve.proofs.Old.{Times, exact_carries, once}
use Rattle.rings.specs.Ring.{wrap}
use Rattle.rings.specs.RingWeights.{virtual_z, virtual_numerator}
use Rattle.rings.specs.Scales.{valence_scale, virtual_scale, edge_scale, face_scale}
use Rattle.topology.specs.Shape.{quads}
use Rattle.topology.specs.HalfEdge.{from, to, mate}
use Rattle.topology.specs.Boundary.{boundary_from, along, back}
use Rattle.topology.specs.Manifold.{Manifold}
use Rattle.topology.specs.Vertex.{valence}
use Rattle.topology.specs.Quads.{fan_place, across, beyond}
use Rattle.nets.specs.Net.{Net, axis}
use Rattle.nets.proofs.Laws.{same-net}
use Rattle.lists.proofs.Tabulate.{tabulate_cong}
use Rattle.refinedfaces.specs.Refined.{refined_vertices}
use Rattle.refinedfaces.proofs.Corners.{refined-cases}
use Rattle.scheme.specs.Points.{EdgeRule, inside_segment, start_of_segment, end_of_segment, whole_segment, inner_rule, edge_rule, FaceRule, first_alone, second_alone, both_inner, neither_inner, face_rule}
use Rattle.scheme.specs.Step.{refined_coordinate, step, steps}
use Rattle.schemelaws.specs.Nets.{Refinable}
use Rattle.schemelaws.specs.Ordinary.{ordinary_value}
use Rattle.schemelaws.specs.Numerators.{fan_neighbour_z, fan_corner_z, ring_neighbour_z, ring_corner_z, ring_virtual_z, fan_virtual_z, virtual_at_z, edge_value_z, edge_z, direction_z, face_value_z, face_z}
use Rattle.schemelaws.proofs.Coordinates.{refined_old, refined-edge, refined_face_lem}
use Rattle.schemelaws.proofs.Steps.{refinable_manifold, refinable_steps}

by_cond : (b : Bool) {x y x' y' : ℤ} {c : ℕ} → Times c x x' → Times c y y' → Times c (cond b x y) (cond b x' y')
by_cond true e f = e
by_cond false e f = f

-- numbers over both virtual scales, or over both scales of the curve
by_product : (a b c d : ℕ) → a * c ≡ d * b → {x y : ℤ} → Times c x y → Times d (pos a *ℤ x) (pos b *ℤ y)
by_product a b c d e {x} {y} h = record {
  is = ap (λ (z : ℤ). pos a *ℤ z) h.is ∙ same (var 0 ⊠ (var 1 ⊠ var 2)) (var 0 ⊠ var 1 ⊠ var 2) (pos a ∷ pos c ∷ y ∷ []) refl
      ∙ ap (λ (n : ℕ). pos n *ℤ y) e ∙ same (var 0 ⊠ var 1 ⊠ var 2) (var 0 ⊠ (var 1 ⊠ var 2)) (pos d ∷ pos b ∷ y ∷ []) refl;
}

by_sum : {c : ℕ} {x y x' y' : ℤ} → Times c x x' → Times c y y' → Times c (x +ℤ y) (x' +ℤ y')
by_sum {c} {x} {y} {x'} {y'} e f = record { is = rw (e.is, f.is) (same (var 0 ⊠ var 1 ⊞ var 0 ⊠ var 2) (var 0 ⊠ (var 1 ⊞ var 2)) (pos c ∷ x' ∷ y' ∷ []) refl) }

-- ---- virtual points: 4
numerator_four : (n : ℕ) (l k : ℕ → ℤ) (j : ℕ) → Times 4 (virtual_numerator (tension 4) n l k j) (virtual_numerator kobbelt n l k j)
unfolding virtual_z
numerator_four n l k j = record {
  is = same
      (var 0 ⊠ (lit (pos 36) ⊠ (lit (pos 4) ⊠ var 1 ⊟ var 2 ⊠ (var 3 ⊞ var 4 ⊞ var 5)) ⊞ lit (pos 4) ⊠ (var 2 ⊠ (var 6 ⊞ var 7 ⊞ var 8 ⊞ var 9) ⊟ lit (pos 4) ⊠ var 10)))
      (lit (pos 4) ⊠ (var 0 ⊠ (lit (pos 9) ⊠ (lit (pos 4) ⊠ var 1 ⊟ var 2 ⊠ (var 3 ⊞ var 4 ⊞ var 5)) ⊞ lit (pos 1) ⊠ (var 2 ⊠ (var 6 ⊞ var 7 ⊞ var 8 ⊞ var 9) ⊟ lit (pos 4) ⊠ var 10))))
      (pos (valence_scale / n) ∷ sum n l ∷ pos n ∷ l (j + (n - 1)) ∷ l j ∷ l (j + 1) ∷ k (j + (n - 2)) ∷ k (j + (n - 1)) ∷ k j ∷ k (j + 1) ∷ sum n k ∷ []) refl;
}

virtual_four : (l : List ℕ) (p : ℕ → ℤ) (h : ℕ) → Times 4 (virtual_at_z (tension 4) l p h) (virtual_at_z kobbelt l p h)
unfolding virtual_at_z fan_virtual_z ring_virtual_z
virtual_four l p h =
    let m : ℕ = valence l (from l h) in
    by_cond (ltb (boundary_from quads l (from l h)) (length l))
    (numerator_four (m + 2) (wrap (m + 2) (fan_neighbour_z l p (from l h))) (wrap (m + 2) (fan_corner_z l p (from l h))) (fan_place l (from l h) h))
    (numerator_four m (ring_neighbour_z l p h) (ring_corner_z l p h) 0)

-- ---- edge points: 16
boundary_four : (z z' : ℤ) → Times 4 z z' → Times 16 (pos (virtual_scale (tension 4)) *ℤ z) (pos (virtual_scale kobbelt) *ℤ z')
boundary_four z z' e = by_product (virtual_scale (tension 4)) (virtual_scale kobbelt) 4 16 refl e

value_four : (l : List ℕ) (p : ℕ → ℤ) (h : ℕ) (r : EdgeRule) → Times 16 (edge_value_z (tension 4) l p h r) (edge_value_z kobbelt l p h r)
unfolding edge_value_z ordinary_value
value_four l p h inside_segment =
    let c = exact_carries 1 in
    boundary_four _ _ (c.inside _ _ _ _ _ _ _ _ (once (p (from l (back quads l h)))) (once (p (from l h))) (once (p (to quads l h))) (once (p (to quads l (along quads l h)))))
value_four l p h start_of_segment = let c = exact_carries 1 in boundary_four _ _ (c.end _ _ _ _ _ _ (once (p (from l h))) (once (p (to quads l h))) (once (p (to quads l (along quads l h)))))
value_four l p h end_of_segment = let c = exact_carries 1 in boundary_four _ _ (c.end _ _ _ _ _ _ (once (p (to quads l h))) (once (p (from l h))) (once (p (from l (back quads l h)))))
value_four l p h whole_segment = let c = exact_carries 1 in boundary_four _ _ (c.single _ _ _ _ (once (p (from l h))) (once (p (to quads l h))))
value_four l p h inner_rule =
    let c = exact_carries 4 in
    let by : (x : ℤ) → Times 4 (pos (virtual_scale (tension 4)) *ℤ x) (pos (virtual_scale kobbelt) *ℤ x) = λ x. by_product (virtual_scale (tension 4)) (virtual_scale kobbelt) 1 4 refl (once x) in
    c.inside _ _ _ _ _ _ _ _ (virtual_four l p h) (by (p (from l h))) (by (p (to quads l h))) (virtual_four l p (mate quads l h))

edge_four : (l marks : List ℕ) (p : ℕ → ℤ) (h : ℕ) → Times 16 (edge_z (tension 4) l marks p h) (edge_z kobbelt l marks p h)
unfolding edge_z
edge_four l marks p h = value_four l p h (edge_rule l marks h)

-- ---- directions and faces, from edge points: 64
module _ (l : List ℕ) (e f : ℕ → ℤ) (sixteen : (h : ℕ) → Times 16 (e h) (f h)) where
  direction_four : (h : ℕ) → Times 64 (direction_z (tension 4) l e h) (direction_z kobbelt l f h)
  unfolding direction_z
  direction_four h =
      let c = exact_carries 16 in
      by_cond (ltb (mate quads l h) (length l))
      (by_cond (ltb (mate quads l (across h)) (length l))
      (c.inside _ _ _ _ _ _ _ _ (sixteen (beyond l h)) (sixteen h) (sixteen (across h)) (sixteen (beyond l (across h))))
      (c.end _ _ _ _ _ _ (sixteen (across h)) (sixteen h) (sixteen (beyond l h))))
      (by_cond (ltb (mate quads l (across h)) (length l))
      (c.end _ _ _ _ _ _ (sixteen h) (sixteen (across h)) (sixteen (beyond l (across h))))
      (c.single _ _ _ _ (sixteen h) (sixteen (across h))))

  face_four : (g : ℕ) (r : FaceRule) → Times 64 (face_value_z (tension 4) l e g r) (face_value_z kobbelt l f g r)
  unfolding face_value_z
  face_four g first_alone = by_product 2 2 64 64 refl (direction_four (4 * g))
  face_four g second_alone = by_product 2 2 64 64 refl (direction_four (4 * g + 1))
  face_four g both_inner = by_sum (direction_four (4 * g)) (direction_four (4 * g + 1))
  face_four g neither_inner = by_sum (direction_four (4 * g)) (direction_four (4 * g + 1))

-- ---- rounded
module _ (v : ℕ) (l marks : List ℕ) (ok : Manifold quads v l) (p : ℕ → ℤ) where
  edge_same : (h : ℕ) → round (edge_z (tension 4) l marks p h) (edge_scale (tension 4)) ≡ round (edge_z kobbelt l marks p h) (edge_scale kobbelt)
  edge_same h = ap (λ (z : ℤ). round z (edge_scale (tension 4))) (edge_four l marks p h).is ∙ round-scale 16 (edge_z kobbelt l marks p h) (edge_scale kobbelt) (omega arith) (omega arith)

  face_same : (f : ℕ) → round (face_z (tension 4) l (edge_z (tension 4) l marks p) f) (face_scale (tension 4)) ≡ round (face_z kobbelt l (edge_z kobbelt l marks p) f) (face_scale kobbelt)
  unfolding face_z
  face_same f =
      ap (λ (z : ℤ). round z (face_scale (tension 4))) (face_four l (edge_z (tension 4) l marks p) (edge_z kobbelt l marks p) (edge_four l marks p) f (face_rule l f)).is
      ∙ round-scale 64 (face_value_z kobbelt l (edge_z kobbelt l marks p) f (face_rule l f)) (face_scale kobbelt) (omega arith) (omega arith)

  old_coordinate : (i : ℕ) → i < refined_vertices quads v l → refined_coordinate (tension 4) v l marks p i ≡ refined_coordinate kobbelt v l marks p i
  old_coordinate = refined-cases quads v l ok.oriented (λ i. refined_coordinate (tension 4) v l marks p i ≡ refined_coordinate kobbelt v l marks p i)
      (λ i b. refined_old (tension 4) v l marks p i b ∙ sym (refined_old kobbelt v l marks p i b))
      (λ h b. refined-edge (tension 4) (omega arith) (omega arith) v l marks ok p h b ∙ edge_same h ∙ sym (refined-edge kobbelt (omega arith) (omega arith) v l marks ok p h b))
      (λ f b. refined_face_lem (tension 4) (omega arith) (omega arith) v l marks ok p f b ∙ face_same f ∙ sym (refined_face_lem kobbelt (omega arith) (omega arith) v l marks ok p f b))

-- ---- a net
old_step : (m : Net) → Refinable m → step (tension 4) m ≡ step kobbelt m
unfolding step
old_step m ok =
    let v : ℕ = length m.marks in
    same-net (tabulate_cong (3 * refined_vertices quads v m.faces) _ _
    (λ i b. old_coordinate v m.faces m.marks (refinable_manifold m ok) (axis m.vertices (i % 3)) (i / 3) (omega arith))) refl refl

pub old_points : (m : Net) → Refinable m → (k : ℕ) → steps (tension 4) k m ≡ steps kobbelt k m
unfolding steps
old_points m ok zero = refl
old_points m ok (suc k) = ap (step (tension 4)) (old_points m ok k) ∙ old_step (steps kobbelt k m) (refinable_steps kobbelt m ok k)
