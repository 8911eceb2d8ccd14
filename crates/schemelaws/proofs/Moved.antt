-- Paper 02: "Refining a net moved by whole counts must equal moving the refined net". A coordinate moved by c moves the numerator of every edge and face point by c
-- times its denominator, so each rounded point by c.
use mathlib.Core.Path.{◌≡◌, refl, sym, ap, ◌∙◌}
use mathlib.Core.List.{List, [], ◌∷◌}
use Prim.Native.Nat.{ℕ, zero, suc, ◌≤◌, ◌<◌}
use native.Mathlib.Omega.{arith}
use lib.IntN.{ℤ, pos, nat_abs, ◌+ℤ◌, ◌-ℤ◌, ◌*ℤ◌}
use lib.ListN.{length}
use Rattle.integers.proofs.Order.{eq_of_abs}
use Rattle.integers.proofs.Polynomial.{var, lit, ◌⊞◌, ◌⊟◌, ◌⊠◌, same}
use Rattle.rounding.proofs.Laws.{round_shift}
use Rattle.curve.specs.Curve.{Point}
use Rattle.curve.specs.Weights.{Weights, scale}
use Rattle.curve.proofs.Distance.{Tame, tame_near, tame_apart, tame_end}
use Rattle.rings.specs.Scales.{edge_scale, face_scale}
use Rattle.rings.proofs.Scales.{edge_scale_some, face_scale_some}
use Rattle.topology.specs.Shape.{quads}
use Rattle.topology.specs.Manifold.{Manifold}
use Rattle.nets.specs.Net.{Net, axis}
use Rattle.nets.specs.Moved.{on_axis, moved_vertices, moved}
use Rattle.nets.proofs.Laws.{same-net}
use Rattle.nets.proofs.Moved.{axis-moved, moved_coordinates}
use Rattle.refinedfaces.specs.Refined.{refined_vertices}
use Rattle.refinedfaces.proofs.Corners.{refined-cases}
use Rattle.scheme.specs.Step.{refined_coordinate, step, steps}
use Rattle.schemelaws.specs.Nets.{Refinable}
use Rattle.schemelaws.specs.Numerators.{edge_z, face_z}
use Rattle.schemelaws.proofs.Norm.{edge_near}
use Rattle.schemelaws.proofs.Constant.{edge_constant, face_z_constant}
use Rattle.schemelaws.proofs.Coordinates.{refined_old, refined-edge, refined_face_lem}
use Rattle.schemelaws.proofs.Difference.{edge_z-sub, face_z-sub}
use Rattle.schemelaws.proofs.Steps.{refinable_manifold, refinable_steps}

from_difference : (x y c : ℤ) → x -ℤ y ≡ c → x ≡ y +ℤ c
from_difference x y c e = same (var 0) (var 1 ⊞ (var 0 ⊟ var 1)) (x ∷ y ∷ []) refl ∙ ap (λ (t : ℤ). y +ℤ t) e

-- ---- one coordinate
module _ (w : Weights) (tame : Tame w) (v : ℕ) (l marks : List ℕ) (ok : Manifold quads v l) (p q : ℕ → ℤ) (c : ℤ) (shift : (x : ℕ) → x < v → q x ≡ p x +ℤ c) where
  no_difference : (x : ℕ) → x < v → nat_abs (q x -ℤ p x -ℤ c) ≤ 0
  no_difference x b = let e = ap nat_abs (ap (λ (t : ℤ). t -ℤ p x -ℤ c) (shift x b) ∙ same (var 0 ⊞ var 1 ⊟ var 0 ⊟ var 1) (lit (pos 0)) (p x ∷ c ∷ []) refl) in omega arith

  edge_difference : (h : ℕ) → h < length l → edge_z w l marks q h -ℤ edge_z w l marks p h ≡ pos (edge_scale w) *ℤ c
  edge_difference h k =
      let r : ℕ → ℤ = λ x. q x -ℤ p x in
      let n = edge_near w tame v l ok r (λ (x : ℕ). c) 0 no_difference marks h k in
      sym ((edge_z-sub w l marks h).sub q p) ∙ eq_of_abs (edge_z w l marks r h) (edge_z w l marks (λ (x : ℕ). c) h) (omega arith) ∙ edge_constant w v l ok c (tame_end w tame) marks h k

  edge_moved : (h : ℕ) → h < length l → edge_z w l marks q h ≡ edge_z w l marks p h +ℤ pos (edge_scale w) *ℤ c
  edge_moved h k = from_difference (edge_z w l marks q h) (edge_z w l marks p h) (pos (edge_scale w) *ℤ c) (edge_difference h k)

  face_moved : (f : ℕ) → f < quads.faces (length l) → face_z w l (edge_z w l marks q) f ≡ face_z w l (edge_z w l marks p) f +ℤ pos (face_scale w) *ℤ c
  face_moved f k =
      let d : ℕ → ℤ = λ h. edge_z w l marks q h -ℤ edge_z w l marks p h in
      from_difference (face_z w l (edge_z w l marks q) f) (face_z w l (edge_z w l marks p) f) (pos (face_scale w) *ℤ c)
      (sym ((face_z-sub w l f).sub (edge_z w l marks q) (edge_z w l marks p)) ∙ face_z_constant w (tame_end w tame) v l ok d (pos (edge_scale w) *ℤ c) edge_difference f k
      ∙ same (lit (pos 2) ⊠ var 0 ⊠ (var 1 ⊠ var 2)) (lit (pos 2) ⊠ (var 0 ⊠ var 1) ⊠ var 2) (pos (scale w) ∷ pos (edge_scale w) ∷ c ∷ []) refl)

  refined-moved : (i : ℕ) → i < refined_vertices quads v l → refined_coordinate w v l marks q i ≡ refined_coordinate w v l marks p i +ℤ c
  refined-moved = refined-cases quads v l ok.oriented (λ i. refined_coordinate w v l marks q i ≡ refined_coordinate w v l marks p i +ℤ c)
      (λ i b. rw (refined_old w v l marks q i b, refined_old w v l marks p i b) (shift i b))
      (λ h b. rw (refined-edge w (tame_near w tame) (tame_apart w tame) v l marks ok q h b, refined-edge w (tame_near w tame) (tame_apart w tame) v l marks ok p h b, edge_moved h b) (round_shift (edge_z w l marks p h) c (edge_scale w) (edge_scale_some w (tame_near w tame) (tame_apart w tame))))
      (λ f b. rw (refined_face_lem w (tame_near w tame) (tame_apart w tame) v l marks ok q f b, refined_face_lem w (tame_near w tame) (tame_apart w tame) v l marks ok p f b, face_moved f b) (round_shift (face_z w l (edge_z w l marks p) f) c (face_scale w) (face_scale_some w (tame_near w tame) (tame_apart w tame))))

-- ---- a net
module _ (w : Weights) (tame : Tame w) (s : Point) where
  step-moved : (m : Net) → Refinable m → step w (moved s m) ≡ moved s (step w m)
  unfolding step
  step-moved m ok =
      let v : ℕ = length m.marks in
      let l : List ℕ = m.faces in
      let t = ok.threes in
      same-net (moved_coordinates s (refined_vertices quads v l) m.vertices (refined_coordinate w v l m.marks)
      (λ a i b j. refined-moved w tame v l m.marks (refinable_manifold m ok) (axis m.vertices a) (axis (moved_vertices s m.vertices) a) (on_axis s a)
      (λ x k. axis-moved s m.vertices a x b (omega arith)) i j)) refl refl

  pub steps-moved : (m : Net) → Refinable m → (k : ℕ) → steps w k (moved s m) ≡ moved s (steps w k m)
  unfolding steps
  steps-moved m ok zero = refl
  steps-moved m ok (suc k) = ap (step w) (steps-moved m ok k) ∙ step-moved (steps w k m) (refinable_steps w m ok k)
