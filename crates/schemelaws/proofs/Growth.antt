-- How far coordinates grow, rounded: one round and six. Paper 01: "every coordinate stays within 268,435,456".
use mathlib.Core.List.{List}
use Prim.Native.Nat.{ℕ, zero, suc, ◌+◌, ◌*◌, ◌/◌, ◌%◌, ◌≤◌, ◌<◌}
use native.Mathlib.Nat.{mul_left_comm}
use native.Mathlib.Omega.{arith}
use lib.IntN.{ℤ, nat_abs}
use lib.ListN.{length}
use Rattle.bounds.specs.Bounds.{max_rounds, max_coordinate}
use Rattle.curve.specs.Weights.{Weights}
use Rattle.curve.proofs.Distance.{Tame, tame_near, tame_apart}
use Rattle.rings.specs.Scales.{edge_scale, face_scale, coordinate_range}
use Rattle.rings.proofs.Scales.{edge_scale_some, face_scale_some}
use Rattle.rules.proofs.Growth.{grown, rounded-grown, grown_kept, limit, limit_input, limit_output}
use Rattle.nets.specs.Net.{Net, axis}
use Rattle.topology.specs.Shape.{quads}
use Rattle.topology.specs.Manifold.{Manifold}
use Rattle.refinedfaces.specs.Refined.{refined_vertices}
use Rattle.refinedfaces.proofs.Corners.{refined-cases}
use Rattle.scheme.specs.Step.{refined_coordinate, step, steps}
use Rattle.schemelaws.specs.Numerators.{edge_z, face_z}
use Rattle.schemelaws.specs.Nets.{Refinable}
use Rattle.integers.proofs.Within.{within_le}
use Rattle.integers.specs.Within.{Within}
use Rattle.schemelaws.proofs.Coordinates.{refined_old, refined-edge, refined_face_lem}
use Rattle.schemelaws.proofs.Sizes.{edge_size, face_size}
use Rattle.schemelaws.proofs.Steps.{refinable_manifold, refinable_steps, step-length, step-coordinate}

-- ---- sizes
module _ (w : Weights) (tame : Tame w) (v : ℕ) (l marks : List ℕ) (ok : Manifold quads v l) (p : ℕ → ℤ) (B : ℕ) (small : (x : ℕ) → x < v → nat_abs (p x) ≤ B) where
  refined_size : (i : ℕ) → i < refined_vertices quads v l → nat_abs (refined_coordinate w v l marks p i) ≤ grown B
  refined_size = refined-cases quads v l ok.oriented (λ i. nat_abs (refined_coordinate w v l marks p i) ≤ grown B)
      (λ i b. let s = small i b in let g = grown_kept B in rw (refined_old w v l marks p i b) (omega arith))
      (λ h b.
      let s = edge_size w tame v l ok p B small marks h b in
      let e = mul_left_comm (edge_scale w) 11 B in
      let f = mul_left_comm (edge_scale w) 55 B in
      rw (refined-edge w (tame_near w tame) (tame_apart w tame) v l marks ok p h b) (rounded-grown (edge_z w l marks p h) (edge_scale w) B (edge_scale_some w (tame_near w tame) (tame_apart w tame)) (omega arith)))
      (λ f b.
      rw (refined_face_lem w (tame_near w tame) (tame_apart w tame) v l marks ok p f b)
      (rounded-grown (face_z w l (edge_z w l marks p) f) (face_scale w) B (face_scale_some w (tame_near w tame) (tame_apart w tame)) (face_size w tame v l marks ok p B small f b)))

-- ---- a net
step_within : (w : Weights) → Tame w → (m : Net) → Refinable m → (B : ℕ) → Within B m.vertices → Within (grown B) (step w m).vertices
unfolding axis
step_within w tame m ok B t = record {
  at = λ i b.
      let n = step-length w m in
      let c = step-coordinate w m i (omega arith) in
      rw c (refined_size w tame (length m.marks) m.faces m.marks (refinable_manifold m ok) (axis m.vertices (i % 3)) B
      (λ x k. let e = ok.threes in t.at (3 * x + i % 3) (omega arith)) (i / 3) (omega arith));
}

module _ (w : Weights) (tame : Tame w) (m : Net) where
  -- from input coordinates
  steps_limit : Refinable m → Within max_coordinate m.vertices → (k : ℕ) → Within (limit k) (steps w k m).vertices
  unfolding steps limit
  steps_limit ok t zero = t
  steps_limit ok t (suc k) = step_within w tame (steps w k m) (refinable_steps w m ok k) (limit k) (steps_limit ok t k)

  -- what each round is given, and what any of six gives
  pub steps_input : Refinable m → Within max_coordinate m.vertices → (k : ℕ) → k ≤ 5 → Within coordinate_range (steps w k m).vertices
  steps_input ok t k h = within_le (limit k) coordinate_range (steps w k m).vertices (limit_input k h) (steps_limit ok t k)

  pub steps_within : Refinable m → Within max_coordinate m.vertices → (k : ℕ) → k ≤ max_rounds → Within 268435456 (steps w k m).vertices
  steps_within ok t k h = within_le (limit k) 268435456 (steps w k m).vertices (limit_output k h) (steps_limit ok t k)
