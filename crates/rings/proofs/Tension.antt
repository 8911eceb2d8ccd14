-- The common denominators and the ranges at a tension, as numbers. Assumes nothing.
use mathlib.Core.Path.{◌≡◌, ap}
use Prim.Native.Nat.{ℕ, ◌+◌, ◌*◌, ◌/◌, ◌≤◌}
use native.Mathlib.Omega.{arith}
use Rattle.curve.specs.Weights.{tension, scale}
use Rattle.curve.proofs.Tension.{scale_at}
use Rattle.rings.specs.Scales.{virtual_scale, edge_scale, direction_scale, face_scale, virtual_range, edge_range, direction_range}

module _ (t : ℕ) where
  pub edge-scale_at : edge_scale (tension t) ≡ 3225600 * (32 + t)
  edge-scale_at = let e = ap (λ (s : ℕ). s * virtual_scale (tension t)) (scale_at t) in omega arith

  direction-scale_at : direction_scale (tension t) ≡ 206438400 * (32 + t)
  direction-scale_at = let e = ap (λ (s : ℕ). s * edge_scale (tension t)) (scale_at t) in let f = edge-scale_at in omega arith

  pub face_scale_at : face_scale (tension t) ≡ 412876800 * (32 + t)
  face_scale_at = let e = direction-scale_at in omega arith

  -- ---- ranges, with coordinates within 67,108,864
  virtual_range_at : virtual_range (tension t) ≡ 285600 * (32 + t) * 67108864
  virtual_range_at = omega arith

  pub edge_range_at : edge_range (tension t) ≡ 5913600 * (32 + t) * 67108864
  edge_range_at = let e = edge-scale_at in omega arith

  direction_range_at : direction_range (tension t) ≡ 80 * edge_range (tension t)
  direction_range_at = let e = scale_at t in let f : scale (tension t) / 4 * 5 ≡ 80 = omega arith in ap (λ (s : ℕ). s * edge_range (tension t)) f

  module _ (h : t ≤ 4) where
    pub virtual_range_le : virtual_range (tension t) ≤ 689986496102400
    virtual_range_le = let e = virtual_range_at in omega arith

    pub edge_range_le : edge_range (tension t) ≤ 14286779213414400
    edge_range_le = let e = edge_range_at in omega arith

    pub direction_range_le : direction_range (tension t) ≤ 1142942337073152000
    direction_range_le = let e = direction_range_at in let f = edge_range_le in omega arith
