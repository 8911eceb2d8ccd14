-- The common denominators are not 0 where the near weight and the scale are not. Assumes nothing.
use Prim.Native.Nat.{◌<◌}
use native.Mathlib.Nat.{mul-pos}
use native.Mathlib.Omega.{arith}
use lib.Dec.{lit≤}
use Rattle.curve.specs.Weights.{Weights, scale}
use Rattle.rings.specs.Scales.{virtual_scale, edge_scale, direction_scale, face_scale}

module _ (w : Weights) (near : 0 < w.near) where
  virtual_scale_some : 0 < virtual_scale w
  virtual_scale_some = omega arith

  module _ (apart : 0 < scale w) where
    pub edge_scale_some : 0 < edge_scale w
    edge_scale_some = mul-pos apart virtual_scale_some

    direction_scale_some : 0 < direction_scale w
    direction_scale_some = mul-pos apart edge_scale_some

    pub face_scale_some : 0 < face_scale w
    face_scale_some = mul-pos (lit≤ tt) direction_scale_some
