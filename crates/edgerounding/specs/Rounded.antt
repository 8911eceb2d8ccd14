-- The exact point of an edge, rounded.
use Rattle.std.specs.Prelude.{◌≡◌, ℕ, ◌≤◌, ℤ, pos, nat_abs, ◌*ℤ◌}
use Rattle.rounding.specs.Rounding.{round}
use Rattle.curve.specs.Weights.{Weights}
use Rattle.rings.specs.Scales.{virtual_scale, edge_scale, edge_range}
use Rattle.edgeentries.specs.Entry.{wide_flag, unit_of}

-- a stored numerator of an edge with this flag, rounded
unfoldable pub rounded_by : Weights → ℕ → ℤ → ℤ
rounded_by weights flag z = round (pos (unit_of weights flag) *ℤ z) (edge_scale weights)

-- an exact point in the range of edges, with a flag that tells its denominator
pub record Small (weights : Weights) (flag : ℕ) (x y z : ℤ) : Type 0 where
  pub plain : (flag ≡ wide_flag → ⊥) → unit_of weights flag ≡ virtual_scale weights
  pub on₀ : nat_abs (pos (unit_of weights flag) *ℤ x) ≤ edge_range weights
  pub on₁ : nat_abs (pos (unit_of weights flag) *ℤ y) ≤ edge_range weights
  pub on₂ : nat_abs (pos (unit_of weights flag) *ℤ z) ≤ edge_range weights
