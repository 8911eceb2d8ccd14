-- The rules of `Rules` as whole numbers over the common denominators of `Scales`. The three boundary rules and the directions have the numerators of
-- `curve.specs.Weights` over `scale` times the denominator of their points.
use Rattle.std.specs.Prelude.{ℕ, ◌*◌, ◌/◌, ℤ, pos, ◌-ℤ◌, ◌*ℤ◌}
use Rattle.integers.specs.Sum.{sum}
use Rattle.curve.specs.Weights.{Weights, interior}
use Rattle.rings.specs.Scales.{extrapolated_scale, virtual_scale}

-- over `extrapolated_scale`; r from 1 to 5 divides it
abbrev pub extrapolated_z : (P : ℤ) (r : ℕ) (ends : ℕ → ℤ) → ℤ
extrapolated_z P r ends = pos (2 * extrapolated_scale) *ℤ P -ℤ pos (extrapolated_scale / r) *ℤ sum r ends

abbrev pub extrapolated_corner_z : (P opposite : ℤ) → ℤ
extrapolated_corner_z P opposite = pos (2 * extrapolated_scale) *ℤ P -ℤ pos extrapolated_scale *ℤ opposite

-- over `edge_scale`, the virtual points being given over `virtual_scale`
abbrev pub inner_edge_z : Weights → (P Q z_p z_q : ℤ) → ℤ
inner_edge_z w P Q z_p z_q = interior w z_p (pos (virtual_scale w) *ℤ P) (pos (virtual_scale w) *ℤ Q) z_q
