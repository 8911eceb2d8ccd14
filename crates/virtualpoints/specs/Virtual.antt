-- Exact virtual points, on the axes of a table of points t.
use Rattle.std.specs.Prelude.{List, ℕ, ℤ}
use Rattle.curve.specs.Weights.{Weights}
use Rattle.schemelaws.specs.Numerators.{virtual_at_z}
use Rattle.nets.specs.Net.{axis}

-- the numerator on axis a of the virtual point on the edge of h
abbrev pub virtual_on : Weights → List ℕ → List ℤ → (h a : ℕ) → ℤ
virtual_on w l t h a = virtual_at_z w l (axis t a) h
