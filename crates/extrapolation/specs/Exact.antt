-- Exact extrapolated points, on the axes of a table of points t.
use Rattle.std.specs.Prelude.{List, ℕ, ℤ}
use Rattle.topology.specs.HalfEdge.{from}
use Rattle.schemelaws.specs.Numerators.{extrapolated_at_z}
use Rattle.nets.specs.Net.{axis}

-- the numerator on axis a of the extrapolated point of the vertex that s leaves
abbrev pub extrapolated_on : List ℕ → List ℤ → (s a : ℕ) → ℤ
extrapolated_on l t s a = extrapolated_at_z l (axis t a) (from l s)
