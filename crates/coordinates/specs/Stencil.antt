-- The four-point rule between two near points p and q, with a far point beyond each or none. Where there is none, the other near point is mirrored: an end edge, or
-- with none on both sides a single edge.
use Rattle.std.specs.Prelude.{◌≡◌, List, ℕ, ℤ, Option, None, Some}
use Rattle.curve.specs.Weights.{Weights, interior, mirror}
use Rattle.coordinates.specs.Points.{InTable}

-- the value beyond x, where y is the other near value
unfoldable pub far_value : (ℕ → ℤ) → Option ℕ → (x y : ℤ) → ℤ
far_value e (Some o) x y = e o
far_value e None x y = mirror x y

-- over the scale times the denominator of the values e
unfoldable pub stencil_value : Weights → (ℕ → ℤ) → (o : Option ℕ) (p q : ℕ) (r : Option ℕ) → ℤ
stencil_value w e o p q r = interior w (far_value e o (e p) (e q)) (e p) (e q) (far_value e r (e q) (e p))

abbrev pub interior_value : Weights → (ℕ → ℤ) → (o p q r : ℕ) → ℤ
interior_value w e o p q r = interior w (e o) (e p) (e q) (e r)

-- a far point is in the table
pub record FarIn (t : List ℤ) (f : Option ℕ) : Type 0 where
  pub room : (o : ℕ) → f ≡ Some o → InTable t o
