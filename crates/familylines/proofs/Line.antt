-- The point of a new edge between ordinary vertices, by four vertices in line.
use mathlib.Core.Path.{◌≡◌, refl, ◌∙◌}
use mathlib.Core.List.{List}
use Prim.Native.Nat.{ℕ, ◌*◌, ◌^◌, ◌≤◌}
use lib.IntN.{ℤ, nat_abs}
use lib.ListN.{length, take}
use Rattle.rounding.specs.Rounding.{round}
use Rattle.curve.specs.Weights.{tension}
use Rattle.nets.specs.Net.{axis}
use Rattle.schemelaws.specs.Numerators.{edge_z}
use Rattle.coordinates.specs.Points.{OnAxes}
use Rattle.coordinates.specs.Stencil.{interior_value}
use Rattle.edgeentries.specs.Entry.{unit_of}
use Rattle.exactedges.specs.Edge.{Flagged, ExactPoint}
use Rattle.exactedges.proofs.Plain.{on_axes_as}
use Rattle.exactedges.proofs.Wide.{plain_point, inner_point}
use Rattle.edgerounding.specs.Rounded.{rounded_by, Small}
use Rattle.familylines.specs.Steps.{Place, Line}
use Rattle.edgerounding.proofs.Rounded.{plain_small, round-plain, plain_is}
use Rattle.edgetable.proofs.EdgeTable.{small_of}

module _ (t : ℕ) (l marks : List ℕ) (points : List ℤ) (w : List ℕ) (h e o p q r : ℕ) (at : Place t l marks points w h e) (line : Line l h o p q r) where
  abbrev old : List ℤ
  old = take (3 * length marks) points

  module _ (x y z : ℤ) (on : OnAxes (λ (a : ℕ). interior_value (tension t) (axis old a) o p q r) x y z) where
    pub line_exact : Flagged l h 0 × ExactPoint (tension t) 0 (λ (a : ℕ). edge_z (tension t) l marks (axis old a) h) x y z
    line_exact =
        inner_point t at.low at.ready.vertices l at.ready.net old at.points marks h line.ends.inner 0 x y z
        (plain_point t at.low at.ready.vertices l at.ready.net old at.points h line.ends x y z (on_axes_as _ _ x y z (λ a. line.value (tension t) (axis old a)) on))

    small : Small (tension t) 0 x y z
    small = small_of t l h 0 _ x y z line_exact.0 line_exact.1

    pub small₀ : nat_abs x ≤ 2 ^ 33
    unfolding unit_of
    small₀ = plain_small t x small.on₀

    pub small₁ : nat_abs y ≤ 2 ^ 33
    unfolding unit_of
    small₁ = plain_small t y small.on₁

    pub small₂ : nat_abs z ≤ 2 ^ 33
    unfolding unit_of
    small₂ = plain_small t z small.on₂

-- rounded by the flag of a plain edge
pub rounded-zero : (t : ℕ) (z : ℤ) → round z 64 ≡ rounded_by (tension t) 0 z
unfolding unit_of
rounded-zero t z = round-plain t z ∙ plain_is t 0 refl z
