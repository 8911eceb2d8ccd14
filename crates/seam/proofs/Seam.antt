-- The seam: after k rounds a reading is the curve after k steps.
use mathlib.Core.Path.{◌≡◌}
use mathlib.Core.Logic.{◌↔◌}
use mathlib.Core.List.{List}
use Prim.Native.Nat.{ℕ, zero, suc, ◌<◌, ◌≤◌}
use native.Mathlib.Omega.{arith}
use Rattle.nets.specs.Net.{Net}
use Rattle.curve.specs.Weights.{Weights, tension, scale}
use Rattle.curve.specs.Curve.{Kind, rounded, Point, each, curve_step, curve_steps, curve}
use Rattle.curve.proofs.Symmetry.{rounded_symmetric, each_symmetric}
use Rattle.curve.proofs.Tension.{distance}
use Rattle.topology.specs.Shape.{quads}
use Rattle.topology.specs.Boundary.{Way}
use Rattle.scheme.specs.Step.{step, steps}
use Rattle.seam.specs.Reading.{Reads}
use Rattle.seam.specs.Seam.{Admissible, Seam}
use Rattle.seam.proofs.Readings.{reads_only}
use Rattle.seam.proofs.Refined.{reading_after}
use Rattle.seam.proofs.Step.{step_boundary, admissible_step}

module _ (w : Weights) where
  admissible_steps : (m : Net) → Admissible m → (k : ℕ) → Admissible (steps w k m)
  unfolding steps
  admissible_steps m ok zero = ok
  admissible_steps m ok (suc k) = admissible_step w (steps w k m) (admissible_steps m ok k)

  module _ (some : 0 < scale w) (m : Net) (ok : Admissible m) (way : Way) (c : Kind) (u : ℕ) (L : List Point) where
    -- one round
    reads_step : Reads m way c u L → Reads (step w m) way c u (curve_step (each (rounded w)) c L)
    reads_step r = reading_after (each (rounded w)) (each_symmetric (rounded_symmetric w)) quads m (step w m) ok (step_boundary w some m ok) way c u L r

  module _ (some : 0 < scale w) (m : Net) (ok : Admissible m) (way : Way) (c : Kind) (u : ℕ) (L : List Point) (r : Reads m way c u L) where
    -- k rounds
    reads_steps : (k : ℕ) → Reads (steps w k m) way c u (curve w c k L)
    unfolding steps curve curve_steps
    reads_steps zero = r
    reads_steps (suc k) = reads_step some (steps w k m) (admissible_steps m ok k) way c u (curve w c k L) (reads_steps k)

    reads_exactly : (k : ℕ) (P : List Point) → Reads (steps w k m) way c u P ↔ (P ≡ curve w c k L)
    reads_exactly k = reads_only quads (steps w k m) way c u (curve w c k L) (reads_steps k)

-- demand 3, of the nets themselves
pub seam : (t : ℕ) → t ≤ 4 → (a b : Net) → Admissible a → Admissible b → (v w : Way) (c : Kind) (s s' : ℕ) (L : List Point) → Reads a v c s L → Reads b w c s' L
    → (k : ℕ) → Seam t a b v w c s s' L k
seam t low a b p q v w c s s' L x y k = record {
  left = reads_exactly (tension t) (omega arith) a p v c s L x k;
  right = reads_exactly (tension t) (omega arith) b q w c s' L y k;
  close = distance t low c k L;
}
