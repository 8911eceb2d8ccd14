-- What the code uses of ordinary vertices, in the numerators over the common denominators. A plain edge, which is a boundary edge or an inner edge between ordinary
-- vertices, has its numerator over the scale, times `virtual_scale`. Where all eight edges of a face are inner and have ordinary ends, one direction is enough.
-- At any weights; assumes a manifold net.
use mathlib.Core.Path.{◌≡◌}
use mathlib.Core.Logic.{◌⊎◌, ⊎_elim}
use mathlib.Core.List.{List}
use Prim.Native.Nat.{ℕ, ◌+◌, ◌*◌, ◌<◌}
use native.Mathlib.Omega.{arith}
use lib.IntN.{ℤ, pos, ◌*ℤ◌}
use lib.ListN.{length}
use Rattle.curve.specs.Weights.{Weights, scale}
use Rattle.fractions.proofs.Laws.{equals_one}
use Rattle.rings.specs.Scales.{virtual_scale}
use Rattle.topology.specs.Shape.{quads}
use Rattle.topology.specs.HalfEdge.{from, to, mate}
use Rattle.topology.specs.Manifold.{Manifold}
use Rattle.schemelaws.specs.Numerators.{edge_z, direction_z}
use Rattle.schemelaws.specs.Ordinary.{Ordinary, ordinary_edge}
use Rattle.schemelaws.specs.Agreement.{EightOrdinary}
use Rattle.schemelaws.proofs.Ties.{edge_scaled, equals_edge}
use Rattle.schemelaws.proofs.FanOfTwo.{edge_ordinary}
use Rattle.schemelaws.proofs.OneDirection.{directions_beyond, eight_beyond}

module _ (w : Weights) (near : 0 < w.near) (apart : 0 < scale w) (v : ℕ) (l marks : List ℕ) (ok : Manifold quads v l) (p : ℕ → ℤ) where
  pub edge-plain : (h : ℕ) → h < length l → (mate quads l h ≡ length l) ⊎ ((mate quads l h < length l) × Ordinary l (from l h) × Ordinary l (to quads l h))
      → edge_z w l marks p h ≡ pos (virtual_scale w) *ℤ ordinary_edge w l marks p h
  edge-plain h k c =
      equals_one (edge_z w l marks p h) (pos (virtual_scale w) *ℤ ordinary_edge w l marks p h) (equals_edge w near apart v l marks ok p h k)
      (edge_scaled w (edge_ordinary w near apart v l marks ok p h k (λ m. ⊎_elim (λ e. let z : ⊥ = omega arith in absurd z) (λ o. (o.1, o.2)) c)))

  pub directions_equal : (f : ℕ) → f < quads.faces (length l) → EightOrdinary l f → direction_z w l (edge_z w l marks p) (4 * f) ≡ direction_z w l (edge_z w l marks p) (4 * f + 1)
  directions_equal f k all = directions_beyond w near apart v l marks ok p f (eight_beyond v l ok f all) k
