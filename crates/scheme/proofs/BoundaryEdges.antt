-- The point on a boundary edge, rounded, is what the curve's rules give, by the marks at its start and its end.
use mathlib.Core.Path.{◌≡◌}
use mathlib.Core.Bool.{true, false}
use mathlib.Core.List.{List}
use Prim.Native.Nat.{ℕ, ◌<◌}
use native.Mathlib.Omega.{arith}
use lib.Dec.{ltb}
use lib.IntN.{ℤ}
use lib.ListN.{length}
use borrow.Author.Tests.{le-ltb}
use Rattle.curve.specs.Weights.{Weights, scale}
use Rattle.curve.specs.Curve.{rounded}
use Rattle.fractions.specs.Fraction.{to_whole}
use Rattle.rules.proofs.Ties.{interior-rounded, end_rounded, single_rounded}
use Rattle.topology.specs.Shape.{quads}
use Rattle.topology.specs.HalfEdge.{from, to, mate}
use Rattle.topology.specs.Boundary.{OnBoundary, along, back}
use Rattle.scheme.specs.Points.{edge_rule, edge_value, edge_point}
use Rattle.nets.specs.Net.{marked}

module _ (w : Weights) (some : 0 < scale w) (l marks : List ℕ) (p : ℕ → ℤ) (h : ℕ) (o : OnBoundary quads l h) where
  no_mate : ltb (mate quads l h) (length l) ≡ false
  no_mate = le-ltb (mate quads l h) (length l) (omega (arith, o.none))

  pub inside_rounded : marked marks (from l h) ≡ false → marked marks (to quads l h) ≡ false
      → to_whole (edge_point w l marks p h) ≡ (rounded w).inside (p (from l (back quads l h))) (p (from l h)) (p (to quads l h)) (p (to quads l (along quads l h)))
  unfolding edge_point edge_rule edge_value
  inside_rounded a b = let c = no_mate in rw (c, a, b) (interior-rounded w some (p (from l (back quads l h))) (p (from l h)) (p (to quads l h)) (p (to quads l (along quads l h))))

  pub start-rounded : marked marks (from l h) ≡ true → marked marks (to quads l h) ≡ false
      → to_whole (edge_point w l marks p h) ≡ (rounded w).end (p (from l h)) (p (to quads l h)) (p (to quads l (along quads l h)))
  unfolding edge_point edge_rule edge_value
  start-rounded a b = let c = no_mate in rw (c, a, b) (end_rounded w some (p (from l h)) (p (to quads l h)) (p (to quads l (along quads l h))))

  pub finish_rounded : marked marks (from l h) ≡ false → marked marks (to quads l h) ≡ true
      → to_whole (edge_point w l marks p h) ≡ (rounded w).end (p (to quads l h)) (p (from l h)) (p (from l (back quads l h)))
  unfolding edge_point edge_rule edge_value
  finish_rounded a b = let c = no_mate in rw (c, a, b) (end_rounded w some (p (to quads l h)) (p (from l h)) (p (from l (back quads l h))))

  pub whole-rounded : marked marks (from l h) ≡ true → marked marks (to quads l h) ≡ true
      → to_whole (edge_point w l marks p h) ≡ (rounded w).single (p (from l h)) (p (to quads l h))
  unfolding edge_point edge_rule edge_value
  whole-rounded a b = let c = no_mate in rw (c, a, b) (single_rounded w some (p (from l h)) (p (to quads l h)))
