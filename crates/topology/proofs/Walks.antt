-- The half-edge before a boundary half-edge, found by turning round its start.
use mathlib.Core.Path.{◌≡◌, refl, ◌∙◌, subst}
use mathlib.Core.List.{List}
use Prim.Native.Nat.{ℕ, ◌-◌, ◌≤◌, ◌<◌}
use native.Mathlib.Omega.{arith}
use lib.ListN.{length}
use Rattle.topology.specs.Shape.{Shape}
use Rattle.topology.specs.HalfEdge.{from}
use Rattle.topology.specs.Boundary.{OnBoundary, boundary_from, back}
use Rattle.topology.specs.Vertex.{valence, turns, Fan}
use Rattle.topology.specs.Manifold.{Manifold}
use Rattle.topology.proofs.Boundary.{start_open, fan_start, fan_range, fan_boundary_into, boundary_from_is}

module _ (S : Shape) (v : ℕ) (l : List ℕ) (ok : Manifold S v l) (h : ℕ) (o : OnBoundary S l h) where
  starts : boundary_from S l (from l h) ≡ h
  starts = boundary_from_is S v l ok (from l h) h o refl

  start-lt : boundary_from S l (from l h) < length l
  start-lt = let e = starts in let k = o.lt in omega arith

  -- the fan at the start of h begins with h, and has 1 to 6 faces
  pub fan_from : Fan S l (from l h) h (valence l (from l h))
  fan_from = subst (λ (g : ℕ). Fan S l (from l h) g (valence l (from l h))) (start_open S l (from l h) start-lt ∙ starts) (fan_start S v l ok (from l h) (ok.oriented.below h o.lt) start-lt)

  pub fan_from-le : valence l (from l h) ≤ 6
  fan_from-le = (fan_range S v l ok (from l h) (ok.oriented.below h o.lt) start-lt).1

  -- turning from h to the last half-edge of the fan leads to the half-edge before h
  pub back-turns : back S l h ≡ S.prev (turns S l (valence l (from l h) - 1) h)
  unfolding back
  back-turns = fan_boundary_into S v l ok.oriented (from l h) h (valence l (from l h)) fan_from
