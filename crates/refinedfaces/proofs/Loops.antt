-- The loops of a refined net: each step along the boundary, with the sides or against them, becomes two.
use mathlib.Core.Path.{◌≡◌, refl, ap, ◌∙◌}
use mathlib.Core.List.{List}
use Prim.Native.Nat.{ℕ, zero, suc, ◌+◌, ◌*◌}
use native.Mathlib.Omega.{arith}
use Rattle.search.specs.Search.{iterate}
use Rattle.topology.specs.Shape.{Shape, quads}
use Rattle.topology.specs.HalfEdge.{from, edge}
use Rattle.topology.specs.Boundary.{OnBoundary, Way, boundary_step, passed}
use Rattle.topology.specs.Manifold.{Manifold}
use Rattle.topology.proofs.Loops.{passed_on, steps_on}
use Rattle.refinedfaces.specs.Refined.{refined}
use Rattle.refinedfaces.proofs.Boundary.{first-from, second_from, step-first, step_second}

module _ (S : Shape) (v : ℕ) (l : List ℕ) (ok : Manifold S v l) (w : Way) where
  steps_even : (k h : ℕ) → OnBoundary S l h → iterate (boundary_step quads (refined S v l) w) (2 * k) (4 * h) ≡ 4 * iterate (boundary_step S l w) k h
  unfolding iterate
  steps_even zero h o = refl
  steps_even (suc k) h o =
      let g = steps_on S v l ok w k h o in
      let e : 2 * suc k ≡ suc (suc (2 * k)) = omega arith in
      rw e (ap (λ (x : ℕ). boundary_step quads (refined S v l) w (boundary_step quads (refined S v l) w x)) (steps_even k h o)
      ∙ ap (boundary_step quads (refined S v l) w) (step-first S v l ok w (iterate (boundary_step S l w) k h) g)
      ∙ step_second S v l ok w (iterate (boundary_step S l w) k h) g)

  steps_odd : (k h : ℕ) → OnBoundary S l h → iterate (boundary_step quads (refined S v l) w) (suc (2 * k)) (4 * h) ≡ 4 * S.next (passed S l w (iterate (boundary_step S l w) k h)) + 3
  unfolding iterate
  steps_odd k h o = ap (boundary_step quads (refined S v l) w) (steps_even k h o) ∙ step-first S v l ok w (iterate (boundary_step S l w) k h) (steps_on S v l ok w k h o)

  -- the vertices on the way: the old ones, and between each two the point of the edge
  pub steps_vertex : (k h : ℕ) → OnBoundary S l h → from (refined S v l) (iterate (boundary_step quads (refined S v l) w) (2 * k) (4 * h)) ≡ from l (iterate (boundary_step S l w) k h)
  steps_vertex k h o = ap (from (refined S v l)) (steps_even k h o) ∙ first-from S v l ok (iterate (boundary_step S l w) k h) (steps_on S v l ok w k h o)

  pub steps-edge : (k h : ℕ) → OnBoundary S l h → from (refined S v l) (iterate (boundary_step quads (refined S v l) w) (suc (2 * k)) (4 * h)) ≡ v + edge S l (passed S l w (iterate (boundary_step S l w) k h))
  steps-edge k h o =
      let g : ℕ = iterate (boundary_step S l w) k h in
      ap (from (refined S v l)) (steps_odd k h o) ∙ second_from S v l ok (passed S l w g) (passed_on S v l ok w g (steps_on S v l ok w k h o))
