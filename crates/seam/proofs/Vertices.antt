-- The vertices along the boundary are the starts of its half-edges; after a round the old ones follow each other with the point of an edge between each two.
use mathlib.Core.Path.{◌≡◌, refl, sym, ap, ◌∙◌}
use mathlib.Core.List.{List}
use Prim.Native.Nat.{ℕ, zero, suc, ◌+◌, ◌*◌, ◌<◌}
use native.Mathlib.Omega.{arith}
use lib.ListN.{length}
use Rattle.search.specs.Search.{iterate}
use Rattle.topology.specs.Shape.{Shape, quads}
use Rattle.topology.specs.HalfEdge.{from, to, edge}
use Rattle.topology.specs.Boundary.{OnBoundary, boundary_from, back, Way, with_sides, against_sides, boundary_step, passed}
use Rattle.topology.specs.Manifold.{Manifold}
use Rattle.topology.proofs.Boundary.{boundary_from_on, boundary_from_at, boundary_from_is, along-from}
use Rattle.topology.proofs.Loops.{steps_on}
use Rattle.refinedfaces.specs.Refined.{refined_vertices, refined}
use Rattle.refinedfaces.proofs.Manifold.{manifold_refined}
use Rattle.refinedfaces.proofs.Boundary.{first_half, first-from, boundary_from_old}
use Rattle.refinedfaces.proofs.Corners.{length-refined}
use Rattle.refinedfaces.proofs.Loops.{steps_vertex, steps-edge}
use Rattle.seam.specs.Reading.{next_vertex, vertex_at}

module _ (S : Shape) (v : ℕ) (l : List ℕ) (ok : Manifold S v l) where
  next_step : (way : Way) (h : ℕ) → OnBoundary S l h → next_vertex S l way (from l h) ≡ from l (boundary_step S l way h)
  unfolding next_vertex boundary_step back
  next_step with_sides h o = ap (to S l) (boundary_from_is S v l ok (from l h) h o refl) ∙ sym (along-from S v l ok h o)
  next_step against_sides h o = refl

  pub vertex_from : (way : Way) (h i : ℕ) → OnBoundary S l h → vertex_at S l way (from l h) i ≡ from l (iterate (boundary_step S l way) i h)
  unfolding vertex_at iterate
  vertex_from way h zero o = refl
  vertex_from way h (suc i) o = ap (next_vertex S l way) (vertex_from way h i o) ∙ next_step way (iterate (boundary_step S l way) i h) (steps_on S v l ok way i h o)

module _ (S : Shape) (v : ℕ) (l : List ℕ) (ok : Manifold S v l) (way : Way) (u : ℕ) (b : boundary_from S l u < length l) where
  -- the half-edge i steps on from the one that leaves u; it leaves the vertex i edges on
  pub half_edge_on : (i : ℕ) → OnBoundary S l (iterate (boundary_step S l way) i (boundary_from S l u))
  half_edge_on i = steps_on S v l ok way i (boundary_from S l u) (boundary_from_on S l u b)

  pub vertex_at_lem : (i : ℕ) → vertex_at S l way u i ≡ from l (iterate (boundary_step S l way) i (boundary_from S l u))
  vertex_at_lem i =
      ap (λ (x : ℕ). vertex_at S l way x i) (sym (boundary_from_at S l u b))
      ∙ vertex_from S v l ok way (boundary_from S l u) i (boundary_from_on S l u b)

  pub vertex_lt : (i : ℕ) → vertex_at S l way u i < v
  vertex_lt i = let e = vertex_at_lem i in let k = ok.oriented.below (iterate (boundary_step S l way) i (boundary_from S l u)) (half_edge_on i).lt in omega arith

  -- it too is on the boundary
  pub boundary_at : (i : ℕ) → boundary_from S l (vertex_at S l way u i) < length l
  boundary_at i =
      let h : ℕ = iterate (boundary_step S l way) i (boundary_from S l u) in
      let e = boundary_from_is S v l ok (vertex_at S l way u i) h (half_edge_on i) (sym (vertex_at_lem i)) in
      let k = (half_edge_on i).lt in
      omega arith

  -- ---- after a round
  pub boundary_refined : boundary_from quads (refined S v l) u < length (refined S v l)
  unfolding vertex_at iterate
  boundary_refined = let e = boundary_from_old S v l ok u (vertex_lt 0) in let n = length-refined S v l in omega arith

  refined_at_lem : (i : ℕ) → vertex_at quads (refined S v l) way u i ≡ from (refined S v l) (iterate (boundary_step quads (refined S v l) way) i (4 * boundary_from S l u))
  refined_at_lem i =
      let h : ℕ = boundary_from S l u in
      let o = boundary_from_on S l u b in
      ap (λ (x : ℕ). vertex_at quads (refined S v l) way x i) (sym (first-from S v l ok h o ∙ boundary_from_at S l u b))
      ∙ vertex_from quads (refined_vertices S v l) (refined S v l) (manifold_refined S v l ok) way (4 * h) i (first_half S v l ok h o)

  pub vertex_even : (i : ℕ) → vertex_at quads (refined S v l) way u (2 * i) ≡ vertex_at S l way u i
  vertex_even i = refined_at_lem (2 * i) ∙ steps_vertex S v l ok way i (boundary_from S l u) (boundary_from_on S l u b) ∙ sym (vertex_at_lem i)

  pub vertex_odd : (i : ℕ) → vertex_at quads (refined S v l) way u (suc (2 * i)) ≡ v + edge S l (passed S l way (iterate (boundary_step S l way) i (boundary_from S l u)))
  vertex_odd i = refined_at_lem (suc (2 * i)) ∙ steps-edge S v l ok way i (boundary_from S l u) (boundary_from_on S l u b)
