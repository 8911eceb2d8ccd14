-- The boundary of a refined net: the half-edge h becomes two, 4h and then 4 next h + 3, with the point of its edge between them.
use mathlib.Core.Path.{◌≡◌, sym, ap, ◌∙◌}
use mathlib.Core.List.{List}
use Prim.Native.Nat.{ℕ, ◌+◌, ◌*◌, ◌<◌}
use native.Mathlib.Decide.{dec_lt}
use native.Mathlib.Omega.{arith}
use lib.ListN.{length}
use Rattle.topology.specs.Shape.{Shape, quads}
use Rattle.topology.specs.HalfEdge.{from, to, mate, edge}
use Rattle.topology.specs.Boundary.{OnBoundary, boundary_from, boundary_into, along, back, Way, with_sides, against_sides, boundary_step, passed}
use Rattle.topology.specs.Vertex.{valence, start}
use Rattle.topology.specs.Manifold.{Manifold}
use Rattle.topology.proofs.Boundary.{boundary_from_is, boundary_into_is, back_on, back_to, boundary_from-le, boundary_from_on, boundary_from_at, to_lt}
use Rattle.refinedfaces.specs.Refined.{refined_vertices, refined}
use Rattle.refinedfaces.proofs.Corners.{length-refined, quad}
use Rattle.refinedfaces.proofs.Mates.{mate₀_none, mate₃}
use Rattle.topology.proofs.Boundary.{ring_boundary_from, ring_start}
use Rattle.refinedfaces.proofs.Rings.{ring_refined}
use Rattle.refinedfaces.proofs.Manifold.{manifold_refined}

module _ (S : Shape) (v : ℕ) (l : List ℕ) (ok : Manifold S v l) where
  pub first_half : (h : ℕ) → OnBoundary S l h → OnBoundary quads (refined S v l) (4 * h)
  first_half h o = let n = length-refined S v l in let a = o.lt in record { lt = omega arith; none = mate₀_none S v l ok.oriented h a o.none ∙ sym n }

  second_half : (h : ℕ) → OnBoundary S l h → OnBoundary quads (refined S v l) (4 * S.next h + 3)
  second_half h o =
      let n = length-refined S v l in
      let i = ok.oriented.shape.next_lt h o.lt in
      let e : mate S l (S.prev (S.next h)) ≡ length l = ap (mate S l) (ok.oriented.shape.prev_next h) ∙ o.none in
      record { lt = omega arith; none = mate₃ S v l ok.oriented (S.next h) i ∙ rw e (sym n) }

  -- what they run from and to
  pub first-from : (h : ℕ) → OnBoundary S l h → from (refined S v l) (4 * h) ≡ from l h
  first-from h o = (quad S v l h o.lt).from₀

  first_to : (h : ℕ) → OnBoundary S l h → to quads (refined S v l) (4 * h) ≡ v + edge S l h
  first_to h o = (quad S v l h o.lt).to₀

  pub second_from : (h : ℕ) → OnBoundary S l h → from (refined S v l) (4 * S.next h + 3) ≡ v + edge S l h
  second_from h o = (quad S v l (S.next h) (ok.oriented.shape.next_lt h o.lt)).from₃ ∙ ap (λ (x : ℕ). v + edge S l x) (ok.oriented.shape.prev_next h)

  second_to : (h : ℕ) → OnBoundary S l h → to quads (refined S v l) (4 * S.next h + 3) ≡ to S l h
  unfolding to
  second_to h o = (quad S v l (S.next h) (ok.oriented.shape.next_lt h o.lt)).to₃

  -- ---- at a vertex

  refined-start : (p g : ℕ) → OnBoundary quads (refined S v l) g → from (refined S v l) g ≡ p → boundary_from quads (refined S v l) p ≡ g
  refined-start = boundary_from_is quads (refined_vertices S v l) (refined S v l) (manifold_refined S v l ok)

  refined_end : (p g : ℕ) → OnBoundary quads (refined S v l) g → to quads (refined S v l) g ≡ p → boundary_into quads (refined S v l) p ≡ g
  refined_end = boundary_into_is quads (refined_vertices S v l) (refined S v l) (manifold_refined S v l ok)

  pub boundary_from_old : (p : ℕ) → p < v → boundary_from quads (refined S v l) p ≡ 4 * boundary_from S l p
  boundary_from_old p b = go (dec_lt (boundary_from S l p) (length l))
    where
      go : Dec (boundary_from S l p < length l) → boundary_from quads (refined S v l) p ≡ 4 * boundary_from S l p
      go (yes c) = let o = boundary_from_on S l p c in refined-start p (4 * boundary_from S l p) (first_half (boundary_from S l p) o) (first-from (boundary_from S l p) o ∙ boundary_from_at S l p c)
      go (no c) =
          let e : boundary_from S l p ≡ length l = omega (arith, boundary_from-le S l p) in
          let n = length-refined S v l in
          let x = ring_boundary_from quads (refined_vertices S v l) (refined S v l) (manifold_refined S v l ok).oriented p (4 * start S l p) (valence l p) (ring_refined S v l ok.oriented p (start S l p) (valence l p) b (ring_start S v l ok p b e)) in
          omega arith

  boundary_from-edge : (h : ℕ) → OnBoundary S l h → boundary_from quads (refined S v l) (v + edge S l h) ≡ 4 * S.next h + 3
  boundary_from-edge h o = refined-start (v + edge S l h) (4 * S.next h + 3) (second_half h o) (second_from h o)

  boundary_into_old : (h : ℕ) → OnBoundary S l h → boundary_into quads (refined S v l) (to S l h) ≡ 4 * S.next h + 3
  boundary_into_old h o = refined_end (to S l h) (4 * S.next h + 3) (second_half h o) (second_to h o)

  boundary_into-edge : (h : ℕ) → OnBoundary S l h → boundary_into quads (refined S v l) (v + edge S l h) ≡ 4 * h
  boundary_into-edge h o = refined_end (v + edge S l h) (4 * h) (first_half h o) (first_to h o)

  -- ---- one step along, and one back

  along-first : (h : ℕ) → OnBoundary S l h → along quads (refined S v l) (4 * h) ≡ 4 * S.next h + 3
  unfolding along
  along-first h o = ap (boundary_from quads (refined S v l)) (first_to h o) ∙ boundary_from-edge h o

  along_second : (h : ℕ) → OnBoundary S l h → along quads (refined S v l) (4 * S.next h + 3) ≡ 4 * along S l h
  unfolding along
  along_second h o = ap (boundary_from quads (refined S v l)) (second_to h o) ∙ boundary_from_old (to S l h) (to_lt S v l ok h o.lt)

  back_second : (h : ℕ) → OnBoundary S l h → back quads (refined S v l) (4 * S.next h + 3) ≡ 4 * h
  unfolding back
  back_second h o = ap (boundary_into quads (refined S v l)) (second_from h o) ∙ boundary_into-edge h o

  back-first : (h : ℕ) → OnBoundary S l h → back quads (refined S v l) (4 * h) ≡ 4 * S.next (back S l h) + 3
  unfolding back
  back-first h o =
      let b = back_on S v l ok h o in
      ap (boundary_into quads (refined S v l)) (first-from h o ∙ sym (back_to S v l ok h o)) ∙ boundary_into_old (back S l h) b

  -- one step either way
  pub step-first : (w : Way) (h : ℕ) → OnBoundary S l h → boundary_step quads (refined S v l) w (4 * h) ≡ 4 * S.next (passed S l w h) + 3
  unfolding boundary_step passed
  step-first with_sides h o = along-first h o
  step-first against_sides h o = back-first h o

  pub step_second : (w : Way) (h : ℕ) → OnBoundary S l h → boundary_step quads (refined S v l) w (4 * S.next (passed S l w h) + 3) ≡ 4 * boundary_step S l w h
  unfolding boundary_step passed
  step_second with_sides h o = along_second h o
  step_second against_sides h o = back_second (back S l h) (back_on S v l ok h o)
