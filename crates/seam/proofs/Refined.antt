-- A reading after a round is one step of the curve on the reading before it, whatever the round does away from the boundary.
use mathlib.Core.Path.{◌≡◌, refl, sym, ap, ap₂, ◌∙◌}
use mathlib.Core.Bool.{Bool, true, false}
use mathlib.Core.List.{List}
use Prim.Native.Nat.{ℕ, zero, suc, ◌+◌, ◌*◌, ◌≤◌, ◌<◌}
use native.Mathlib.Omega.{arith}
use lib.ListN.{length, get_or}
use lib.Dec.{eqb}
use Rattle.search.specs.Search.{iterate}
use Rattle.search.proofs.Quarters.{parity}
use Rattle.nets.specs.Net.{Net, marked, point_of}
use Rattle.curve.specs.Curve.{Kind, Open, Closed, Rules, Point, open_step, closed_step, curve_step}
use Rattle.curve.proofs.Symmetry.{Symmetric}
use Rattle.topology.specs.Shape.{Shape, quads}
use Rattle.topology.specs.HalfEdge.{from, to, edge}
use Rattle.topology.specs.Boundary.{OnBoundary, boundary_from, along, back, Way, with_sides, against_sides, other, boundary_step, passed}
use Rattle.topology.proofs.Boundary.{along_on, along-from, back_to, along-back}
use Rattle.topology.proofs.Loops.{passed_on, step_undone}
use Rattle.refinedfaces.proofs.Marks.{mark_old, mark_new}
use Rattle.seam.specs.Reading.{next_vertex, vertex_at, points, OpenReading, ClosedReading, ReadsIn, Reads}
use Rattle.seam.specs.BoundaryStep.{boundary_rule, boundary_point, BoundaryStep}
use Rattle.seam.specs.Seam.{AdmissibleIn}
use Rattle.seam.proofs.Interleaved.{Interleaved, open_list, closed_list}
use Rattle.seam.proofs.Vertices.{half_edge_on, vertex_at_lem, vertex_lt, boundary_refined, vertex_even, vertex_odd}
use Rattle.seam.proofs.Readings.{loop_closed, three_edges}

-- ---- the boundary rule, read either way
turned : {A : Type 0} (ℛ : Rules A) → Symmetric ℛ → (a b : Bool) (p q r s : A) → boundary_rule ℛ a b p q r s ≡ boundary_rule ℛ b a s r q p
unfolding boundary_rule
turned ℛ 𝒮 false false p q r s = 𝒮.inside p q r s
turned ℛ 𝒮 true false p q r s = refl
turned ℛ 𝒮 false true p q r s = refl
turned ℛ 𝒮 true true p q r s = 𝒮.single q r

-- the point of the edge that a step from g passes, by the vertices on that way
point_passed : (ℛ : Rules Point) → Symmetric ℛ → (S : Shape) (m : Net) → AdmissibleIn S m → (way : Way) (g : ℕ) → OnBoundary S m.faces g
    → boundary_point ℛ S m (point_of m) (passed S m.faces way g)
    ≡ boundary_rule ℛ (marked m.marks (from m.faces g)) (marked m.marks (from m.faces (boundary_step S m.faces way g)))
    (point_of m (from m.faces (boundary_step S m.faces (other way) g))) (point_of m (from m.faces g)) (point_of m (from m.faces (boundary_step S m.faces way g)))
    (point_of m (from m.faces (boundary_step S m.faces way (boundary_step S m.faces way g))))
unfolding boundary_point passed boundary_step other
point_passed ℛ 𝒮 S m ok with_sides g o =
    let v : ℕ = length m.marks in
    let l : List ℕ = m.faces in
    ap₂ (λ (r s : ℕ). boundary_rule ℛ (marked m.marks (from l g)) (marked m.marks r) (point_of m (from l (back S l g))) (point_of m (from l g)) (point_of m r) (point_of m s))
    (sym (along-from S v l ok g o)) (sym (along-from S v l ok (along S l g) (along_on S v l ok g o)))
point_passed ℛ 𝒮 S m ok against_sides g o =
    let v : ℕ = length m.marks in
    let l : List ℕ = m.faces in
    let k : ℕ = back S l g in
    turned ℛ 𝒮 (marked m.marks (from l k)) (marked m.marks (to S l k)) (point_of m (from l (back S l k))) (point_of m (from l k)) (point_of m (to S l k)) (point_of m (to S l (along S l k)))
    ∙ ap₂ (λ (r s : ℕ). boundary_rule ℛ (marked m.marks r) (marked m.marks (from l k)) (point_of m s) (point_of m r) (point_of m (from l k)) (point_of m (from l (back S l k))))
    (back_to S v l ok g o) (ap (to S l) (along-back S v l ok g o) ∙ sym (along-from S v l ok g o))

module _ (ℛ : Rules Point) (𝒮 : Symmetric ℛ) (S : Shape) (a b : Net) (ok : AdmissibleIn S a) (d : BoundaryStep ℛ S a b) (way : Way) (u : ℕ) (c : boundary_from S a.faces u < length a.faces) where
  -- ---- vertices and marks along the boundary, after the round
  at_even : (i : ℕ) → vertex_at quads b.faces way u (2 * i) ≡ vertex_at S a.faces way u i
  at_even i = ap (λ (f : List ℕ). vertex_at quads f way u (2 * i)) d.faces ∙ vertex_even S (length a.marks) a.faces ok way u c i

  at_odd : (i : ℕ) → vertex_at quads b.faces way u (suc (2 * i))
      ≡ length a.marks + edge S a.faces (passed S a.faces way (iterate (boundary_step S a.faces way) i (boundary_from S a.faces u)))
  at_odd i = ap (λ (f : List ℕ). vertex_at quads f way u (suc (2 * i))) d.faces ∙ vertex_odd S (length a.marks) a.faces ok way u c i

  marks_old : (p : ℕ) → p < length a.marks → marked b.marks p ≡ marked a.marks p
  unfolding marked
  marks_old p k = ap (λ (f : List ℕ). eqb (get_or f p 0) 1) d.marks ∙ ap (λ (n : ℕ). eqb n 1) (mark_old S (length a.marks) a.faces a.marks p k)

  marks_new : (p : ℕ) → length a.marks ≤ p → marked b.marks p ≡ false
  unfolding marked
  marks_new p k = ap (λ (f : List ℕ). eqb (get_or f p 0) 1) d.marks ∙ ap (λ (n : ℕ). eqb n 1) (mark_new S (length a.marks) a.faces a.marks p k)

  mark_even : (i : ℕ) → marked b.marks (vertex_at quads b.faces way u (2 * i)) ≡ marked a.marks (vertex_at S a.faces way u i)
  mark_even i = ap (marked b.marks) (at_even i) ∙ marks_old (vertex_at S a.faces way u i) (vertex_lt S (length a.marks) a.faces ok way u c i)

  mark_odd : (i : ℕ) → marked b.marks (vertex_at quads b.faces way u (suc (2 * i))) ≡ false
  mark_odd i = marks_new (vertex_at quads b.faces way u (suc (2 * i))) (omega (arith, at_odd i))

  boundary_after : boundary_from quads b.faces u < length b.faces
  boundary_after = rw d.faces (boundary_refined S (length a.marks) a.faces ok way u c)

  -- ---- the points after the round are interleaved with those before
  interleaved : Interleaved ℛ (λ (i : ℕ). marked a.marks (vertex_at S a.faces way u i))
      (λ (i : ℕ). point_of a (from a.faces (boundary_step S a.faces (other way) (iterate (boundary_step S a.faces way) i (boundary_from S a.faces u)))))
      (λ (i : ℕ). point_of a (vertex_at S a.faces way u i)) (λ (i : ℕ). point_of b (vertex_at quads b.faces way u i))
  unfolding iterate
  interleaved =
      let v : ℕ = length a.marks in
      let l : List ℕ = a.faces in
      let h : ℕ → ℕ = λ i. iterate (boundary_step S l way) i (boundary_from S l u) in
      let at : (i : ℕ) → vertex_at S l way u i ≡ from l (h i) = vertex_at_lem S v l ok way u c in
      let on : (i : ℕ) → OnBoundary S l (h i) = half_edge_on S v l ok way u c in
      record {
        follows = λ i. ap (λ (g : ℕ). point_of a (from l g)) (step_undone S v l ok way (h i) (on i)) ∙ ap (point_of a) (sym (at i));
        old = λ i. ap (point_of b) (at_even i ∙ at i) ∙ d.old (h i) (on i) ∙ ap (λ (x : ℕ). ℛ.keep (point_of a x)) (sym (at i));
        new = λ i. ap (point_of b) (at_odd i) ∙ d.new (passed S l way (h i)) (passed_on S v l ok way (h i) (on i))
            ∙ point_passed ℛ 𝒮 S a ok way (h i) (on i)
            ∙ rw (at i, at (suc i), at (suc (suc i)));
      }

  -- ---- open
  between_after : (n : ℕ) → ((i : ℕ) → 0 < i → i < n → marked a.marks (vertex_at S a.faces way u i) ≡ false)
      → (k : ℕ) → 0 < k → k < 2 * n → marked b.marks (vertex_at quads b.faces way u k) ≡ false
  between_after n f k = parity k (λ k. 0 < k → k < 2 * n → marked b.marks (vertex_at quads b.faces way u k) ≡ false)
      (λ j x y. mark_even j ∙ f j (omega arith) (omega arith)) (λ j x y. mark_odd j)

  open_after : (L : List Point) → OpenReading S a way u L → OpenReading quads b way u (open_step ℛ L)
  unfolding vertex_at iterate points
  open_after L r =
      let z = r.some in
      record {
        boundary = boundary_after;
        starts = mark_even 0 ∙ r.starts;
        edges = 2 * r.edges;
        some = omega arith;
        between = between_after r.edges r.between;
        ends = mark_even r.edges ∙ r.ends;
        list = ap (open_step ℛ) r.list ∙ sym (open_list ℛ r.edges interleaved r.some r.starts r.between r.ends);
      }

  -- ---- closed
  closed_points : (n : ℕ) → 0 < n → vertex_at S a.faces way u n ≡ u → ((i : ℕ) → marked a.marks (vertex_at S a.faces way u i) ≡ false)
      → points quads b way u (2 * n) ≡ closed_step ℛ (points S a way u n)
  unfolding vertex_at iterate points
  closed_points zero z e m = absurd (omega arith)
  closed_points (suc zero) z e m = absurd (omega (arith, three_edges S a ok way u 1 c z e))
  closed_points (suc (suc n)) z e m =
      let l : List ℕ = a.faces in
      let i = interleaved in
      closed_list ℛ n i m
      (sym (ap (λ (g : ℕ). point_of a (from l (boundary_step S l (other way) g))) (loop_closed S a ok way u c (suc (suc n)) e)) ∙ i.follows (suc n))
      (ap (point_of a) e) (ap (λ (x : ℕ). point_of a (next_vertex S l way x)) e)

  once_after : (n : ℕ) → ((i : ℕ) → 0 < i → i < n → vertex_at S a.faces way u i ≡ u → ⊥) → (k : ℕ) → 0 < k → k < 2 * n → vertex_at quads b.faces way u k ≡ u → ⊥
  unfolding vertex_at iterate
  once_after n f k = parity k (λ k. 0 < k → k < 2 * n → vertex_at quads b.faces way u k ≡ u → ⊥)
      (λ j x y e. f j (omega arith) (omega arith) (sym (at_even j) ∙ e))
      (λ j x y e. let s = at_odd j in let t = vertex_lt S (length a.marks) a.faces ok way u c 0 in omega arith)

  closed_after : (L : List Point) → ClosedReading S a way u L → ClosedReading quads b way u (closed_step ℛ L)
  closed_after L r =
      let z = r.some in
      record {
        boundary = boundary_after;
        unmarked = λ k. parity k (λ k. marked b.marks (vertex_at quads b.faces way u k) ≡ false) (λ j. mark_even j ∙ r.unmarked j) mark_odd;
        edges = 2 * r.edges;
        some = omega arith;
        once = once_after r.edges r.once;
        returns = at_even r.edges ∙ r.returns;
        list = ap (closed_step ℛ) r.list ∙ sym (closed_points r.edges r.some r.returns r.unmarked);
      }

pub reading_after : (ℛ : Rules Point) → Symmetric ℛ → (S : Shape) (a b : Net) → AdmissibleIn S a → BoundaryStep ℛ S a b → (way : Way) (c : Kind) (u : ℕ) (L : List Point)
    → ReadsIn S a way c u L → Reads b way c u (curve_step ℛ c L)
unfolding curve_step
reading_after ℛ 𝒮 S a b ok d way Open u L r = open_after ℛ 𝒮 S a b ok d way u r.boundary L r
reading_after ℛ 𝒮 S a b ok d way Closed u L r = closed_after ℛ 𝒮 S a b ok d way u r.boundary L r
