-- The extrapolated point of a boundary vertex from its gathered fan.
use mathlib.Core.Path.{◌≡◌, refl, sym, ap, ap₂, ◌∙◌}
use mathlib.Core.List.{List}
use Prim.Native.Nat.{ℕ, zero, suc, ◌-◌, ◌*◌, ◌/◌, ◌≤◌, ◌<◌}
use native.Mathlib.Omega.{arith}
use lib.IntN.{ℤ, pos, nat_abs, ◌-ℤ◌, ◌*ℤ◌}
use lib.ListN.{length, get_or}
use borrow.Author.Tests.{eq-eqb, ne_eqb}
use Rattle.search.specs.Search.{iterate}
use Rattle.integers.specs.Sum.{sum}
use Rattle.integers.specs.Within.{Within}
use Rattle.integers.proofs.Sum.{sum_cong}
use Rattle.rings.specs.Scales.{extrapolated_scale, coordinate_range, extrapolated_range}
use Rattle.topology.specs.Shape.{quads}
use Rattle.topology.specs.HalfEdge.{from, to}
use Rattle.topology.specs.Boundary.{OnBoundary, boundary_from}
use Rattle.topology.specs.Vertex.{valence, turns}
use Rattle.topology.specs.Manifold.{Manifold}
use Rattle.topology.specs.Quads.{fan_end}
use Rattle.topology.proofs.Boundary.{boundary_from_is}
use Rattle.topology.proofs.Turn.{turn_to}
use Rattle.topology.proofs.Walks.{fan_from}
use Rattle.schemelaws.specs.Numerators.{extrapolated_at_z}
use Rattle.schemelaws.proofs.Sizes.{extrapolated_at_size}
use Rattle.nets.specs.Net.{axis}
use Rattle.coordinates.specs.declared.Axes.{Axes}
use Rattle.coordinates.specs.Points.{OnAxes, Bounded}
use Rattle.coordinates.proofs.Values.{axis_bound}
use Rattle.extrapolation.specs.Gathered.{OpenFan}
use Rattle.extrapolation.specs.Exact.{extrapolated_on}
use Rattle.ringsums.specs.declared.Fan.{Fan}
use Rattle.ringsums.proofs.Sums.{vertex_of}

module _ (v : ℕ) (l : List ℕ) (ok : Manifold quads v l) (s : ℕ) (o : OnBoundary quads l s) where
  starts : boundary_from quads l (from l s) ≡ s
  starts = boundary_from_is quads v l ok (from l s) s o refl

  -- the ends of a fan's edges are those of its half-edges
  pub end_inside_lem : (i : ℕ) → i < valence l (from l s) → fan_end l s i ≡ to quads l (turns quads l i s)
  unfolding fan_end iterate
  end_inside_lem zero b = refl
  end_inside_lem (suc i) b = sym (turn_to quads v l ok.oriented (turns quads l i s) ((fan_from quads v l ok s o).walk.inside (suc i) b))

  -- it is within three times the largest coordinate
  extrapolated_size : (t : List ℤ) → Within coordinate_range t → (a : ℕ) → nat_abs (extrapolated_on l t s a) ≤ extrapolated_range
  extrapolated_size t b a =
      let e = starts in
      let q : boundary_from quads l (from l s) < length l = rw e o.lt in
      let x = extrapolated_at_size v l ok (axis t a) coordinate_range (λ x k. axis_bound t a x b) (from l s) q in
      omega arith

  pub extrapolated_small : (t : List ℤ) → Within coordinate_range t → (p : Axes ℤ) → OnAxes (extrapolated_on l t s) p.x p.y p.z → Bounded extrapolated_range p
  extrapolated_small t b p f =
      let e₀ = ap nat_abs f.on₀ in
      let e₁ = ap nat_abs f.on₁ in
      let e₂ = ap nat_abs f.on₂ in
      let s₀ = extrapolated_size t b 0 in
      let s₁ = extrapolated_size t b 1 in
      let s₂ = extrapolated_size t b 2 in
      record { on₀ = omega arith; on₁ = omega arith; on₂ = omega arith }

-- what the code makes of it
module _ (l : List ℕ) (s : ℕ) (fan : Fan) (f : OpenFan l s fan) (t : List ℤ) (a : ℕ) (P Q r : ℤ) (e_p : P ≡ axis t a (from l s)) where
  pub corner_made : fan.count ≡ 1 → Q ≡ axis t a (get_or fan.opposites 0 0) → r ≡ pos (2 * extrapolated_scale) *ℤ P -ℤ pos extrapolated_scale *ℤ Q → r ≡ extrapolated_on l t s a
  unfolding extrapolated_at_z iterate
  corner_made c e_q er =
      let d = starts f.vertices l f.net s f.start in
      let q = eq-eqb (valence l (from l s)) 1 (sym f.count ∙ c) in
      let x = f.filled.corners 0 f.some in
      rw (q, d) (er ∙ ap₂ (λ (y z : ℤ). pos (2 * extrapolated_scale) *ℤ y -ℤ pos extrapolated_scale *ℤ z) e_p (e_q ∙ ap (axis t a) x))

  -- far being the neighbours after the first
  pub mean_made : (fan.count ≡ 1 → ⊥) → (far : List ℕ) → length far ≡ fan.count - 1 → ((i : ℕ) → i < fan.count - 1 → get_or far i 0 ≡ get_or fan.neighbours (suc i) 0)
      → Q ≡ sum (length far) (vertex_of t a far) → r ≡ pos (2 * extrapolated_scale) *ℤ P -ℤ pos (extrapolated_scale / (fan.count - 1)) *ℤ Q → r ≡ extrapolated_on l t s a
  unfolding extrapolated_at_z
  mean_made n far size read e_q er =
      let d = starts f.vertices l f.net s f.start in
      let c = f.count in
      let q = ne_eqb (valence l (from l s)) 1 (λ x. n (c ∙ x)) in
      let g : sum (fan.count - 1) (vertex_of t a far) ≡ sum (fan.count - 1) (λ (i : ℕ). axis t a (fan_end l s (suc i))) =
      sum_cong (fan.count - 1) (vertex_of t a far) (λ (i : ℕ). axis t a (fan_end l s (suc i)))
      (λ i b. ap (axis t a) (read i b ∙ f.filled.neighbours (suc i) (omega arith) ∙ sym (end_inside_lem f.vertices l f.net s f.start (suc i) (omega arith)))) in
      let y : r ≡ pos (2 * extrapolated_scale) *ℤ axis t a (from l s) -ℤ pos (extrapolated_scale / (fan.count - 1)) *ℤ sum (fan.count - 1) (λ (i : ℕ). axis t a (fan_end l s (suc i))) =
      er ∙ ap₂ (λ (y z : ℤ). pos (2 * extrapolated_scale) *ℤ y -ℤ pos (extrapolated_scale / (fan.count - 1)) *ℤ z) e_p (e_q ∙ ap (λ (k : ℕ). sum k (vertex_of t a far)) size ∙ g) in
      rw (q, d) (rw c at y)
