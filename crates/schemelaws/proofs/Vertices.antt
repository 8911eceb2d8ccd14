-- The vertices of a manifold net: the fan of a boundary vertex P, whose two end neighbours lie on the boundary, and the ring of an inner one, which comes round.
use mathlib.Core.Path.{◌≡◌, refl, sym, ap, ◌∙◌, subst}
use mathlib.Core.List.{List}
use Prim.Native.Nat.{ℕ, zero, suc, ◌+◌, ◌-◌, ◌≤◌, ◌<◌}
use native.Mathlib.Omega.{arith}
use lib.IntN.{ℤ, pos, ◌*ℤ◌}
use lib.ListN.{length}
use borrow.Author.Tests.{eq-eqb, eqb-true}
use lib.Dec.{eqb}
use Rattle.search.specs.Search.{first, iterate}
use Rattle.search.proofs.Iterate.{iterate-add}
use Rattle.search.proofs.First.{first_holds, first_reach}
use Rattle.rings.specs.Ring.{Periodic}
use Rattle.rings.specs.Scales.{extrapolated_scale}
use Rattle.topology.specs.Shape.{quads}
use Rattle.topology.specs.HalfEdge.{from, to, mate}
use Rattle.topology.specs.Boundary.{OnBoundary, boundary_from, along, back}
use Rattle.topology.specs.Vertex.{valence, turn, turns, Ring, Fan}
use Rattle.topology.specs.Manifold.{Manifold}
use Rattle.topology.proofs.Boundary.{boundary_from-le, boundary_from_on, boundary_from_at, boundary_from_is, to_lt, along_on, back_on, ring_start, ring_range}
use Rattle.topology.proofs.Rings.{ring_at}
use Rattle.topology.proofs.Walks.{fan_from, fan_from-le, back-turns}
use Rattle.topology.specs.Quads.{opposite_corner, fan_end, fan_place}
use Rattle.schemelaws.specs.Numerators.{ring_neighbour_z, ring_corner_z}

module _ (v : ℕ) (l : List ℕ) (ok : Manifold quads v l) where
  pub opposite_below : (h : ℕ) → h < length l → opposite_corner l h < v
  unfolding opposite_corner
  opposite_below h k = to_lt quads v l ok (quads.next h) (ok.oriented.shape.next_lt h k)

  -- ---- a boundary vertex
  module _ (P : ℕ) (b : boundary_from quads l P < length l) where
    starts : OnBoundary quads l (boundary_from quads l P)
    starts = boundary_from_on quads l P b

    leaves_P : from l (boundary_from quads l P) ≡ P
    leaves_P = boundary_from_at quads l P b

    pub boundary_below : P < v
    boundary_below = subst (λ (q : ℕ). q < v) leaves_P (ok.oriented.below (boundary_from quads l P) b)

    pub fan_at : Fan quads l P (boundary_from quads l P) (valence l P)
    fan_at = subst (λ (q : ℕ). Fan quads l q (boundary_from quads l P) (valence l q)) leaves_P (fan_from quads v l ok (boundary_from quads l P) starts)

    pub fan_le : valence l P ≤ 6
    fan_le = subst (λ (q : ℕ). valence l q ≤ 6) leaves_P (fan_from-le quads v l ok (boundary_from quads l P) starts)

    pub fan_end_below : (i : ℕ) → i ≤ valence l P → fan_end l (boundary_from quads l P) i < v
    unfolding fan_end
    fan_end_below zero h = to_lt quads v l ok (boundary_from quads l P) b
    fan_end_below (suc i) h = ok.oriented.below (quads.prev (turns quads l i (boundary_from quads l P))) (ok.oriented.shape.prev_lt (turns quads l i (boundary_from quads l P)) (fan_at.walk.inside i (omega arith)))

    pub fan_opposite_below : (i : ℕ) → i < valence l P → opposite_corner l (turns quads l i (boundary_from quads l P)) < v
    fan_opposite_below i h = opposite_below (turns quads l i (boundary_from quads l P)) (fan_at.walk.inside i h)

    -- its end neighbours b and c lie on the boundary too
    pub first_end : boundary_from quads l (fan_end l (boundary_from quads l P) 0) < length l
    unfolding fan_end along
    first_end = (along_on quads v l ok (boundary_from quads l P) starts).lt

    pub last_end : boundary_from quads l (fan_end l (boundary_from quads l P) (valence l P)) < length l
    unfolding fan_end
    last_end =
        let m : ℕ = valence l P in
        let g : ℕ = back quads l (boundary_from quads l P) in
        let o = back_on quads v l ok (boundary_from quads l P) starts in
        let k = o.lt in
        let e : suc (m - 1) ≡ m = omega (arith, fan_at.some) in
        let t : g ≡ quads.prev (turns quads l (m - 1) (boundary_from quads l P)) =
        subst (λ (q : ℕ). g ≡ quads.prev (turns quads l (valence l q - 1) (boundary_from quads l P))) leaves_P (back-turns quads v l ok (boundary_from quads l P) starts) in
        let f : boundary_from quads l (from l g) < length l = let x = boundary_from_is quads v l ok (from l g) g o refl in omega arith in
        subst (λ (i : ℕ). boundary_from quads l (fan_end l (boundary_from quads l P) i) < length l) e (subst (λ (q : ℕ). boundary_from quads l (from l q) < length l) t f)

    -- the place of a half-edge that leaves P; that of an inner one is not the first
    pub place_at : (h : ℕ) → h < length l → from l h ≡ P → (fan_place l P h < valence l P) × (turns quads l (fan_place l P h) (boundary_from quads l P) ≡ h)
    unfolding fan_place
    place_at h k e =
        let s : ℕ = boundary_from quads l P in
        let x = fan_at.walk.all h k e in
        let r = first_reach (λ (i : ℕ). eqb (turns quads l i s) h) (valence l P) x.0 x.1 (eq-eqb (turns quads l x.0 s) h x.2) in
        let j : first (λ (i : ℕ). eqb (turns quads l i s) h) (valence l P) < valence l P = omega (arith, x.1) in
        (j, eqb-true (turns quads l (first (λ (i : ℕ). eqb (turns quads l i s) h) (valence l P)) s) h (first_holds (λ (i : ℕ). eqb (turns quads l i s) h) (valence l P) j))

    pub place_inner : (h : ℕ) → h < length l → from l h ≡ P → mate quads l h < length l → 0 < fan_place l P h
    unfolding iterate
    place_inner h k e m =
        let x = place_at h k e in
        go (fan_place l P h) x.1
      where
        go : (j : ℕ) → turns quads l j (boundary_from quads l P) ≡ h → 0 < j
        go zero q = let o = starts.none in let z : mate quads l (boundary_from quads l P) < length l = subst (λ (g : ℕ). mate quads l g < length l) (sym q) m in let y : ⊥ = omega arith in absurd y
        go (suc j) q = omega arith

  -- ---- an inner vertex, seen from a half-edge that leaves it
  module _ (h : ℕ) (k : h < length l) (b : length l ≤ boundary_from quads l (from l h)) where
    none : boundary_from quads l (from l h) ≡ length l
    none = let x = boundary_from-le quads l (from l h) in omega arith

    pub ring_of_lem : Ring quads l (from l h) h (valence l (from l h))
    ring_of_lem = ring_at quads v l ok.oriented (from l h) _ (valence l (from l h)) (ring_start quads v l ok (from l h) (ok.oriented.below h k) none) h k refl

    pub ring_ge : 3 ≤ valence l (from l h)
    ring_ge = (ring_range quads v l ok (from l h) (ok.oriented.below h k) none).0

    pub ring_le : valence l (from l h) ≤ 8
    ring_le = (ring_range quads v l ok (from l h) (ok.oriented.below h k) none).1

    -- the half-edges that leave it
    pub turns-lt : (i : ℕ) → i < valence l (from l h) → turns quads l i h < length l
    turns-lt i c = ring_of_lem.walk.inside i c

-- ---- a full ring comes round
pub comes_round : (l : List ℕ) (P h n : ℕ) → Ring quads l P h n → (i : ℕ) → turns quads l (i + n) h ≡ turns quads l i h
comes_round l P h n r i = iterate-add (turn quads l) i n h ∙ ap (turns quads l i) r.back

module _ (l : List ℕ) (p : ℕ → ℤ) (P h n : ℕ) (r : Ring quads l P h n) where
  pub neighbours_periodic : Periodic n (ring_neighbour_z l p h)
  unfolding ring_neighbour_z
  neighbours_periodic = record { again = λ i. ap (λ (g : ℕ). pos extrapolated_scale *ℤ p (to quads l g)) (comes_round l P h n r i) }

  pub corners_periodic : Periodic n (ring_corner_z l p h)
  unfolding ring_corner_z
  corners_periodic = record { again = λ i. ap (λ (g : ℕ). pos extrapolated_scale *ℤ p (opposite_corner l g)) (comes_round l P h n r i) }
