-- A fan of two gives the end rule: at a boundary vertex P in two faces the virtual point on the inner edge PQ is Q mirrored at P, since P* stands straight across. So the
-- point on an inner edge between ordinary vertices is the four-point rule over the scale alone: between two rings of four the interior rule, at a fan of two the
-- end rule that starts there, between two fans of two the midpoint. At any weights; assumes a manifold net.
use mathlib.Core.Path.{◌≡◌, refl, sym, ap, ap₂, ◌∙◌, subst}
use mathlib.Core.List.{List, [], ◌∷◌}
use Prim.Native.Nat.{ℕ, ◌+◌, ◌*◌, ◌<◌}
use native.Mathlib.Nat.{mul-one}
use native.Mathlib.Decide.{dec_lt}
use native.Mathlib.Omega.{arith}
use lib.Dec.{lit≤}
use lib.IntN.{ℤ, pos, ◌*ℤ◌}
use lib.ListN.{length}
use borrow.Author.Tests.{lt-ltb, le-ltb}
use Rattle.search.specs.Search.{iterate}
use Rattle.integers.specs.Sum.{sum}
use Rattle.integers.proofs.Polynomial.{var, lit, ◌⊞◌, ◌⊟◌, ◌⊠◌, same}
use Rattle.curve.specs.Weights.{Weights, scale, interior, mirror}
use Rattle.fractions.specs.Fraction.{whole, Equals}
use Rattle.fractions.proofs.Laws.{equals_whole, equals_cong, equals_reduced}
use Rattle.rings.specs.Ring.{wrap}
use Rattle.rings.specs.Scales.{extrapolated_scale}
use Rattle.rings.proofs.Periodic.{wrap_periodic}
use Rattle.rings.proofs.Ties.{straight-across}
use Rattle.rules.proofs.Ties.{whole_over, equals_interior}
use Rattle.topology.specs.Shape.{quads}
use Rattle.topology.specs.HalfEdge.{from, to, mate}
use Rattle.topology.specs.Boundary.{boundary_from}
use Rattle.topology.specs.Vertex.{valence, turn, turns, Ring}
use Rattle.topology.specs.Manifold.{Manifold}
use Rattle.topology.proofs.Turn.{turn_to}
use Rattle.topology.proofs.Mates.{mate_is, mate-back}
use Rattle.scheme.specs.Rings.{fan_neighbour, fan_corner, ring_virtual, fan_virtual, virtual_at}
use Rattle.topology.specs.Quads.{opposite_corner, fan_end, fan_place}
use Rattle.scheme.specs.Points.{edge_point}
use Rattle.schemelaws.specs.Numerators.{extrapolated_at_z, fan_neighbour_z, fan_corner_z, ring_neighbour_z, ring_corner_z}
use Rattle.schemelaws.specs.Ordinary.{Ordinary, ring_of_four, fan_of_two, straight, ordinary_value, ordinary_edge}
use Rattle.schemelaws.proofs.Vertices.{ring_of_lem, place_at, place_inner, neighbours_periodic, corners_periodic}
use Rattle.schemelaws.proofs.Ties.{equals_fan_neighbour, equals_fan_corner, inner_rule_lem, point_inner, equals_boundary}

-- ---- what lies straight across, by the kind of the vertex
module _ (l : List ℕ) (p : ℕ → ℤ) (h : ℕ) where
  straight_ring : boundary_from quads l (from l h) ≡ length l → straight l p h ≡ p (to quads l (turns quads l 2 h))
  unfolding straight
  straight_ring b = let t = le-ltb (boundary_from quads l (from l h)) (length l) (omega arith) in rw t

  straight_fan : boundary_from quads l (from l h) < length l → straight l p h ≡ mirror (p (from l h)) (p (to quads l h))
  unfolding straight
  straight_fan b = let t = lt-ltb (boundary_from quads l (from l h)) (length l) b in rw t

-- ---- virtual points
module _ (w : Weights) (near : 0 < w.near) (v : ℕ) (l : List ℕ) (ok : Manifold quads v l) (p : ℕ → ℤ) (h : ℕ) (k : h < length l) where
  -- at a fan of two
  module _ (m : mate quads l h < length l) (b : boundary_from quads l (from l h) < length l) (two : valence l (from l h) ≡ 2) where
    abbrev s : ℕ
    s = boundary_from quads l (from l h)

    -- h is the second of its two half-edges, between b and c
    place : fan_place l (from l h) h ≡ 1
    place =
        let x = (place_at v l ok (from l h) b h k refl).0 in
        let y = place_inner v l ok (from l h) b h k refl m in
        omega arith

    turned : turn quads l s ≡ h
    unfolding iterate
    turned = subst (λ (i : ℕ). turns quads l i s ≡ h) place (place_at v l ok (from l h) b h k refl).1

    far_end : fan_end l s 1 ≡ to quads l h
    unfolding fan_end iterate
    far_end = sym (turn_to quads v l ok.oriented s (rw turned k)) ∙ ap (to quads l) turned

    -- P*
    own : fan_neighbour_z l p (from l h) 3 ≡ pos extrapolated_scale *ℤ (mirror (p (from l h)) (p (to quads l h)))
    unfolding fan_neighbour_z extrapolated_at_z sum
    own =
        rw (two, far_end)
        (same (lit (pos (2 * extrapolated_scale)) ⊠ var 0 ⊟ lit (pos extrapolated_scale) ⊠ (lit (pos 0) ⊞ var 1)) (lit (pos extrapolated_scale) ⊠ (lit (pos 2) ⊠ var 0 ⊟ var 1)) (p (from l h) ∷ p (to quads l h) ∷ []) refl)

    fan_of_two_lem : Equals (fan_virtual w l p h) (mirror (p (from l h)) (p (to quads l h))) 1
    unfolding fan_virtual
    fan_of_two_lem =
        let P : ℕ = from l h in
        let L : ℕ → ℤ = fan_neighbour_z l p P in
        let K : ℕ → ℤ = fan_corner_z l p P in
        let n : valence l P + 2 ≡ 4 = omega arith in
        rw (n, place)
        (equals_reduced extrapolated_scale (mirror (p P) (p (to quads l h))) 1 (lit≤ tt)
        (equals_cong own refl
        (straight-across w near (wrap 4 (fan_neighbour l p P)) (wrap 4 (fan_corner l p P)) (wrap 4 L) (wrap 4 K) extrapolated_scale (wrap_periodic 4 L) (wrap_periodic 4 K)
        (λ i. equals_fan_neighbour v l ok p P b _) (λ i. equals_fan_corner v l ok p P b _) 1)))

    -- "a fan of two": the virtual point
    virtual_fan_of_two : Equals (virtual_at w l p h) (mirror (p (from l h)) (p (to quads l h))) 1
    unfolding virtual_at
    virtual_fan_of_two = let t = lt-ltb (boundary_from quads l (from l h)) (length l) b in rw t fan_of_two_lem

  -- Paper 01: "For n = 4 inside, v is the neighbour straight across"
  module _ (b : boundary_from quads l (from l h) ≡ length l) (four : valence l (from l h) ≡ 4) where
    pub virtual_neighbour : Equals (virtual_at w l p h) (p (to quads l (turns quads l 2 h))) 1
    unfolding virtual_at ring_virtual ring_neighbour_z ring_corner_z
    virtual_neighbour =
        let t = le-ltb (boundary_from quads l (from l h)) (length l) (omega arith) in
        let r : Ring quads l (from l h) h 4 = subst (Ring quads l (from l h) h) four (ring_of_lem v l ok h k (omega arith)) in
        let L : ℕ → ℤ = ring_neighbour_z l p h in
        let K : ℕ → ℤ = ring_corner_z l p h in
        rw (t, four)
        (equals_reduced extrapolated_scale (p (to quads l (turns quads l 2 h))) 1 (lit≤ tt)
        (straight-across w near (λ (i : ℕ). whole (p (to quads l (turns quads l i h)))) (λ (i : ℕ). whole (p (opposite_corner l (turns quads l i h)))) L K extrapolated_scale
        (neighbours_periodic l p (from l h) h 4 r) (corners_periodic l p (from l h) h 4 r)
        (λ i. whole_over extrapolated_scale (p (to quads l (turns quads l i h)))) (λ i. whole_over extrapolated_scale (p (opposite_corner l (turns quads l i h)))) 0))

  pub virtual_ordinary : mate quads l h < length l → Ordinary l (from l h) → Equals (virtual_at w l p h) (straight l p h) 1
  virtual_ordinary m (ring_of_four b n) = equals_cong (sym (straight_ring l p h b)) refl (virtual_neighbour b n)
  virtual_ordinary m (fan_of_two b n) = equals_cong (sym (straight_fan l p h b)) refl (virtual_fan_of_two m b n)

-- ---- edge points, over the scale
ordinary_inner : (w : Weights) (l marks : List ℕ) (p : ℕ → ℤ) (h : ℕ) → mate quads l h < length l
    → ordinary_edge w l marks p h ≡ interior w (straight l p h) (p (from l h)) (p (to quads l h)) (straight l p (mate quads l h))
unfolding ordinary_edge ordinary_value
ordinary_inner w l marks p h m = rw (inner_rule_lem l marks h m)

-- a boundary edge, or an inner edge with two ordinary ends
module _ (w : Weights) (near : 0 < w.near) (apart : 0 < scale w) (v : ℕ) (l marks : List ℕ) (ok : Manifold quads v l) (p : ℕ → ℤ) (h : ℕ) (k : h < length l)
    (f : mate quads l h < length l → Ordinary l (from l h) × Ordinary l (to quads l h)) where
  pub edge_ordinary : Equals (edge_point w l marks p h) (ordinary_edge w l marks p h) (scale w)
  edge_ordinary = go (dec_lt (mate quads l h) (length l))
    where
      go : Dec (mate quads l h < length l) → Equals (edge_point w l marks p h) (ordinary_edge w l marks p h) (scale w)
      go (yes m) =
          let o : Ordinary l (from l (mate quads l h)) = subst (Ordinary l) (sym (mate_is quads l h m).start) (f m).1 in
          let b = mate-back quads v l ok.oriented h k m in
          rw (point_inner w l marks p h m, ordinary_inner w l marks p h m)
          (equals_cong refl (mul-one (scale w))
          (equals_interior w apart (virtual_ordinary w near v l ok p h k m (f m).0) (equals_whole (p (from l h))) (equals_whole (p (to quads l h))) (virtual_ordinary w near v l ok p (mate quads l h) m (rw b k) o)))
      go (no m) = equals_boundary w l marks p h m apart

-- ---- the stencil of an inner edge, by its ends; the fractions are those at paper 01's weights
module _ (w : Weights) (l marks : List ℕ) (p : ℕ → ℤ) (h : ℕ) (m : mate quads l h < length l) where
  abbrev P : ℤ
  P = p (from l h)

  abbrev Q : ℤ
  Q = p (to quads l h)

  -- what lies straight across at the two ends
  abbrev before : ℤ
  before = p (to quads l (turns quads l 2 h))

  abbrev after : ℤ
  after = p (to quads l (turns quads l 2 (mate quads l h)))

  end_at : from l (mate quads l h) ≡ to quads l h
  end_at = (mate_is quads l h m).start

  module _ (ring : boundary_from quads l (to quads l h) ≡ length l) where
    after_ring : straight l p (mate quads l h) ≡ after
    after_ring = straight_ring l p (mate quads l h) (ap (boundary_from quads l) end_at ∙ ring)

    -- ring and ring
    pub stencil_ring_ring : boundary_from quads l (from l h) ≡ length l → ordinary_edge w l marks p h ≡ interior w before P Q after
    stencil_ring_ring b = ordinary_inner w l marks p h m ∙ ap₂ (λ (x y : ℤ). interior w x P Q y) (straight_ring l p h b) after_ring
