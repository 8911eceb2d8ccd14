-- The sums that the code makes are the numerators of virtual points.
use mathlib.Core.Path.{◌≡◌, refl, sym, ap, ap₂, ◌∙◌, subst}
use mathlib.Core.List.{List}
use Prim.Native.Nat.{ℕ, suc, ◌+◌, ◌-◌, ◌/◌, ◌≤◌, ◌<◌}
use native.Mathlib.Omega.{arith}
use lib.IntN.{ℤ, pos, ◌+ℤ◌, ◌*ℤ◌}
use lib.ListN.{length}
use borrow.Author.Tests.{eq-eqb, ne_eqb, lt-ltb, le-ltb}
use Rattle.integers.specs.Sum.{sum}
use Rattle.integers.proofs.Sum.{sum_more}
use Rattle.curve.specs.Weights.{Weights}
use Rattle.rings.specs.Scales.{extrapolated_scale, valence_scale}
use Rattle.rings.specs.RingWeights.{virtual_z, row}
use Rattle.rings.specs.Ring.{Periodic}
use Rattle.topology.specs.Shape.{quads}
use Rattle.topology.specs.HalfEdge.{from, to, mate}
use Rattle.topology.specs.Boundary.{boundary_from, along}
use Rattle.topology.specs.Vertex.{valence, turns}
use Rattle.topology.specs.Manifold.{Manifold}
use Rattle.topology.specs.Quads.{opposite_corner, fan_end, fan_place}
use Rattle.topology.proofs.Boundary.{boundary_from_on, boundary_from_at, along-from}
use Rattle.schemelaws.specs.Numerators.{extrapolated_at_z, fan_neighbour_z, fan_corner_z, ring_neighbour_z, ring_corner_z, ring_virtual_z, fan_virtual_z, virtual_at_z}
use Rattle.schemelaws.proofs.Vertices.{fan_le, place_at, place_inner, ring_of_lem, ring_ge, ring_le, neighbours_periodic, corners_periodic}
use Rattle.nets.specs.Net.{axis}
use Rattle.coordinates.specs.Points.{OnAxes}
use Rattle.extrapolation.specs.Gathered.{Filled}
use Rattle.ringsums.specs.Sums.{weighed, place_on, weighted_sum, ring_sum, fan_on}
use Rattle.extrapolation.specs.Exact.{extrapolated_on}
use Rattle.virtualpoints.specs.Virtual.{virtual_on}
use Rattle.ringsums.proofs.Sums.{place_after, scaled_sum, virtual-first, virtual_turned}
use Rattle.extrapolation.proofs.Extrapolated.{end_inside_lem}

module _ (v : ℕ) (l : List ℕ) (ok : Manifold quads v l) (h : ℕ) (b : h < length l) where
  -- ---- a full ring
  module _ (weights : Weights) (inner : boundary_from quads l (from l h) ≡ length l) (n : ℕ) (en : n ≡ valence l (from l h)) (L K : List ℕ) (f : Filled l h n L K) where
    inside : (p : ℕ → ℤ) → virtual_at_z weights l p h ≡ pos (valence_scale / valence l (from l h)) *ℤ virtual_z weights (valence l (from l h)) (ring_neighbour_z l p h) (ring_corner_z l p h) 0
    unfolding virtual_at_z ring_virtual_z
    inside p = let t = le-ltb (boundary_from quads l (from l h)) (length l) (omega arith) in rw t

    ring_value : (p : ℕ → ℤ) → ring_sum n (weighted_sum (row weights n) n 0 n p L K) ≡ virtual_at_z weights l p h
    unfolding ring_neighbour_z ring_corner_z
    ring_value p =
        let c : length l ≤ boundary_from quads l (from l h) = omega arith in
        let r = ring_of_lem v l ok h b c in
        let three = ring_ge v l ok h b c in
        let eight = ring_le v l ok h b c in
        let X : ℕ → ℤ = ring_neighbour_z l p h in
        let Y : ℕ → ℤ = ring_corner_z l p h in
        ap (λ (z : ℤ). pos (valence_scale / n) *ℤ z)
        (scaled_sum (row weights n) n 0 n p L K X Y (λ i q. ap (λ (x : ℕ). pos extrapolated_scale *ℤ p x) (f.neighbours i q)) (λ i q. ap (λ (x : ℕ). pos extrapolated_scale *ℤ p x) (f.corners i q))
        ∙ virtual-first weights n X Y (subst (λ (m : ℕ). Periodic m X) (sym en) (neighbours_periodic l p (from l h) h (valence l (from l h)) r)) (subst (λ (m : ℕ). Periodic m Y) (sym en) (corners_periodic l p (from l h) h (valence l (from l h)) r)) (omega arith) (omega arith))
        ∙ ap (λ (m : ℕ). pos (valence_scale / m) *ℤ virtual_z weights m X Y 0) en
        ∙ sym (inside p)

    pub ring_made : (t : List ℤ) (x y z : ℤ) → OnAxes (λ (a : ℕ). ring_sum n (weighted_sum (row weights n) n 0 n (axis t a) L K)) x y z → OnAxes (virtual_on weights l t h) x y z
    ring_made t x y z e = record { on₀ = e.on₀ ∙ ring_value (axis t 0); on₁ = e.on₁ ∙ ring_value (axis t 1); on₂ = e.on₂ ∙ ring_value (axis t 2) }

  -- ---- an open fan
  module _ (inner : mate quads l h < length l) (o : boundary_from quads l (from l h) < length l) where
    abbrev P : ℕ
    P = from l h

    abbrev s : ℕ
    s = boundary_from quads l (from l h)

    abbrev m : ℕ
    m = valence l (from l h)

    abbrev j : ℕ
    j = fan_place l (from l h) h

    pub fan_sizes : (0 < j) × (j < m) × (m ≤ 6)
    fan_sizes = (place_inner v l ok P o h b refl inner, (place_at v l ok P o h b refl).0, fan_le v l ok P o)

    module _ (p : ℕ → ℤ) where
      near_at : (i : ℕ) → i ≤ m → fan_neighbour_z l p P i ≡ pos extrapolated_scale *ℤ p (fan_end l s i)
      unfolding fan_neighbour_z
      near_at i c = let e = ne_eqb i (m + 1) (λ x. omega arith) in rw e

      near_own : fan_neighbour_z l p P (m + 1) ≡ extrapolated_at_z l p P
      unfolding fan_neighbour_z
      near_own = let e = eq-eqb (m + 1) (m + 1) refl in rw e

      far_at : (i : ℕ) → i < m → fan_corner_z l p P i ≡ pos extrapolated_scale *ℤ p (opposite_corner l (turns quads l i s))
      unfolding fan_corner_z
      far_at i c = let e = ne_eqb i m (λ x. omega arith) in let f = ne_eqb i (m + 1) (λ x. omega arith) in rw (e, f)

      far_last : fan_corner_z l p P m ≡ extrapolated_at_z l p (fan_end l s m)
      unfolding fan_corner_z
      far_last = let e = eq-eqb m m refl in rw e

      far_first : fan_corner_z l p P (m + 1) ≡ extrapolated_at_z l p (fan_end l s 0)
      unfolding fan_corner_z
      far_first = let e = ne_eqb (m + 1) m (λ x. omega arith) in let f = eq-eqb (m + 1) (m + 1) refl in rw (e, f)

      fan_value : (weights : Weights) (L K : List ℕ) → Filled l s m L K
          → fan_on weights p L K m j (fan_end l s m) (extrapolated_at_z l p P) (extrapolated_at_z l p (fan_end l s m)) (extrapolated_at_z l p (fan_end l s 0)) ≡ virtual_at_z weights l p h
      unfolding virtual_at_z fan_virtual_z
      fan_value weights L K f =
          let k = fan_sizes in
          let n : ℕ = m + 2 in
          let X : ℕ → ℤ = fan_neighbour_z l p P in
          let Y : ℕ → ℤ = fan_corner_z l p P in
          let w : List ℤ = row weights n in
          let g : ℕ → ℤ = λ (i : ℕ). weighed w (place_on n (n - j + i)) (X i) (Y i) in
          let e₀ : from l s ≡ P = boundary_from_at quads l P o in
          let ends : (i : ℕ) → i < m → to quads l (turns quads l i s) ≡ fan_end l s i = λ i c. sym (end_inside_lem v l ok s (boundary_from_on quads l P o) i (rw e₀ c)) in
          let faces : pos extrapolated_scale *ℤ weighted_sum w n (n - j) m p L K ≡ sum m g =
          scaled_sum w n (n - j) m p L K X Y (λ i c. ap (λ (x : ℕ). pos extrapolated_scale *ℤ p x) (f.neighbours i c ∙ ends i c) ∙ sym (near_at i (omega arith)))
          (λ i c. ap (λ (x : ℕ). pos extrapolated_scale *ℤ p x) (f.corners i c) ∙ sym (far_at i c)) in
          let t₁ : m - j ≡ place_on n (n - j + m) = (let x = place_after n (n - j + m) (omega arith) in omega arith) in
          let t₂ : m - j + 1 ≡ place_on n (n - j + (m + 1)) = (let x = place_after n (n - j + (m + 1)) (omega arith) in omega arith) in
          let last : weighed w (m - j) (pos extrapolated_scale *ℤ p (fan_end l s m)) (extrapolated_at_z l p (fan_end l s m)) ≡ g m =
          ap (λ (d : ℕ). weighed w d (pos extrapolated_scale *ℤ p (fan_end l s m)) (extrapolated_at_z l p (fan_end l s m))) t₁ ∙ ap₂ (weighed w (place_on n (n - j + m))) (sym (near_at m (omega arith))) (sym far_last) in
          let own : weighed w (m - j + 1) (extrapolated_at_z l p P) (extrapolated_at_z l p (fan_end l s 0)) ≡ g (m + 1) =
          ap (λ (d : ℕ). weighed w d (extrapolated_at_z l p P) (extrapolated_at_z l p (fan_end l s 0))) t₂ ∙ ap₂ (weighed w (place_on n (n - j + (m + 1)))) (sym near_own) (sym far_first) in
          let all : sum (m + 1 + 1) g ≡ sum n g = (let q : m + 1 + 1 ≡ n = omega arith in ap (λ (i : ℕ). sum i g) q) in
          let c = lt-ltb (boundary_from quads l (from l h)) (length l) o in
          rw c (ap (λ (z : ℤ). pos (valence_scale / n) *ℤ z)
          (ap₂ ◌+ℤ◌ (ap₂ ◌+ℤ◌ faces last ∙ sum_more m g) own ∙ sum_more (m + 1) g ∙ all ∙ virtual_turned weights n j X Y (omega arith) (omega arith) k.0 (omega arith)))

    pub count_is : (s' m' : ℕ) → s' ≡ s → m' ≡ valence l (from l s') → m' ≡ m
    count_is s' m' es em = em ∙ ap (λ (x : ℕ). valence l (from l x)) es ∙ ap (valence l) (boundary_from_at quads l P o)

    -- with the numbers that the code finds
    module _ (s' m' j' g e c d : ℕ) (es : s' ≡ s) (ej : j' ≡ j) (em : m' ≡ valence l (from l s')) (eg : g ≡ turns quads l (m' - 1) s') (ee : e ≡ quads.prev g) (ec : c ≡ from l e) (ed : d ≡ along quads l s')
        (L K : List ℕ) (f : Filled l s' m' L K) where
      count : m' ≡ m
      count = count_is s' m' es em

      last_is : from l e ≡ fan_end l s m
      unfolding fan_end
      last_is =
          let k = fan_sizes in
          let q : suc (m - 1) ≡ m = omega arith in
          let x : g ≡ turns quads l (m - 1) s = eg ∙ ap₂ (λ (i y : ℕ). turns quads l (i - 1) y) count es in
          ap (from l) (ee ∙ ap quads.prev x) ∙ ap (fan_end l s) q

      first_is : from l d ≡ fan_end l s 0
      unfolding fan_end
      first_is = ap (from l) (ed ∙ ap (along quads l) es) ∙ along-from quads v l ok s (boundary_from_on quads l P o)

      pub fan_made : (weights : Weights) (t : List ℤ) (a : ℕ) (x A C B : ℤ) → A ≡ extrapolated_on l t s' a → C ≡ extrapolated_on l t e a → B ≡ extrapolated_on l t d a → x ≡ fan_on weights (axis t a) L K m' j' c A C B → x ≡ virtual_on weights l t h a
      fan_made weights t a x A C B e_a e_c e_b ex =
          let p : ℕ → ℤ = axis t a in
          let q : Filled l s m L K = subst (λ (i : ℕ). Filled l s i L K) count (subst (λ (y : ℕ). Filled l y m' L K) es f) in
          let x_a : A ≡ extrapolated_at_z l p P = e_a ∙ ap (extrapolated_at_z l p) (ap (from l) es ∙ boundary_from_at quads l P o) in
          let x_c : C ≡ extrapolated_at_z l p (fan_end l s m) = e_c ∙ ap (extrapolated_at_z l p) last_is in
          let x_b : B ≡ extrapolated_at_z l p (fan_end l s 0) = e_b ∙ ap (extrapolated_at_z l p) first_is in
          let xc : c ≡ fan_end l s m = ec ∙ last_is in
          ex ∙ ap₂ (λ (i y : ℕ). fan_on weights p L K i y c A C B) count ej ∙ ap (λ (y : ℕ). fan_on weights p L K m j y A C B) xc
          ∙ ap (λ (y : ℤ). fan_on weights p L K m j (fan_end l s m) y C B) x_a ∙ ap₂ (λ (y z : ℤ). fan_on weights p L K m j (fan_end l s m) (extrapolated_at_z l p P) y z) x_c x_b ∙ fan_value p weights L K q
