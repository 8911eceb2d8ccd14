-- How far one round spreads a difference. Two coordinates p and p' of the vertices of one manifold net that differ by at most d at every vertex give virtual
-- points that differ by at most 17/3 d, edge points by at most 11/6 d and face points by at most 55/24 d, all in numerators over the common denominators, at any tame
-- weights.
use mathlib.Core.Path.{◌≡◌, refl, sym, ap, ap₂, ◌∙◌, subst}
use mathlib.Core.Bool.{Bool, true, false, cond}
use mathlib.Core.Logic.{◌⊎◌, inl, inr, ⊎_elim}
use mathlib.Core.List.{List, [], ◌∷◌}
use Prim.Native.Nat.{ℕ, suc, ◌+◌, ◌-◌, ◌*◌, ◌/◌, ◌%◌, ◌≤◌, ◌<◌}
use native.Mathlib.Nat.{zero-add, mul_left_comm, mul-le-mul_left, mul-le-mul_right, mod-lt, mod-eq_of_lt, mod-eq-sub-mod}
use native.Mathlib.Decide.{dec_lt, ℕ_discrete}
use native.Mathlib.Omega.{arith}
use lib.Dec.{eqb, ltb}
use lib.IntN.{ℤ, pos, nat_abs, ◌+ℤ◌, ◌-ℤ◌, ◌*ℤ◌}
use lib.ListN.{length}
use borrow.Author.Tests.{ltb-true, ltb-false, eqb-false, eq-eqb, ne_eqb}
use Rattle.search.specs.Search.{iterate}
use Rattle.integers.proofs.AbsoluteValue.{abs-mul, abs-add}
use Rattle.integers.proofs.Polynomial.{var, lit, ◌⊞◌, ◌⊟◌, ◌⊠◌, same}
use Rattle.curve.specs.Weights.{Weights, scale, interior, end_edge, single_edge}
use Rattle.rings.specs.Ring.{Periodic, wrap}
use Rattle.rings.proofs.Periodic.{wrap_periodic}
use Rattle.rings.proofs.Norm.{inside_numerator_near, boundary_numerator_near}
use Rattle.curve.proofs.Distance.{Tame}
use Rattle.rings.specs.Scales.{extrapolated_scale, virtual_scale, edge_scale, face_scale}
use Rattle.rules.proofs.Norm.{interior_near, end_near, single_near, extrapolated_near, extrapolated-corner_near, inner_near, boundary_edge_near}
use Rattle.topology.specs.Shape.{quads}
use Rattle.topology.specs.HalfEdge.{from, to, mate}
use Rattle.topology.specs.Boundary.{OnBoundary, boundary_from, along, back}
use Rattle.topology.specs.Vertex.{valence, turns}
use Rattle.topology.specs.Manifold.{Manifold}
use Rattle.topology.proofs.Mates.{mate-le, mate-back}
use Rattle.topology.proofs.Boundary.{to_lt, along_on, back_on}
use Rattle.topology.specs.Quads.{opposite_corner, fan_end, fan_place, across, beyond}
use Rattle.scheme.specs.Points.{EdgeRule, inside_segment, start_of_segment, end_of_segment, whole_segment, inner_rule, edge_rule, FaceRule, first_alone, second_alone, both_inner, neither_inner, face_rule}
use Rattle.schemelaws.specs.Ordinary.{ordinary_value}
use Rattle.schemelaws.specs.Numerators.{extrapolated_at_z, fan_neighbour_z, fan_corner_z, ring_neighbour_z, ring_corner_z, ring_virtual_z, fan_virtual_z, virtual_at_z, edge_value_z, edge_z, direction_z, face_value_z, face_z}
use Rattle.schemelaws.proofs.Vertices.{opposite_below, boundary_below, fan_at, fan_le, fan_end_below, fan_opposite_below, first_end, last_end, place_at, place_inner, ring_of_lem, ring_ge, ring_le, turns-lt, neighbours_periodic, corners_periodic}
use Rattle.schemelaws.proofs.Ties.{rule_inner, edge-inner, across_lt, side₀_lt, side₁_lt}

-- ---- a choice spreads a difference as its sides do
record Near (B : ℕ) (x x' : ℤ) : Type 0 where
  bound : nat_abs (x -ℤ x') ≤ B

near_cond : (b : Bool) {x y x' y' : ℤ} {B : ℕ} → (b ≡ true → Near B x x') → (b ≡ false → Near B y y') → Near B (cond b x y) (cond b x' y')
near_cond true f g = f refl
near_cond false f g = g refl

near_weighted : (b : Bool) {x y x' y' : ℤ} (e f B : ℕ) → (b ≡ true → Near (e * B) x x') → (b ≡ false → Near (f * B) y y') → Near (cond b e f * B) (cond b x y) (cond b x' y')
near_weighted true e f B g h = g refl
near_weighted false e f B g h = h refl

-- the curve's rules, with the points read off the differences
module _ (w : Weights) (tame : Tame w) where
  abbrev growth : ℕ → ℕ
  growth d = (5 * tame.quarter) * d

  near_interior : {p q r s p' q' r' s' : ℤ} {d : ℕ} → Near d p p' → Near d q q' → Near d r r' → Near d s s' → Near (growth d) (interior w p q r s) (interior w p' q' r' s')
  near_interior {p} {q} {r} {s} {p'} {q'} {r'} {s'} {d} a b c e = record { bound = interior_near w tame d p q r s p' q' r' s' a.bound b.bound c.bound e.bound }

  near_end : {p q r p' q' r' : ℤ} {d : ℕ} → Near d p p' → Near d q q' → Near d r r' → Near (growth d) (end_edge w p q r) (end_edge w p' q' r')
  near_end {p} {q} {r} {p'} {q'} {r'} {d} a b c = record { bound = end_near w tame d p q r p' q' r' a.bound b.bound c.bound }

  near_single : {p q p' q' : ℤ} {d : ℕ} → Near d p p' → Near d q q' → Near (growth d) (single_edge w p q) (single_edge w p' q')
  near_single {p} {q} {p'} {q'} {d} a b = record { bound = single_near w tame d p q p' q' a.bound b.bound }

-- ---- where the extrapolated points of a fan of m faces stand, seen from its inner edge j
same_eqb : (a b c d : ℕ) → (a ≡ b → c ≡ d) → (c ≡ d → a ≡ b) → eqb a b ≡ eqb c d
same_eqb a b c d f g = go (ℕ_discrete a b)
  where
    go : Dec (a ≡ b) → eqb a b ≡ eqb c d
    go (yes e) = eq-eqb a b e ∙ sym (eq-eqb c d (f e))
    go (no e) = ne_eqb a b e ∙ sym (ne_eqb c d (λ z. e (g z)))

module _ (m i j : ℕ) (a : i < m + 2) (b : 0 < j) (c : j < m) where
  wrapped : ((j + i < m + 2) × ((j + i) % (m + 2) ≡ j + i)) ⊎ ((m + 2 ≤ j + i) × ((j + i) % (m + 2) ≡ j + i - (m + 2)))
  wrapped = go (dec_lt (j + i) (m + 2))
    where
      go : Dec (j + i < m + 2) → ((j + i < m + 2) × ((j + i) % (m + 2) ≡ j + i)) ⊎ ((m + 2 ≤ j + i) × ((j + i) % (m + 2) ≡ j + i - (m + 2)))
      go (yes k) = inl (k, mod-eq_of_lt k)
      go (no k) = let g : m + 2 ≤ j + i = omega arith in let z : j + i - (m + 2) < m + 2 = omega arith in inr (g, mod-eq-sub-mod g ∙ mod-eq_of_lt z)

  star_place : eqb ((j + i) % (m + 2)) (m + 1) ≡ eqb i (m + 1 - j)
  star_place = ⊎_elim (λ w. same_eqb ((j + i) % (m + 2)) (m + 1) i (m + 1 - j) (λ e. omega (arith, w.1)) (λ e. omega (arith, w.1)))
      (λ w. same_eqb ((j + i) % (m + 2)) (m + 1) i (m + 1 - j) (λ e. omega (arith, w.0, w.1)) (λ e. omega (arith, w.0, w.1))) wrapped

  before_place : eqb ((j + i) % (m + 2)) m ≡ eqb (suc i) (m + 1 - j)
  before_place = ⊎_elim (λ w. same_eqb ((j + i) % (m + 2)) m (suc i) (m + 1 - j) (λ e. omega (arith, w.1)) (λ e. omega (arith, w.1)))
      (λ w. same_eqb ((j + i) % (m + 2)) m (suc i) (m + 1 - j) (λ e. omega (arith, w.0, w.1)) (λ e. omega (arith, w.0, w.1))) wrapped

three_swap : (a b : Bool) → ◌≡◌ {A = ℕ} (cond a 3 (cond b 3 1)) (cond b 3 (cond a 3 1))
three_swap true true = refl
three_swap true false = refl
three_swap false true = refl
three_swap false false = refl

three_or_one : (b : Bool) → cond b 3 1 ≤ 3
three_or_one true = omega arith
three_or_one false = omega arith

at_most_three : (b : Bool) (w d : ℕ) {x : ℕ} → w ≤ 3 → x ≤ cond b 3 w * (extrapolated_scale * d) → x ≤ extrapolated_scale * (3 * d)
at_most_three true w d h k = omega arith
at_most_three false w d h k = let m : w * (extrapolated_scale * d) ≤ 3 * (extrapolated_scale * d) = mul-le-mul_right (extrapolated_scale * d) h in omega arith

module _ (v : ℕ) (l : List ℕ) (ok : Manifold quads v l) (p p' : ℕ → ℤ) (d : ℕ) (near : (x : ℕ) → x < v → nat_abs (p x -ℤ p' x) ≤ d) where
  scaled_near : (x : ℕ) → x < v → nat_abs (pos extrapolated_scale *ℤ p x -ℤ pos extrapolated_scale *ℤ p' x) ≤ extrapolated_scale * d
  scaled_near x k =
      let e = ap nat_abs (same (lit (pos extrapolated_scale) ⊠ var 0 ⊟ lit (pos extrapolated_scale) ⊠ var 1) (lit (pos extrapolated_scale) ⊠ (var 0 ⊟ var 1)) (p x ∷ p' x ∷ []) refl) in
      let f = abs-mul (pos extrapolated_scale) (p x -ℤ p' x) in
      let g = near x k in
      omega arith

  scaled_once : (x : ℕ) → x < v → Near (1 * (extrapolated_scale * d)) (pos extrapolated_scale *ℤ p x) (pos extrapolated_scale *ℤ p' x)
  scaled_once x k = let r = scaled_near x k in record { bound = omega arith }

  -- ---- a boundary vertex: 3
  module _ (P : ℕ) (b : boundary_from quads l P < length l) where
    extrapolated_thrice : Near (3 * (extrapolated_scale * d)) (extrapolated_at_z l p P) (extrapolated_at_z l p' P)
    unfolding extrapolated_at_z iterate
    extrapolated_thrice =
        let s : ℕ = boundary_from quads l P in
        let t = (fan_at v l ok P b).some in
        let u = fan_le v l ok P b in
        let k = boundary_below v l ok P b in
        near_cond (eqb (valence l P) 1)
        (λ e. let r = extrapolated-corner_near (p P) (p (opposite_corner l s)) (p' P) (p' (opposite_corner l s)) d (near P k) (near (opposite_corner l s) (opposite_below v l ok s b)) in record { bound = omega arith })
        (λ e. let k₁ : valence l P ≡ 1 → ⊥ = eqb-false (valence l P) 1 e in
        let r = extrapolated_near (p P) (p' P) (valence l P - 1) (λ (i : ℕ). p (fan_end l s (suc i))) (λ (i : ℕ). p' (fan_end l s (suc i))) d (omega arith) (omega arith) (near P k)
        (λ i c. near (fan_end l s (suc i)) (fan_end_below v l ok P b (suc i) (omega arith))) in
        record { bound = omega arith })

    pub extrapolated_at_near : nat_abs (extrapolated_at_z l p P -ℤ extrapolated_at_z l p' P) ≤ extrapolated_scale * (3 * d)
    extrapolated_at_near = let r = extrapolated_thrice.bound in omega arith

  module _ (P : ℕ) (b : boundary_from quads l P < length l) where
    neighbour_near : (i : ℕ) → i < valence l P + 2 → Near (cond (eqb i (valence l P + 1)) 3 1 * (extrapolated_scale * d)) (fan_neighbour_z l p P i) (fan_neighbour_z l p' P i)
    unfolding fan_neighbour_z
    neighbour_near i k = near_weighted (eqb i (valence l P + 1)) 3 1 (extrapolated_scale * d) (λ e. extrapolated_thrice P b)
        (λ e. let x = eqb-false i (valence l P + 1) e in let y : i ≤ valence l P = omega arith in scaled_once (fan_end l (boundary_from quads l P) i) (fan_end_below v l ok P b i y))

    corner_near : (i : ℕ) → i < valence l P + 2 → Near (cond (eqb i (valence l P)) 3 (cond (eqb i (valence l P + 1)) 3 1) * (extrapolated_scale * d)) (fan_corner_z l p P i) (fan_corner_z l p' P i)
    unfolding fan_corner_z
    corner_near i k = near_weighted (eqb i (valence l P)) 3 (cond (eqb i (valence l P + 1)) 3 1) (extrapolated_scale * d) (λ e. extrapolated_thrice (fan_end l (boundary_from quads l P) (valence l P)) (last_end v l ok P b))
        (λ e. near_weighted (eqb i (valence l P + 1)) 3 1 (extrapolated_scale * d) (λ f. extrapolated_thrice (fan_end l (boundary_from quads l P) 0) (first_end v l ok P b))
        (λ f.
        let x = eqb-false i (valence l P) e in
        let y = eqb-false i (valence l P + 1) f in
        let z : i < valence l P = omega arith in
        scaled_once (opposite_corner l (turns quads l i (boundary_from quads l P))) (fan_opposite_below v l ok P b i z)))

    pub fan_neighbour_near : (i : ℕ) → i < valence l P + 2 → nat_abs (fan_neighbour_z l p P i -ℤ fan_neighbour_z l p' P i) ≤ extrapolated_scale * (3 * d)
    fan_neighbour_near i k = at_most_three (eqb i (valence l P + 1)) 1 d (omega arith) (neighbour_near i k).bound

    pub fan_corner_near : (i : ℕ) → i < valence l P + 2 → nat_abs (fan_corner_z l p P i -ℤ fan_corner_z l p' P i) ≤ extrapolated_scale * (3 * d)
    fan_corner_near i k = at_most_three (eqb i (valence l P)) (cond (eqb i (valence l P + 1)) 3 1) d (three_or_one (eqb i (valence l P + 1))) (corner_near i k).bound

module _ (w : Weights) (tame : Tame w) (v : ℕ) (l : List ℕ) (ok : Manifold quads v l) (p p' : ℕ → ℤ) (d : ℕ) (near : (x : ℕ) → x < v → nat_abs (p x -ℤ p' x) ≤ d) where
  -- ---- virtual points: 17/3 at a boundary vertex, 40/9 inside
  module _ (h : ℕ) (k : h < length l) (inner : mate quads l h < length l) where
    fan_virtual_near : boundary_from quads l (from l h) < length l → 3 * nat_abs (fan_virtual_z w l p h -ℤ fan_virtual_z w l p' h) ≤ virtual_scale w * (17 * d)
    unfolding fan_virtual_z
    fan_virtual_near b =
        let P : ℕ = from l h in
        let m : ℕ = valence l P in
        let n : ℕ = m + 2 in
        let j : ℕ = fan_place l P h in
        let t : ℕ = m + 1 - j in
        let below : j < m = (place_at v l ok P b h k refl).0 in
        let some : 0 < j = place_inner v l ok P b h k refl inner in
        let u = fan_le v l ok P b in
        boundary_numerator_near n (wrap n (fan_neighbour_z l p P)) (wrap n (fan_corner_z l p P)) (wrap n (fan_neighbour_z l p' P)) (wrap n (fan_corner_z l p' P)) (omega arith)
        (wrap_periodic n (fan_neighbour_z l p P)) (wrap_periodic n (fan_corner_z l p P)) (wrap_periodic n (fan_neighbour_z l p' P)) (wrap_periodic n (fan_corner_z l p' P)) j w tame.small (omega arith) d t (omega arith)
        (λ i c. subst (λ (x : ℕ). nat_abs (fan_neighbour_z l p P ((j + i) % n) -ℤ fan_neighbour_z l p' P ((j + i) % n)) ≤ x * (extrapolated_scale * d))
        (ap (λ (q : Bool). cond q 3 1) (star_place m i j c some below)) (neighbour_near v l ok p p' d near P b ((j + i) % n) (mod-lt (j + i) (omega arith))).bound)
        (λ i c. subst (λ (x : ℕ). nat_abs (fan_corner_z l p P ((j + i) % n) -ℤ fan_corner_z l p' P ((j + i) % n)) ≤ x * (extrapolated_scale * d))
        (three_swap (eqb ((j + i) % n) m) (eqb ((j + i) % n) (m + 1)) ∙ ap₂ (λ (q r : Bool). cond q 3 (cond r 3 1)) (star_place m i j c some below) (before_place m i j c some below)) (corner_near v l ok p p' d near P b ((j + i) % n) (mod-lt (j + i) (omega arith))).bound)

  module _ (h : ℕ) (k : h < length l) (b : length l ≤ boundary_from quads l (from l h)) where
    ring_virtual_near : 9 * nat_abs (ring_virtual_z w l p h -ℤ ring_virtual_z w l p' h) ≤ virtual_scale w * (40 * d)
    unfolding ring_virtual_z ring_neighbour_z ring_corner_z
    ring_virtual_near =
        let n : ℕ = valence l (from l h) in
        let r = ring_of_lem v l ok h k b in
        let rl : (q : ℕ → ℤ) → Periodic n (ring_neighbour_z l q h) = λ q. neighbours_periodic l q (from l h) h n r in
        let rk : (q : ℕ → ℤ) → Periodic n (ring_corner_z l q h) = λ q. corners_periodic l q (from l h) h n r in
        inside_numerator_near n (ring_neighbour_z l p h) (ring_corner_z l p h) (ring_neighbour_z l p' h) (ring_corner_z l p' h) (ring_ge v l ok h k b) (rl p) (rk p) (rl p') (rk p') 0 w tame.small (ring_le v l ok h k b) d
        (λ i c. rw (zero-add i) (scaled_near v l ok p p' d near (to quads l (turns quads l i h)) (to_lt quads v l ok (turns quads l i h) (turns-lt v l ok h k b i c))))
        (λ i c. rw (zero-add i) (scaled_near v l ok p p' d near (opposite_corner l (turns quads l i h)) (opposite_below v l ok (turns quads l i h) (turns-lt v l ok h k b i c))))

  pub virtual_near : (h : ℕ) → h < length l → mate quads l h < length l → 3 * nat_abs (virtual_at_z w l p h -ℤ virtual_at_z w l p' h) ≤ virtual_scale w * (17 * d)
  unfolding virtual_at_z
  virtual_near h k m = go (ltb (boundary_from quads l (from l h)) (length l)) refl
    where
      go : (t : Bool) → ltb (boundary_from quads l (from l h)) (length l) ≡ t → 3 * nat_abs (cond t (fan_virtual_z w l p h) (ring_virtual_z w l p h) -ℤ cond t (fan_virtual_z w l p' h) (ring_virtual_z w l p' h)) ≤ virtual_scale w * (17 * d)
      go true e = fan_virtual_near h k m (ltb-true (boundary_from quads l (from l h)) (length l) e)
      go false e =
          let r = ring_virtual_near h k (ltb-false (boundary_from quads l (from l h)) (length l) e) in
          let x = mul_left_comm (virtual_scale w) 40 d in
          let y = mul_left_comm (virtual_scale w) 17 d in
          omega arith

  -- ---- edge points: 11/6
  module _ (marks : List ℕ) where
    boundary_value_near : (h : ℕ) → OnBoundary quads l h → (r : EdgeRule) → (r ≡ inner_rule → ⊥) → 6 * nat_abs (edge_value_z w l p h r -ℤ edge_value_z w l p' h r) ≤ edge_scale w * (11 * d)
    unfolding edge_value_z ordinary_value
    boundary_value_near h o = value
      where
        at : (x : ℕ) → x < v → Near d (p x) (p' x)
        at x k = record { bound = near x k }

        n_p : Near d (p (from l h)) (p' (from l h))
        n_p = at (from l h) (ok.oriented.below h o.lt)

        n_q : Near d (p (to quads l h)) (p' (to quads l h))
        n_q = at (to quads l h) (to_lt quads v l ok h o.lt)

        before : Near d (p (from l (back quads l h))) (p' (from l (back quads l h)))
        before = at (from l (back quads l h)) (ok.oriented.below (back quads l h) (back_on quads v l ok h o).lt)

        after : Near d (p (to quads l (along quads l h))) (p' (to quads l (along quads l h)))
        after = at (to quads l (along quads l h)) (to_lt quads v l ok (along quads l h) (along_on quads v l ok h o).lt)

        scaled : {x x' : ℤ} → Near ((5 * tame.quarter) * d) x x' → 6 * nat_abs (pos (virtual_scale w) *ℤ x -ℤ pos (virtual_scale w) *ℤ x') ≤ edge_scale w * (11 * d)
        scaled {x} {x'} a = boundary_edge_near w tame x x' d a.bound

        value : (r : EdgeRule) → (r ≡ inner_rule → ⊥) → 6 * nat_abs (edge_value_z w l p h r -ℤ edge_value_z w l p' h r) ≤ edge_scale w * (11 * d)
        value inside_segment f = scaled (near_interior w tame before n_p n_q after)
        value start_of_segment f = scaled (near_end w tame n_p n_q after)
        value end_of_segment f = scaled (near_end w tame n_q n_p before)
        value whole_segment f = scaled (near_single w tame n_p n_q)
        value inner_rule f = absurd (f refl)

    pub edge_near : (h : ℕ) → h < length l → 6 * nat_abs (edge_z w l marks p h -ℤ edge_z w l marks p' h) ≤ edge_scale w * (11 * d)
    edge_near h k = go (dec_lt (mate quads l h) (length l))
      where
        go : Dec (mate quads l h < length l) → 6 * nat_abs (edge_z w l marks p h -ℤ edge_z w l marks p' h) ≤ edge_scale w * (11 * d)
        go (yes m) =
            let b = mate-back quads v l ok.oriented h k m in
            let m' : mate quads l (mate quads l h) < length l = omega arith in
            rw (edge-inner w l marks p h m, edge-inner w l marks p' h m)
            (inner_near w tame (p (from l h)) (p (to quads l h)) (virtual_at_z w l p h) (virtual_at_z w l p (mate quads l h)) (p' (from l h)) (p' (to quads l h)) (virtual_at_z w l p' h) (virtual_at_z w l p' (mate quads l h)) d
            (near (from l h) (ok.oriented.below h k)) (near (to quads l h) (to_lt quads v l ok h k)) (virtual_near h k m) (virtual_near (mate quads l h) m m'))
        go (no m) = unfold edge_z in boundary_value_near h (record { lt = k; none = let x = mate-le quads l h in omega arith }) (edge_rule l marks h) (λ e. m (rule_inner l marks h e))

-- ---- directions and face points, from edge points that differ by at most B: 5/4
module _ (w : Weights) (tame : Tame w) (v : ℕ) (l : List ℕ) (ok : Manifold quads v l) (e e' : ℕ → ℤ) (B : ℕ) (near : (h : ℕ) → h < length l → nat_abs (e h -ℤ e' h) ≤ B) where
  direction_bound : (h : ℕ) → h < length l → Near ((5 * tame.quarter) * B) (direction_z w l e h) (direction_z w l e' h)
  unfolding direction_z beyond
  direction_bound h k =
      let g : ℕ = across h in
      let at : (i : ℕ) → i < length l → Near B (e i) (e' i) = λ i c. record { bound = near i c } in
      let nh = at h k in
      let ng = at g (across_lt v l ok h k) in
      let far : (i : ℕ) → ltb (mate quads l i) (length l) ≡ true → Near B (e (across (mate quads l i))) (e' (across (mate quads l i))) =
      λ i t. at (across (mate quads l i)) (across_lt v l ok (mate quads l i) (ltb-true (mate quads l i) (length l) t)) in
      near_cond (ltb (mate quads l h) (length l))
      (λ s. near_cond (ltb (mate quads l g) (length l)) (λ t. near_interior w tame (far h s) nh ng (far g t)) (λ t. near_end w tame ng nh (far h s)))
      (λ s. near_cond (ltb (mate quads l g) (length l)) (λ t. near_end w tame nh ng (far g t)) (λ t. near_single w tame nh ng))

  pub direction_near : (h : ℕ) → h < length l → nat_abs (direction_z w l e h -ℤ direction_z w l e' h) ≤ (5 * tame.quarter) * B
  direction_near h k = (direction_bound h k).bound

  doubled : {x x' : ℤ} → Near ((5 * tame.quarter) * B) x x' → Near (2 * ((5 * tame.quarter) * B)) (pos 2 *ℤ x) (pos 2 *ℤ x')
  doubled {x} {x'} a =
      let f = ap nat_abs (same (lit (pos 2) ⊠ var 0 ⊟ lit (pos 2) ⊠ var 1) (lit (pos 2) ⊠ (var 0 ⊟ var 1)) (x ∷ x' ∷ []) refl) in
      let g = abs-mul (pos 2) (x -ℤ x') in
      let h = a.bound in
      record { bound = omega arith }

  added : {x y x' y' : ℤ} → Near ((5 * tame.quarter) * B) x x' → Near ((5 * tame.quarter) * B) y y' → Near (2 * ((5 * tame.quarter) * B)) (x +ℤ y) (x' +ℤ y')
  added {x} {y} {x'} {y'} a b =
      let f = ap nat_abs (same ((var 0 ⊞ var 1) ⊟ (var 2 ⊞ var 3)) ((var 0 ⊟ var 2) ⊞ (var 1 ⊟ var 3)) (x ∷ y ∷ x' ∷ y' ∷ []) refl) in
      let g = abs-add (x -ℤ x') (y -ℤ y') in
      let h = a.bound in
      let k = b.bound in
      record { bound = omega arith }

  value_near : (f : ℕ) → f < quads.faces (length l) → (r : FaceRule) → Near (2 * ((5 * tame.quarter) * B)) (face_value_z w l e f r) (face_value_z w l e' f r)
  unfolding face_value_z
  value_near f k first_alone = doubled (direction_bound (4 * f) (side₀_lt l f k))
  value_near f k second_alone = doubled (direction_bound (4 * f + 1) (side₁_lt l f k))
  value_near f k both_inner = added (direction_bound (4 * f) (side₀_lt l f k)) (direction_bound (4 * f + 1) (side₁_lt l f k))
  value_near f k neither_inner = added (direction_bound (4 * f) (side₀_lt l f k)) (direction_bound (4 * f + 1) (side₁_lt l f k))

  pub face_z_near : (f : ℕ) → f < quads.faces (length l) → nat_abs (face_z w l e f -ℤ face_z w l e' f) ≤ 2 * ((5 * tame.quarter) * B)
  unfolding face_z
  face_z_near f k = (value_near f k (face_rule l f)).bound

-- 5/4 of 11/6 is 55/24: from the bound of edge points, which is in sixths, to that of face points
pub five_quarters : (w : Weights) (tame : Tame w) (d : ℕ) → 24 * (2 * ((5 * tame.quarter) * (edge_scale w * (11 * d) / 6))) ≤ face_scale w * (55 * d)
five_quarters w tame d =
    let q : ℕ = tame.quarter in
    let x : ℕ = edge_scale w * (11 * d) in
    let a = tame.apart in
    let e : scale w ≡ 4 * q = omega arith in
    let m : (40 * q) * (6 * (x / 6)) ≤ (40 * q) * x = mul-le-mul_left (40 * q) (omega arith) in
    let f : 24 * (2 * ((5 * q) * (x / 6))) ≡ (40 * q) * (6 * (x / 6)) =
    ap nat_abs (same (lit (pos 24) ⊠ (lit (pos 2) ⊠ (lit (pos 5) ⊠ var 0 ⊠ var 1))) (lit (pos 40) ⊠ var 0 ⊠ (lit (pos 6) ⊠ var 1)) (pos q ∷ pos (x / 6) ∷ []) refl) in
    let g : 2 * (4 * q * edge_scale w) * (55 * d) ≡ (40 * q) * x =
    ap nat_abs (same (lit (pos 2) ⊠ (lit (pos 4) ⊠ var 0 ⊠ var 1) ⊠ (lit (pos 55) ⊠ var 2)) (lit (pos 40) ⊠ var 0 ⊠ (var 1 ⊠ (lit (pos 11) ⊠ var 2))) (pos q ∷ pos (edge_scale w) ∷ pos d ∷ []) refl) in
    let h = ap (λ (s : ℕ). 2 * (s * edge_scale w) * (55 * d)) e in
    omega arith

module _ (w : Weights) (tame : Tame w) (v : ℕ) (l marks : List ℕ) (ok : Manifold quads v l) (p p' : ℕ → ℤ) (d : ℕ) (near : (x : ℕ) → x < v → nat_abs (p x -ℤ p' x) ≤ d) where
  pub face_near : (f : ℕ) → f < quads.faces (length l) → 24 * nat_abs (face_z w l (edge_z w l marks p) f -ℤ face_z w l (edge_z w l marks p') f) ≤ face_scale w * (55 * d)
  face_near f k =
      let x : ℕ = edge_scale w * (11 * d) in
      let r = face_z_near w tame v l ok (edge_z w l marks p) (edge_z w l marks p') (x / 6) (λ h c. let y = edge_near w tame v l ok p p' d near marks h c in omega arith) f k in
      let z = five_quarters w tame d in
      omega arith
