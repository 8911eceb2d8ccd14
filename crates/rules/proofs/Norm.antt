-- Three laws of each rule, in whole numbers over its denominator: it is additive in its points, so it speaks of differences; it spreads a difference by at most
-- its norm; it is constant on constants. The norms are 3 for an extrapolated point, 5/4 for the curve's rules and 11/6 for an edge point, at any tame weights.
-- Assumes nothing.
use mathlib.Core.Path.{◌≡◌, refl, sym, ap, subst, ◌∙◌}
use mathlib.Core.List.{[], ◌∷◌}
use Prim.Native.Nat.{ℕ, ◌+◌, ◌-◌, ◌*◌, ◌/◌, ◌≤◌, ◌<◌}
use native.Mathlib.Nat.{mul_assoc, mul_left_comm, mul-le-mul_left}
use native.Mathlib.Omega.{arith}
use lib.IntN.{ℤ, pos, nat_abs, ◌+ℤ◌, ◌-ℤ◌, ◌*ℤ◌}
use Rattle.integers.specs.Sum.{sum}
use Rattle.integers.proofs.AbsoluteValue.{abs-add, abs-sub, abs-mul}
use Rattle.integers.proofs.Polynomial.{Poly, var, lit, ◌⊞◌, ◌⊟◌, ◌⊠◌, same}
use Rattle.integers.proofs.Sum.{abs-sum, sum_const, sum-sub}
use Rattle.curve.specs.Weights.{Weights, scale, interior, end_edge, single_edge}
use Rattle.curve.proofs.Mirror.{end_mirrored}
use Rattle.curve.proofs.Distance.{Tame, products, product_size, interior_size, end_size, single_size}
use Rattle.rings.specs.Scales.{extrapolated_scale, virtual_scale, edge_scale}
use Rattle.rules.specs.Numerators.{extrapolated_z, extrapolated_corner_z, inner_edge_z}
use Rattle.rules.proofs.Ties.{edges_divide}

-- ---- the curve's rules, which serve boundary edges and the three kinds of directions
module _ (w : Weights) where
  pub interior-sub : (p q r s p' q' r' s' : ℤ) → interior w (p -ℤ p') (q -ℤ q') (r -ℤ r') (s -ℤ s') ≡ interior w p q r s -ℤ interior w p' q' r' s'
  interior-sub p q r s p' q' r' s' =
      same (var 8 ⊠ ((var 1 ⊟ var 5) ⊞ (var 2 ⊟ var 6)) ⊟ var 9 ⊠ ((var 0 ⊟ var 4) ⊞ (var 3 ⊟ var 7)))
      (var 8 ⊠ (var 1 ⊞ var 2) ⊟ var 9 ⊠ (var 0 ⊞ var 3) ⊟ (var 8 ⊠ (var 5 ⊞ var 6) ⊟ var 9 ⊠ (var 4 ⊞ var 7)))
      (p ∷ q ∷ r ∷ s ∷ p' ∷ q' ∷ r' ∷ s' ∷ pos w.near ∷ pos w.far ∷ []) refl

  pub end_sub : (p q r p' q' r' : ℤ) → end_edge w (p -ℤ p') (q -ℤ q') (r -ℤ r') ≡ end_edge w p q r -ℤ end_edge w p' q' r'
  end_sub p q r p' q' r' =
      same (var 6 ⊠ (var 0 ⊟ var 3) ⊞ var 7 ⊠ (var 1 ⊟ var 4) ⊟ var 8 ⊠ (var 2 ⊟ var 5))
      (var 6 ⊠ var 0 ⊞ var 7 ⊠ var 1 ⊟ var 8 ⊠ var 2 ⊟ (var 6 ⊠ var 3 ⊞ var 7 ⊠ var 4 ⊟ var 8 ⊠ var 5))
      (p ∷ q ∷ r ∷ p' ∷ q' ∷ r' ∷ pos (w.near - 2 * w.far) ∷ pos (w.near + w.far) ∷ pos w.far ∷ []) refl

  pub single_sub : (p q p' q' : ℤ) → single_edge w (p -ℤ p') (q -ℤ q') ≡ single_edge w p q -ℤ single_edge w p' q'
  single_sub p q p' q' =
      same (var 4 ⊠ ((var 0 ⊟ var 2) ⊞ (var 1 ⊟ var 3))) (var 4 ⊠ (var 0 ⊞ var 1) ⊟ var 4 ⊠ (var 2 ⊞ var 3)) (p ∷ q ∷ p' ∷ q' ∷ pos (w.near - w.far) ∷ []) refl

  -- times 5/4 of the scale
  module _ (tame : Tame w) (d : ℕ) where
    pub interior_near : (p q r s p' q' r' s' : ℤ) → nat_abs (p -ℤ p') ≤ d → nat_abs (q -ℤ q') ≤ d → nat_abs (r -ℤ r') ≤ d → nat_abs (s -ℤ s') ≤ d
        → nat_abs (interior w p q r s -ℤ interior w p' q' r' s') ≤ (5 * tame.quarter) * d
    interior_near p q r s p' q' r' s' a b c e =
        subst (λ (z : ℤ). nat_abs z ≤ (5 * tame.quarter) * d) (interior-sub p q r s p' q' r' s') (interior_size w tame (p -ℤ p') (q -ℤ q') (r -ℤ r') (s -ℤ s') d a b c e)

    pub end_near : (p q r p' q' r' : ℤ) → nat_abs (p -ℤ p') ≤ d → nat_abs (q -ℤ q') ≤ d → nat_abs (r -ℤ r') ≤ d
        → nat_abs (end_edge w p q r -ℤ end_edge w p' q' r') ≤ (5 * tame.quarter) * d
    end_near p q r p' q' r' a b c = subst (λ (z : ℤ). nat_abs z ≤ (5 * tame.quarter) * d) (end_sub p q r p' q' r') (end_size w tame (p -ℤ p') (q -ℤ q') (r -ℤ r') d a b c)

    pub single_near : (p q p' q' : ℤ) → nat_abs (p -ℤ p') ≤ d → nat_abs (q -ℤ q') ≤ d → nat_abs (single_edge w p q -ℤ single_edge w p' q') ≤ (5 * tame.quarter) * d
    single_near p q p' q' a b = subst (λ (z : ℤ). nat_abs z ≤ (5 * tame.quarter) * d) (single_sub p q p' q') (single_size w tame (p -ℤ p') (q -ℤ q') d a b)

-- on constants
module _ (w : Weights) (c : ℤ) where
  pub interior_constant : w.far ≤ w.near → interior w c c c c ≡ pos (scale w) *ℤ c
  interior_constant h =
      let d : ℕ = w.near - w.far in
      let e : w.near ≡ d + w.far = omega arith in
      ap (λ (n : ℕ). pos n *ℤ (c +ℤ c) -ℤ pos w.far *ℤ (c +ℤ c)) e
      ∙ same ((var 0 ⊞ var 1) ⊠ (var 2 ⊞ var 2) ⊟ var 1 ⊠ (var 2 ⊞ var 2)) (lit (pos 2) ⊠ var 0 ⊠ var 2) (pos d ∷ pos w.far ∷ c ∷ []) refl

  pub end_constant : 2 * w.far ≤ w.near → end_edge w c c c ≡ pos (scale w) *ℤ c
  end_constant h =
      end_mirrored w h c c c ∙ ap (λ (x : ℤ). interior w x c c c) (same (lit (pos 2) ⊠ var 0 ⊟ var 0) (var 0) (c ∷ []) refl) ∙ interior_constant (omega arith)

  pub single_constant : single_edge w c c ≡ pos (scale w) *ℤ c
  single_constant = same (var 0 ⊠ (var 1 ⊞ var 1)) (lit (pos 2) ⊠ var 0 ⊠ var 1) (pos (w.near - w.far) ∷ c ∷ []) refl

-- ---- extrapolated points: norm 3
abbrev twice_p : Poly
twice_p = lit (pos (2 * extrapolated_scale))

abbrev once_p : Poly
once_p = lit (pos extrapolated_scale)

pub extrapolated-sub : (P P' : ℤ) (r : ℕ) (f f' : ℕ → ℤ) → extrapolated_z (P -ℤ P') r (λ (i : ℕ). f i -ℤ f' i) ≡ extrapolated_z P r f -ℤ extrapolated_z P' r f'
extrapolated-sub P P' r f f' =
    let c : ℤ = pos (extrapolated_scale / r) in
    ap (λ (t : ℤ). pos (2 * extrapolated_scale) *ℤ (P -ℤ P') -ℤ c *ℤ t) (sum-sub r f f')
    ∙ same (twice_p ⊠ (var 0 ⊟ var 1) ⊟ var 2 ⊠ (var 3 ⊟ var 4)) (twice_p ⊠ var 0 ⊟ var 2 ⊠ var 3 ⊟ (twice_p ⊠ var 1 ⊟ var 2 ⊠ var 4)) (P ∷ P' ∷ c ∷ sum r f ∷ sum r f' ∷ []) refl

extrapolated_size : (P : ℤ) (r : ℕ) (f : ℕ → ℤ) (d : ℕ) → 1 ≤ r → r ≤ 5 → nat_abs P ≤ d → ((i : ℕ) → i < r → nat_abs (f i) ≤ d) → nat_abs (extrapolated_z P r f) ≤ extrapolated_scale * (3 * d)
extrapolated_size P r f d h k a b =
    let c : ℕ = extrapolated_scale / r in
    let m : c * nat_abs (sum r f) ≤ c * (r * d) = mul-le-mul_left c (abs-sum r f d b) in
    let e : c * (r * d) ≡ extrapolated_scale * d = sym (mul_assoc c r d) ∙ ap (λ (t : ℕ). t * d) (edges_divide r h k) in
    let g = abs-mul (pos c) (sum r f) in
    let i = abs-mul (pos (2 * extrapolated_scale)) P in
    let j = abs-sub (pos (2 * extrapolated_scale) *ℤ P) (pos c *ℤ sum r f) in
    omega arith

pub extrapolated_near : (P P' : ℤ) (r : ℕ) (f f' : ℕ → ℤ) (d : ℕ) → 1 ≤ r → r ≤ 5 → nat_abs (P -ℤ P') ≤ d → ((i : ℕ) → i < r → nat_abs (f i -ℤ f' i) ≤ d)
    → nat_abs (extrapolated_z P r f -ℤ extrapolated_z P' r f') ≤ extrapolated_scale * (3 * d)
extrapolated_near P P' r f f' d h k a b =
    subst (λ (z : ℤ). nat_abs z ≤ extrapolated_scale * (3 * d)) (extrapolated-sub P P' r f f') (extrapolated_size (P -ℤ P') r (λ (i : ℕ). f i -ℤ f' i) d h k a b)

pub extrapolated_constant : (c : ℤ) (r : ℕ) → 1 ≤ r → r ≤ 5 → extrapolated_z c r (λ (i : ℕ). c) ≡ pos extrapolated_scale *ℤ c
extrapolated_constant c r h k =
    let q : ℤ = pos (extrapolated_scale / r) in
    ap (λ (t : ℤ). pos (2 * extrapolated_scale) *ℤ c -ℤ q *ℤ t) (sum_const r c)
    ∙ same (twice_p ⊠ var 0 ⊟ var 1 ⊠ (var 2 ⊠ var 0)) (twice_p ⊠ var 0 ⊟ (var 1 ⊠ var 2) ⊠ var 0) (c ∷ q ∷ pos r ∷ []) refl
    ∙ ap (λ (t : ℕ). pos (2 * extrapolated_scale) *ℤ c -ℤ pos t *ℤ c) (edges_divide r h k)
    ∙ same (twice_p ⊠ var 0 ⊟ once_p ⊠ var 0) (once_p ⊠ var 0) (c ∷ []) refl

pub extrapolated-corner-sub : (P Q P' Q' : ℤ) → extrapolated_corner_z (P -ℤ P') (Q -ℤ Q') ≡ extrapolated_corner_z P Q -ℤ extrapolated_corner_z P' Q'
extrapolated-corner-sub P Q P' Q' =
    same (twice_p ⊠ (var 0 ⊟ var 2) ⊟ once_p ⊠ (var 1 ⊟ var 3)) (twice_p ⊠ var 0 ⊟ once_p ⊠ var 1 ⊟ (twice_p ⊠ var 2 ⊟ once_p ⊠ var 3)) (P ∷ Q ∷ P' ∷ Q' ∷ []) refl

pub extrapolated-corner_near : (P Q P' Q' : ℤ) (d : ℕ) → nat_abs (P -ℤ P') ≤ d → nat_abs (Q -ℤ Q') ≤ d → nat_abs (extrapolated_corner_z P Q -ℤ extrapolated_corner_z P' Q') ≤ extrapolated_scale * (3 * d)
extrapolated-corner_near P Q P' Q' d a b =
    let e = ap nat_abs (extrapolated-corner-sub P Q P' Q') in
    let f = abs-mul (pos (2 * extrapolated_scale)) (P -ℤ P') in
    let g = abs-mul (pos extrapolated_scale) (Q -ℤ Q') in
    let h = abs-sub (pos (2 * extrapolated_scale) *ℤ (P -ℤ P')) (pos extrapolated_scale *ℤ (Q -ℤ Q')) in
    omega arith

pub extrapolated-corner_constant : (c : ℤ) → extrapolated_corner_z c c ≡ pos extrapolated_scale *ℤ c
extrapolated-corner_constant c = same (twice_p ⊠ var 0 ⊟ once_p ⊠ var 0) (once_p ⊠ var 0) (c ∷ []) refl

-- ---- edge points: norm 11/6
abbrev inner_p : (P Q z_p z_q : Poly) → Poly
inner_p P Q z_p z_q = var 0 ⊠ (var 2 ⊠ P ⊞ var 2 ⊠ Q) ⊟ var 1 ⊠ (z_p ⊞ z_q)

module _ (w : Weights) where
  pub inner-sub : (P Q z_p z_q P' Q' z_p' z_q' : ℤ) → inner_edge_z w (P -ℤ P') (Q -ℤ Q') (z_p -ℤ z_p') (z_q -ℤ z_q') ≡ inner_edge_z w P Q z_p z_q -ℤ inner_edge_z w P' Q' z_p' z_q'
  inner-sub P Q z_p z_q P' Q' z_p' z_q' =
      same (inner_p (var 3 ⊟ var 7) (var 4 ⊟ var 8) (var 5 ⊟ var 9) (var 6 ⊟ var 10)) (inner_p (var 3) (var 4) (var 5) (var 6) ⊟ inner_p (var 7) (var 8) (var 9) (var 10))
      (pos w.near ∷ pos w.far ∷ pos (virtual_scale w) ∷ P ∷ Q ∷ z_p ∷ z_q ∷ P' ∷ Q' ∷ z_p' ∷ z_q' ∷ []) refl

  pub inner_constant : w.far ≤ w.near → (c : ℤ) → inner_edge_z w c c (pos (virtual_scale w) *ℤ c) (pos (virtual_scale w) *ℤ c) ≡ pos (edge_scale w) *ℤ c
  inner_constant h c =
      interior_constant w (pos (virtual_scale w) *ℤ c) h ∙ same (var 0 ⊠ (var 1 ⊠ var 2)) (var 0 ⊠ var 1 ⊠ var 2) (pos (scale w) ∷ pos (virtual_scale w) ∷ c ∷ []) refl

  -- at tame weights
  module _ (tame : Tame w) where
    -- the bound, in products of virtual_scale · d
    over_edge : (d : ℕ) → edge_scale w * (11 * d) ≡ 44 * (tame.quarter * (virtual_scale w * d))
    over_edge d =
        let a = tame.apart in
        let e : scale w ≡ 4 * tame.quarter = omega arith in
        ap (λ (s : ℕ). s * virtual_scale w * (11 * d)) e
        ∙ ap nat_abs (same (lit (pos 4) ⊠ var 0 ⊠ var 1 ⊠ (lit (pos 11) ⊠ var 2)) (lit (pos 44) ⊠ (var 0 ⊠ (var 1 ⊠ var 2))) (pos tame.quarter ∷ pos (virtual_scale w) ∷ pos d ∷ []) refl)

    -- the virtual points differ by at most 17/3 d
    pub inner_near : (P Q z_p z_q P' Q' z_p' z_q' : ℤ) (d : ℕ) → nat_abs (P -ℤ P') ≤ d → nat_abs (Q -ℤ Q') ≤ d
        → 3 * nat_abs (z_p -ℤ z_p') ≤ virtual_scale w * (17 * d) → 3 * nat_abs (z_q -ℤ z_q') ≤ virtual_scale w * (17 * d)
        → 6 * nat_abs (inner_edge_z w P Q z_p z_q -ℤ inner_edge_z w P' Q' z_p' z_q') ≤ edge_scale w * (11 * d)
    inner_near P Q z_p z_q P' Q' z_p' z_q' d a b c e =
        let D : ℕ = virtual_scale w in
        let u : ℕ = D * d in
        let x₁ : ℤ = pos D *ℤ (P -ℤ P') in
        let x₂ : ℤ = pos D *ℤ (Q -ℤ Q') in
        let y : ℤ = (z_p -ℤ z_p') +ℤ (z_q -ℤ z_q') in
        let f = ap nat_abs (inner-sub P Q z_p z_q P' Q' z_p' z_q') in
        let s₁ = product_size w tame D 1 (P -ℤ P') d (omega arith) in
        let s₂ = product_size w tame D 1 (Q -ℤ Q') d (omega arith) in
        let g = abs-add x₁ x₂ in
        let h = abs-add (z_p -ℤ z_p') (z_q -ℤ z_q') in
        let i = product_size w tame w.near 2 (x₁ +ℤ x₂) u (omega arith) in
        let o = mul_left_comm D 17 d in
        let m : 3 * nat_abs y ≤ 34 * u = omega arith in
        let n = mul-le-mul_left w.far m in
        let n₁ = mul_left_comm w.far 3 (nat_abs y) in
        let n₂ = mul_left_comm w.far 34 u in
        let n₃ = abs-mul (pos w.far) y in
        let j = abs-sub (pos w.near *ℤ (x₁ +ℤ x₂)) (pos w.far *ℤ y) in
        let k = products w tame u in
        let k₁ = k.near in
        let k₂ = k.far in
        let z = over_edge d in
        omega arith

    -- a boundary edge's numerator over the scale
    pub boundary_edge_near : (n n' : ℤ) (d : ℕ) → nat_abs (n -ℤ n') ≤ (5 * tame.quarter) * d → 6 * nat_abs (pos (virtual_scale w) *ℤ n -ℤ pos (virtual_scale w) *ℤ n') ≤ edge_scale w * (11 * d)
    boundary_edge_near n n' d a =
        let D : ℕ = virtual_scale w in
        let e = ap nat_abs (same (var 0 ⊠ var 1 ⊟ var 0 ⊠ var 2) (var 0 ⊠ (var 1 ⊟ var 2)) (pos D ∷ n ∷ n' ∷ []) refl) ∙ abs-mul (pos D) (n -ℤ n') in
        let f = mul-le-mul_left D a in
        let g : D * ((5 * tame.quarter) * d) ≡ 5 * (tame.quarter * (D * d)) =
        ap nat_abs (same (var 0 ⊠ (lit (pos 5) ⊠ var 1 ⊠ var 2)) (lit (pos 5) ⊠ (var 1 ⊠ (var 0 ⊠ var 2))) (pos D ∷ pos tame.quarter ∷ pos d ∷ []) refl) in
        let z = over_edge d in
        omega arith
