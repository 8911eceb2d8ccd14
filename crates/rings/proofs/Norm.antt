-- How far a virtual point spreads a difference of two rings: 40/9 inside and 17/3 at a boundary vertex, at any weights whose far one is at most a ninth of the
-- near one. The growth is the sum of the sizes of the weights, which two computed tests bound at the weights (9, 1). Assumes nothing.
use mathlib.Core.Path.{◌≡◌, refl, sym, ap, ap₂, subst, ◌∙◌}
use mathlib.Core.Bool.{Bool, cond}
use mathlib.Core.List.{[], ◌∷◌}
use Prim.Native.Nat.{ℕ, zero, suc, ◌+◌, ◌-◌, ◌*◌, ◌/◌, ◌≤◌, ◌<◌}
use native.Mathlib.Nat.{add-mul, mul-add, mul_assoc, mul_left_comm, one-mul, mul-le-mul, mul-le-mul_left, mul-le-mul_right, le_refl}
use native.Mathlib.Omega.{arith}
use lib.Dec.{eqb, leb, leb→le}
use lib.IntN.{ℤ, pos, nat_abs, ◌+ℤ◌, ◌-ℤ◌, ◌*ℤ◌}
use Rattle.lists.proofs.Table.{every_below, below_at}
use Rattle.integers.specs.Sum.{sum}
use Rattle.integers.proofs.AbsoluteValue.{abs-add, abs-mul}
use Rattle.integers.proofs.Polynomial.{var, lit, ◌⊟◌, ◌⊠◌, same}
use Rattle.curve.specs.Weights.{Weights, kobbelt}
use Rattle.rings.specs.Ring.{Periodic}
use Rattle.rings.specs.RingWeights.{virtual_z, virtual_numerator, one_at, weight_l, weight_k}
use Rattle.rings.specs.Scales.{extrapolated_scale, valence_scale, virtual_scale}
use Rattle.rings.proofs.Periodic.{periodic_sub}
use Rattle.rings.proofs.Virtual.{virtual_weighted, virtual-sub}
use Rattle.rings.proofs.Ties.{over_valence}

-- f 0 + f 1 + .., of n naturals
abbrev pub total : ℕ → (ℕ → ℕ) → ℕ
total zero f = 0
total (suc n) f = total n f + f n

total_scaled : (a b : ℕ) (f g : ℕ → ℕ) → ((d : ℕ) → a * f d ≤ b * g d) → (n : ℕ) → a * total n f ≤ b * total n g
total_scaled a b f g h zero = omega arith
total_scaled a b f g h (suc n) =
    let r = total_scaled a b f g h n in
    let s = h n in
    let p = mul-add a (total n f) (f n) in
    let q = mul-add b (total n g) (g n) in
    omega arith

-- ---- one lemma: |sum of u x + v y| where |x d| ≤ p d B and |y d| ≤ q d B
product_abs : (u x : ℤ) (b B : ℕ) → nat_abs x ≤ b * B → nat_abs (u *ℤ x) ≤ nat_abs u * b * B
product_abs u x b B h = rw (abs-mul u x, mul_assoc (nat_abs u) b B) (mul-le-mul (le_refl (nat_abs u)) h)

weighted_abs : (n : ℕ) (u v x y : ℕ → ℤ) (p q : ℕ → ℕ) (B : ℕ) → ((d : ℕ) → d < n → nat_abs (x d) ≤ p d * B) → ((d : ℕ) → d < n → nat_abs (y d) ≤ q d * B)
    → nat_abs (sum n (λ (d : ℕ). u d *ℤ x d +ℤ v d *ℤ y d)) ≤ total n (λ (d : ℕ). nat_abs (u d) * p d + nat_abs (v d) * q d) * B
unfolding sum
weighted_abs zero u v x y p q B h k = omega arith
weighted_abs (suc n) u v x y p q B h k =
    let r = weighted_abs n u v x y p q B (λ d l. h d (omega arith)) (λ d l. k d (omega arith)) in
    let s : ℤ = sum n (λ (d : ℕ). u d *ℤ x d +ℤ v d *ℤ y d) in
    let t : ℕ = total n (λ (d : ℕ). nat_abs (u d) * p d + nat_abs (v d) * q d) in
    let a = product_abs (u n) (x n) (p n) B (h n (omega arith)) in
    let b = product_abs (v n) (y n) (q n) B (k n (omega arith)) in
    let c = abs-add s (u n *ℤ x n +ℤ v n *ℤ y n) in
    let d = abs-add (u n *ℤ x n) (v n *ℤ y n) in
    let e = add-mul t (nat_abs (u n) * p n + nat_abs (v n) * q n) B in
    let f = add-mul (nat_abs (u n) * p n) (nat_abs (v n) * q n) B in
    omega arith

-- ---- the size of the weights, where the neighbour at place d counts p d times and the opposite corner q d times
abbrev pub sizes : Weights → ℕ → (ℕ → ℕ) → (ℕ → ℕ) → ℕ → ℕ
sizes w n p q d = nat_abs (weight_l w n d) * p d + nat_abs (weight_k w n d) * q d

abbrev pub norm : Weights → ℕ → (ℕ → ℕ) → (ℕ → ℕ) → ℕ
norm w n p q = total n (sizes w n p q)

-- no more than at (9, 1), against the near weight
norm_small : (w : Weights) (n : ℕ) (p q : ℕ → ℕ) → 9 * w.far ≤ w.near → 9 * norm w n p q ≤ w.near * norm kobbelt n p q
norm_small w n p q small = total_scaled 9 w.near (sizes w n p q) (sizes kobbelt n p q) at n
  where
    at : (d : ℕ) → 9 * sizes w n p q d ≤ w.near * sizes kobbelt n p q d
    at d =
        let a : ℤ = pos 4 -ℤ pos n *ℤ (one_at (n - 1) d +ℤ one_at 0 d +ℤ one_at 1 d) in
        let b : ℤ = pos n *ℤ (one_at (n - 2) d +ℤ one_at (n - 1) d +ℤ one_at 0 d +ℤ one_at 1 d) -ℤ pos 4 in
        let x : ℕ = nat_abs a * p d in
        let y : ℕ = nat_abs b * q d in
        let e₁ = ap (λ (t : ℕ). t * p d) (abs-mul (pos w.near) a) ∙ mul_assoc w.near (nat_abs a) (p d) in
        let e₂ = ap (λ (t : ℕ). t * q d) (abs-mul (pos w.far) b) ∙ mul_assoc w.far (nat_abs b) (q d) in
        let e₃ = ap (λ (t : ℕ). t * p d) (abs-mul (pos 9) a) ∙ mul_assoc 9 (nat_abs a) (p d) in
        let e₄ = ap (λ (t : ℕ). t * q d) (abs-mul (pos 1) b) ∙ mul_assoc 1 (nat_abs b) (q d) in
        let f : (9 * w.far) * y ≤ w.near * y = mul-le-mul_right y small in
        let g = mul_assoc 9 w.far y in
        let m = mul-add w.near (9 * x) (1 * y) in
        let o = mul_left_comm w.near 9 x in
        let z = ap (λ (t : ℕ). w.near * t) (one-mul y) in
        let i : 9 * (w.near * x + w.far * y) ≤ w.near * (9 * x + 1 * y) = omega arith in
        subst (λ (t : ℕ). 9 * t ≤ w.near * sizes kobbelt n p q d) (sym (ap₂ ◌+◌ e₁ e₂)) (subst (λ (t : ℕ). 9 * (w.near * x + w.far * y) ≤ w.near * t) (sym (ap₂ ◌+◌ e₃ e₄)) i)

-- a ring whose points count once
abbrev pub once : ℕ → ℕ
once d = 1

-- 3 at place t, and at places t - 1 and t: an extrapolated point is of norm 3. P* stands between b and c at place t of the neighbours, c* and b* before and
-- after it among the opposite corners.
abbrev pub three_at : ℕ → ℕ → ℕ
three_at t d = cond (eqb d t) 3 1

abbrev pub three_around : ℕ → ℕ → ℕ
three_around t d = cond (eqb d t) 3 (cond (eqb (suc d) t) 3 1)

inside : ℕ → Bool
inside i = leb (norm kobbelt (i + 3) once once) (40 * (i + 3))

inside_norm : (n : ℕ) → 3 ≤ n → n ≤ 8 → norm kobbelt n once once ≤ 40 * n
unfolding inside
inside_norm n h k =
    let e : n - 3 + 3 ≡ n = omega arith in
    subst (λ (m : ℕ). norm kobbelt m once once ≤ 40 * m) e (leb→le (norm kobbelt (n - 3 + 3) once once) (40 * (n - 3 + 3)) (below_at 6 inside tt (n - 3) (omega arith)))

-- the edge is an inner one, so P* is 2 to n - 2 places on from it; the test takes every place below n - 1
boundary : ℕ → Bool
boundary n = every_below (n - 1) (λ t. leb (norm kobbelt n (three_at t) (three_around t)) (51 * n))

boundary_norm : (n t : ℕ) → n ≤ 8 → t < n - 1 → norm kobbelt n (three_at t) (three_around t) ≤ 51 * n
unfolding boundary
boundary_norm n t h k =
    leb→le (norm kobbelt n (three_at t) (three_around t)) (51 * n)
    (below_at (n - 1) (λ s. leb (norm kobbelt n (three_at s) (three_around s)) (51 * n)) (below_at 9 boundary tt n (omega arith)) t k)

-- ---- two rings, at places counted from the edge
module _ (n : ℕ) (l k l' k' : ℕ → ℤ) (h : 3 ≤ n) (rl : Periodic n l) (rk : Periodic n k) (rl' : Periodic n l') (rk' : Periodic n k') (j : ℕ) where
  module _ (w : Weights) where
    virtual_near : (p q : ℕ → ℕ) (B : ℕ) → ((d : ℕ) → d < n → nat_abs (l (j + d) -ℤ l' (j + d)) ≤ p d * B) → ((d : ℕ) → d < n → nat_abs (k (j + d) -ℤ k' (j + d)) ≤ q d * B)
        → nat_abs (virtual_z w n l k j -ℤ virtual_z w n l' k' j) ≤ norm w n p q * B
    virtual_near p q B a b =
        subst (λ (z : ℤ). nat_abs z ≤ norm w n p q * B)
        (sym (virtual_weighted w n (λ (d : ℕ). l d -ℤ l' d) (λ (d : ℕ). k d -ℤ k' d) (periodic_sub n l l' rl rl') (periodic_sub n k k' rk rk') j h) ∙ virtual-sub w n l k l' k' j)
        (weighted_abs n (weight_l w n) (weight_k w n) (λ (d : ℕ). l (j + d) -ℤ l' (j + d)) (λ (d : ℕ). k (j + d) -ℤ k' (j + d)) p q B a b)

  -- at such weights, from a bound c n of the norm at (9, 1)
  near_by : (w : Weights) → 9 * w.far ≤ w.near → (p q : ℕ → ℕ) (B c : ℕ) → norm kobbelt n p q ≤ c * n
      → ((d : ℕ) → d < n → nat_abs (l (j + d) -ℤ l' (j + d)) ≤ p d * B) → ((d : ℕ) → d < n → nat_abs (k (j + d) -ℤ k' (j + d)) ≤ q d * B)
      → 9 * nat_abs (virtual_z w n l k j -ℤ virtual_z w n l' k' j) ≤ w.near * (c * n * B)
  near_by w small p q B c g a b =
      let r = virtual_near w p q B a b in
      let s : 9 * norm w n p q * B ≤ w.near * norm kobbelt n p q * B = mul-le-mul_right B (norm_small w n p q small) in
      let t : w.near * norm kobbelt n p q * B ≤ w.near * (c * n) * B = mul-le-mul_right B (mul-le-mul_left w.near g) in
      let e = mul_assoc 9 (norm w n p q) B in
      let f = mul_assoc w.near (c * n) B in
      omega arith

  -- inside: 40/9
  inside_near : (w : Weights) → 9 * w.far ≤ w.near → n ≤ 8 → (B : ℕ)
      → ((d : ℕ) → d < n → nat_abs (l (j + d) -ℤ l' (j + d)) ≤ B) → ((d : ℕ) → d < n → nat_abs (k (j + d) -ℤ k' (j + d)) ≤ B)
      → 9 * nat_abs (virtual_z w n l k j -ℤ virtual_z w n l' k' j) ≤ w.near * (40 * n * B)
  inside_near w small g B a b = near_by w small once once B 40 (inside_norm n h g) (λ d z. rw (one-mul B) (a d z)) (λ d z. rw (one-mul B) (b d z))

  -- at a boundary vertex, P* being t places on from the edge: 17/3
  boundary_near : (w : Weights) → 9 * w.far ≤ w.near → n ≤ 8 → (B t : ℕ) → t < n - 1
      → ((d : ℕ) → d < n → nat_abs (l (j + d) -ℤ l' (j + d)) ≤ three_at t d * B) → ((d : ℕ) → d < n → nat_abs (k (j + d) -ℤ k' (j + d)) ≤ three_around t d * B)
      → 9 * nat_abs (virtual_z w n l k j -ℤ virtual_z w n l' k' j) ≤ w.near * (51 * n * B)
  boundary_near w small g B t z a b = near_by w small (three_at t) (three_around t) B 51 (boundary_norm n t g z) a b

  -- ---- over `virtual_scale`, from rings over `extrapolated_scale`
  module _ (w : Weights) (small : 9 * w.far ≤ w.near) (g : n ≤ 8) where
    numerator_near : (c B : ℕ) → 9 * nat_abs (virtual_z w n l k j -ℤ virtual_z w n l' k' j) ≤ w.near * (c * n * B)
        → 9 * nat_abs (virtual_numerator w n l k j -ℤ virtual_numerator w n l' k' j) ≤ w.near * (valence_scale * (c * B))
    numerator_near c B r =
        let q : ℕ = valence_scale / n in
        let v : ℤ = virtual_z w n l k j in
        let v' : ℤ = virtual_z w n l' k' j in
        let e : pos q *ℤ v -ℤ pos q *ℤ v' ≡ pos q *ℤ (v -ℤ v') = same (var 0 ⊠ var 1 ⊟ var 0 ⊠ var 2) (var 0 ⊠ (var 1 ⊟ var 2)) (pos q ∷ v ∷ v' ∷ []) refl in
        let a = ap nat_abs e ∙ abs-mul (pos q) (v -ℤ v') in
        let m : q * (9 * nat_abs (v -ℤ v')) ≤ q * (w.near * (c * n * B)) = mul-le-mul_left q r in
        let o = mul_left_comm q 9 (nat_abs (v -ℤ v')) in
        let s : q * (w.near * (c * n * B)) ≡ q * (w.near * n * (c * B)) =
        ap nat_abs (same (var 0 ⊠ (var 1 ⊠ (var 3 ⊠ var 2 ⊠ var 4))) (var 0 ⊠ (var 1 ⊠ var 2 ⊠ (var 3 ⊠ var 4))) (pos q ∷ pos w.near ∷ pos n ∷ pos c ∷ pos B ∷ []) refl) in
        let t = over_valence w n h g (c * B) in
        omega arith

    -- from an index that goes by d
    over_virtual : (c d : ℕ) → w.near * (valence_scale * (c * (extrapolated_scale * d))) ≡ virtual_scale w * (c * d)
    over_virtual c d =
        ap nat_abs (same (var 0 ⊠ (lit (pos valence_scale) ⊠ (var 1 ⊠ (lit (pos extrapolated_scale) ⊠ var 2)))) (var 0 ⊠ lit (pos (valence_scale * extrapolated_scale)) ⊠ (var 1 ⊠ var 2)) (pos w.near ∷ pos c ∷ pos d ∷ []) refl)

    pub inside_numerator_near : (d : ℕ)
        → ((i : ℕ) → i < n → nat_abs (l (j + i) -ℤ l' (j + i)) ≤ extrapolated_scale * d) → ((i : ℕ) → i < n → nat_abs (k (j + i) -ℤ k' (j + i)) ≤ extrapolated_scale * d)
        → 9 * nat_abs (virtual_numerator w n l k j -ℤ virtual_numerator w n l' k' j) ≤ virtual_scale w * (40 * d)
    inside_numerator_near d a b =
        let B : ℕ = extrapolated_scale * d in
        let r = numerator_near 40 B (inside_near w small g B a b) in
        let e = over_virtual 40 d in
        omega arith

    pub boundary_numerator_near : (d t : ℕ) → t < n - 1
        → ((i : ℕ) → i < n → nat_abs (l (j + i) -ℤ l' (j + i)) ≤ three_at t i * (extrapolated_scale * d)) → ((i : ℕ) → i < n → nat_abs (k (j + i) -ℤ k' (j + i)) ≤ three_around t i * (extrapolated_scale * d))
        → 3 * nat_abs (virtual_numerator w n l k j -ℤ virtual_numerator w n l' k' j) ≤ virtual_scale w * (17 * d)
    boundary_numerator_near d t z a b =
        let B : ℕ = extrapolated_scale * d in
        let r = numerator_near 51 B (boundary_near w small g B t z a b) in
        let e = over_virtual 51 d in
        let f = ap (λ (u : ℕ). virtual_scale w * u) (mul_assoc 3 17 d) ∙ mul_left_comm (virtual_scale w) 3 (17 * d) in
        omega arith
