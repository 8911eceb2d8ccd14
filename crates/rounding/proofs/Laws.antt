-- What the other crates know of rounding: it is near, it depends on the value of the fraction alone, it is monotone, it keeps whole numbers, and it moves
-- with them. Assumes nothing.
use mathlib.Core.Path.{◌≡◌, refl, sym, ap, ap₂, ◌∙◌}
use mathlib.Core.List.{[], ◌∷◌}
use Prim.Native.Nat.{ℕ, zero, suc, ◌+◌, ◌-◌, ◌*◌, ◌/◌, ◌%◌, ◌≤◌, ◌<◌}
use native.Mathlib.Nat.{div-add-mod, mod-lt, mul_comm, mul-add, mul_left_comm, mul-le-mul_left, le_of_mul-le-mul_left}
use native.Mathlib.Decide.{dec_lt}
use native.Mathlib.Omega.{arith}
use lib.IntN.{ℤ, pos, negsuc, neg_ℤ, nat_abs, ◌+ℤ◌, ◌-ℤ◌, ◌*ℤ◌}
use lib.Signed.{◌≤ℤ◌, shr_z}
use Rattle.integers.proofs.AbsoluteValue.{abs-add, abs-mul}
use Rattle.integers.proofs.Linear.{at, whole, ◌⊕◌, ◌⊖◌, ◌⊙◌}
use Rattle.integers.proofs.Polynomial.{var, lit, ◌⊞◌, ◌⊟◌, ◌⊠◌, same}
use Rattle.integers.proofs.Order.{up, dn, up_mul, dn_mul, diff, eq_by, abs_by, le_by, eq_of_abs, of_le}
use Rattle.rounding.specs.Rounding.{floor, round}
use Rattle.rounding.proofs.Examples

-- ---- division with a rest: z is d q + rest
pub record Rest (z q : ℤ) (d : ℕ) : Type 0 where
  pub rest : ℕ
  pub below : rest < d
  pub sum : z ≡ pos d *ℤ q +ℤ pos rest

none : (d t : ℕ) → d * t < d → t ≡ 0
none d zero k = refl
none d (suc t) k = let m = mul-add d 1 t in let e : d * suc t ≡ d * (1 + t) = ap (λ (n : ℕ). d * n) (omega arith) in absurd (omega arith)

floor_rest : (z : ℤ) (d : ℕ) → 0 < d → Rest z (floor z d) d
floor_rest (pos a) d h = record { rest = a % d; below = mod-lt a h; sum = ap pos (sym (div-add-mod a d)) }
floor_rest (negsuc a) d h =
    let q : ℕ = a / d in
    let r : ℕ = a % d in
    let b : r < d = mod-lt a h in
    let s : ℕ = d - suc r in
    let e = div-add-mod a d in
    let m = mul-add d 1 q in
    let n : d * suc q ≡ d * (1 + q) = ap (λ (k : ℕ). d * k) (omega arith) in
    let o : d * suc q ≡ suc (a + s) = omega arith in
    record {
      rest = s;
      below = omega arith;
      sum = eq_by (whole (negsuc a)) (whole (negsuc (a + s)) ⊕ whole (pos s)) [] (omega arith) ∙ ap (λ (k : ℕ). neg_ℤ (pos k) +ℤ pos s) (sym o);
    }

-- the quotient is one
rest_one : (z q q' : ℤ) (d : ℕ) → Rest z q d → Rest z q' d → q ≡ q'
rest_one z q q' d s t =
    let r : ℕ = s.rest in
    let r' : ℕ = t.rest in
    let b = s.below in
    let b' = t.below in
    let i : pos d *ℤ (q -ℤ q') ≡ (z -ℤ z) +ℤ (pos r' -ℤ pos r) =
    same (var 0 ⊠ (var 1 ⊟ var 2)) ((var 0 ⊠ var 1 ⊞ var 3) ⊟ (var 0 ⊠ var 2 ⊞ var 4) ⊞ (var 4 ⊟ var 3)) (pos d ∷ q ∷ q' ∷ pos r ∷ pos r' ∷ []) refl
    ∙ ap₂ (λ (x y : ℤ). x -ℤ y +ℤ (pos r' -ℤ pos r)) (sym s.sum) (sym t.sum) in
    let c : nat_abs ((z -ℤ z) +ℤ (pos r' -ℤ pos r)) ≤ d - 1 = abs_by ((at 0 ⊖ at 0) ⊕ (whole (pos r') ⊖ whole (pos r))) (z ∷ []) (d - 1) (omega arith) (omega arith) in
    let e = ap nat_abs i in
    let f = abs-mul (pos d) (q -ℤ q') in
    eq_of_abs q q' (none d (nat_abs (q -ℤ q')) (omega arith))

-- ---- rounding: 2z + d is 2d times it and a rest below 2d; and nothing else is
pub round_rest : (z : ℤ) (d : ℕ) → 0 < d → Rest (pos 2 *ℤ z +ℤ pos d) (round z d) (2 * d)
unfolding round
round_rest z d h = floor_rest (pos 2 *ℤ z +ℤ pos d) (2 * d) (omega arith)

pub round_is : (z q : ℤ) (d : ℕ) → 0 < d → Rest (pos 2 *ℤ z +ℤ pos d) q (2 * d) → round z d ≡ q
round_is z q d h r = rest_one (pos 2 *ℤ z +ℤ pos d) (round z d) q (2 * d) (round_rest z d h) r

-- ---- near: |d r - z| is at most half of d
pub round_near : (z : ℤ) (d : ℕ) → 0 < d → 2 * nat_abs (pos d *ℤ round z d -ℤ z) ≤ d
round_near z d h =
    let s = round_rest z d h in
    let q : ℤ = round z d in
    let r : ℕ = s.rest in
    let b = s.below in
    let i : pos 2 *ℤ (pos d *ℤ q -ℤ z) ≡ pos d -ℤ pos r =
    same (lit (pos 2) ⊠ (var 0 ⊠ var 1 ⊟ var 2)) (((lit (pos 2) ⊠ var 0) ⊠ var 1 ⊞ var 3) ⊟ (lit (pos 2) ⊠ var 2 ⊞ var 0) ⊞ (var 0 ⊟ var 3)) (pos d ∷ q ∷ z ∷ pos r ∷ []) refl
    ∙ ap (λ (x : ℤ). x -ℤ (pos 2 *ℤ z +ℤ pos d) +ℤ (pos d -ℤ pos r)) (sym s.sum)
    ∙ same (var 0 ⊟ var 0 ⊞ (var 1 ⊟ var 2)) (var 1 ⊟ var 2) ((pos 2 *ℤ z +ℤ pos d) ∷ pos d ∷ pos r ∷ []) refl in
    let c : nat_abs (pos d -ℤ pos r) ≤ d = abs_by (whole (pos d) ⊖ whole (pos r)) [] d (omega arith) (omega arith) in
    let e = ap nat_abs i in
    let f = abs-mul (pos 2) (pos d *ℤ q -ℤ z) in
    omega arith

-- so what is rounded grows by at most a half
pub round_size : (z : ℤ) (d : ℕ) → 0 < d → 2 * (d * nat_abs (round z d)) ≤ 2 * nat_abs z + d
round_size z d h =
    let r : ℤ = round z d in
    let e : pos d *ℤ r ≡ (pos d *ℤ r -ℤ z) +ℤ z = same (var 0 ⊠ var 1) ((var 0 ⊠ var 1 ⊟ var 2) ⊞ var 2) (pos d ∷ r ∷ z ∷ []) refl in
    let a = ap nat_abs e in
    let b = abs-add (pos d *ℤ r -ℤ z) z in
    let c = abs-mul (pos d) r in
    let g = round_near z d h in
    omega arith

-- and what is within d times a whole number is rounded to within that number
pub round_within : (z : ℤ) (d B : ℕ) → 0 < d → nat_abs z ≤ d * B → nat_abs (round z d) ≤ B
round_within z d B h k =
    let a = round_size z d h in
    let e = mul_left_comm d 2 (nat_abs (round z d)) in
    let f = mul_left_comm d 2 B in
    let g = mul-add d (2 * B) 1 in
    let i : 2 * nat_abs (round z d) ≤ 2 * B + 1 = le_of_mul-le-mul_left {k = d} (omega arith) h in
    omega arith

-- ---- the value alone: k z / k d is z / d
some_of : (k d : ℕ) → 0 < k * d → 0 < d
some_of k zero l = absurd (omega arith)
some_of k (suc d) l = omega arith

pub round-scale : (k : ℕ) (z : ℤ) (d : ℕ) → 0 < k → 0 < k * d → round (pos k *ℤ z) (k * d) ≡ round z d
round-scale k z d h l =
    let p = some_of k d l in
    let s = round_rest z d p in
    let q : ℤ = round z d in
    let r : ℕ = s.rest in
    let b : k * suc r ≤ k * (2 * d) = mul-le-mul_left k s.below in
    let m = mul-add k 1 r in
    let n : k * suc r ≡ k * (1 + r) = ap (λ (t : ℕ). k * t) (omega arith) in
    let o = mul_left_comm k 2 d in
    round_is (pos k *ℤ z) q (k * d) l (record {
      rest = k * r;
      below = omega arith;
      sum =
          same (lit (pos 2) ⊠ (var 0 ⊠ var 1) ⊞ var 0 ⊠ var 2) (var 0 ⊠ (lit (pos 2) ⊠ var 1 ⊞ var 2)) (pos k ∷ z ∷ pos d ∷ []) refl
          ∙ ap (λ (x : ℤ). pos k *ℤ x) s.sum
          ∙ same (var 0 ⊠ ((lit (pos 2) ⊠ var 1) ⊠ var 2 ⊞ var 3)) ((lit (pos 2) ⊠ (var 0 ⊠ var 1)) ⊠ var 2 ⊞ var 0 ⊠ var 3) (pos k ∷ pos d ∷ q ∷ pos r ∷ []) refl;
    })

-- two fractions of one value are rounded alike
pub round_value : (z w : ℤ) (d e : ℕ) → 0 < d → 0 < e → 0 < d * e → pos e *ℤ z ≡ pos d *ℤ w → round z d ≡ round w e
round_value z w d e a b c h =
    let l : 0 < e * d = omega (arith, mul_comm d e) in
    sym (round-scale e z d b l) ∙ ap₂ round h (mul_comm e d) ∙ round-scale d w e a c

-- ---- moved by a whole number. Paper 02: "Refining a net moved by whole counts must equal moving the refined net"
pub round_shift : (z k : ℤ) (d : ℕ) → 0 < d → round (z +ℤ pos d *ℤ k) d ≡ round z d +ℤ k
round_shift z k d h =
    let s = round_rest z d h in
    let q : ℤ = round z d in
    round_is (z +ℤ pos d *ℤ k) (q +ℤ k) d h (record {
      rest = s.rest;
      below = s.below;
      sum =
          same (lit (pos 2) ⊠ (var 0 ⊞ var 1 ⊠ var 2) ⊞ var 1) ((lit (pos 2) ⊠ var 0 ⊞ var 1) ⊞ (lit (pos 2) ⊠ var 1) ⊠ var 2) (z ∷ pos d ∷ k ∷ []) refl
          ∙ ap (λ (x : ℤ). x +ℤ (pos 2 *ℤ pos d) *ℤ k) s.sum
          ∙ same (var 0 ⊠ var 1 ⊞ var 3 ⊞ var 0 ⊠ var 2) (var 0 ⊠ (var 1 ⊞ var 2) ⊞ var 3) (pos (2 * d) ∷ q ∷ k ∷ pos s.rest ∷ []) refl;
    })

-- ---- whole numbers stay
pub round_whole : (z : ℤ) (d : ℕ) → 0 < d → round (pos d *ℤ z) d ≡ z
round_whole z d h =
    round_is (pos d *ℤ z) z d h (record {
      rest = d;
      below = omega arith;
      sum = same (lit (pos 2) ⊠ (var 0 ⊠ var 1) ⊞ var 0) ((lit (pos 2) ⊠ var 0) ⊠ var 1 ⊞ var 0) (pos d ∷ z ∷ []) refl;
    })

-- ---- monotone
pub round_monotone : (z w : ℤ) (d : ℕ) → 0 < d → z ≤ℤ w → round z d ≤ℤ round w d
round_monotone z w d h k =
    let x : ℤ = round z d in
    let y : ℤ = round w d in
    go (dec_lt (up y + dn x) (up x + dn y))
  where
    go : Dec (up (round w d) + dn (round z d) < up (round z d) + dn (round w d)) → round z d ≤ℤ round w d
    go (no c) = le_by (at 0) (at 1) (round z d ∷ round w d ∷ []) (omega arith)
    go (yes c) =
        let x : ℤ = round z d in
        let y : ℤ = round w d in
        let D : ℕ = 2 * d in
        let s = round_rest z d h in
        let t = round_rest w d h in
        let l = of_le z w k in
        let a = diff (pos 2 ⊙ at 0 ⊕ whole (pos d)) (z ∷ []) in
        let b = diff (pos 2 ⊙ at 0 ⊕ whole (pos d)) (w ∷ []) in
        let e = diff (at 0 ⊕ whole (pos s.rest)) ((pos D *ℤ x) ∷ []) in
        let f = diff (at 0 ⊕ whole (pos t.rest)) ((pos D *ℤ y) ∷ []) in
        let e₁ = up_mul D x in
        let e₂ = dn_mul D x in
        let f₁ = up_mul D y in
        let f₂ = dn_mul D y in
        let p = ap up s.sum in
        let p' = ap dn s.sum in
        let q = ap up t.sum in
        let q' = ap dn t.sum in
        let u = s.below in
        let v = t.below in
        let m : D * (1 + (up y + dn x)) ≤ D * (up x + dn y) = mul-le-mul_left D (omega arith) in
        let m₁ = mul-add D 1 (up y + dn x) in
        let m₂ = mul-add D (up y) (dn x) in
        let m₃ = mul-add D (up x) (dn y) in
        absurd (omega arith)

-- ---- what the machine computes: raised by K whole numbers and a half, divided downward, lowered by K
pub round-raised : (z : ℤ) (h K u : ℕ) → 0 < h → pos u ≡ z +ℤ pos (h + (2 * h) * K) → pos (u / (2 * h)) -ℤ pos K ≡ round z (2 * h)
round-raised z h K u g e =
    let q : ℕ = u / (2 * h) in
    let r : ℕ = u % (2 * h) in
    let b : r < 2 * h = mod-lt u (omega arith) in
    let m = div-add-mod u (2 * h) in
    let n : pos (2 * h) *ℤ pos q +ℤ pos r ≡ z +ℤ pos (h + (2 * h) * K) = ap pos m ∙ e in
    sym (round_is z (pos q -ℤ pos K) (2 * h) (omega arith) (record {
      rest = 2 * r;
      below = omega arith;
      sum =
          same (lit (pos 2) ⊠ var 0 ⊞ lit (pos 2) ⊠ var 1) (lit (pos 2) ⊠ (var 0 ⊞ (var 1 ⊞ (lit (pos 2) ⊠ var 1) ⊠ var 2)) ⊟ (lit (pos 2) ⊠ (lit (pos 2) ⊠ var 1)) ⊠ var 2) (z ∷ pos h ∷ pos K ∷ []) refl
          ∙ ap (λ (x : ℤ). pos 2 *ℤ x -ℤ (pos 2 *ℤ (pos 2 *ℤ pos h)) *ℤ pos K) (sym n)
          ∙ same (lit (pos 2) ⊠ ((lit (pos 2) ⊠ var 0) ⊠ var 1 ⊞ var 3) ⊟ (lit (pos 2) ⊠ (lit (pos 2) ⊠ var 0)) ⊠ var 2) ((lit (pos 2) ⊠ (lit (pos 2) ⊠ var 0)) ⊠ (var 1 ⊟ var 2) ⊞ lit (pos 2) ⊠ var 3)
          (pos h ∷ pos q ∷ pos K ∷ pos r ∷ []) refl;
    }))

-- ---- by a shift: half the divisor added, and the floor taken; the machine's signed shift to the right goes downward too
round-floor : (z : ℤ) (h : ℕ) → 0 < h → floor (z +ℤ pos h) (2 * h) ≡ round z (2 * h)
round-floor z h g =
    let s = floor_rest (z +ℤ pos h) (2 * h) (omega arith) in
    let q : ℤ = floor (z +ℤ pos h) (2 * h) in
    let b = s.below in
    sym (round_is z q (2 * h) (omega arith) (record {
      rest = 2 * s.rest;
      below = omega arith;
      sum =
          same (lit (pos 2) ⊠ var 0 ⊞ lit (pos 2) ⊠ var 1) (lit (pos 2) ⊠ (var 0 ⊞ var 1)) (z ∷ pos h ∷ []) refl
          ∙ ap (λ (x : ℤ). pos 2 *ℤ x) s.sum
          ∙ same (lit (pos 2) ⊠ (var 0 ⊠ var 1 ⊞ var 2)) ((lit (pos 2) ⊠ var 0) ⊠ var 1 ⊞ lit (pos 2) ⊠ var 2) (pos (2 * h) ∷ q ∷ pos s.rest ∷ []) refl;
    }))

shr_floor : (z : ℤ) (d : ℕ) → shr_z z d ≡ floor z d
shr_floor (pos a) d = refl
shr_floor (negsuc a) d = refl

pub round_shr : (z : ℤ) (h : ℕ) → 0 < h → shr_z (z +ℤ pos h) (2 * h) ≡ round z (2 * h)
round_shr z h g = shr_floor (z +ℤ pos h) (2 * h) ∙ round-floor z h g
