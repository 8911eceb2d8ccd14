-- Laws of sums of integers. Assumes nothing.
use mathlib.Core.Path.{◌≡◌, refl, sym, ap, ap₂, ◌∙◌}
use mathlib.Core.List.{[], ◌∷◌}
use Prim.Native.Nat.{ℕ, zero, suc, ◌+◌, ◌*◌, ◌≤◌, ◌<◌}
use native.Mathlib.Nat.{suc-mul, le_trans, add-le-add}
use native.Mathlib.Numerals.{add-one}
use native.Mathlib.Omega.{arith}
use lib.IntN.{ℤ, pos, nat_abs, ◌+ℤ◌, ◌-ℤ◌, ◌*ℤ◌, *ℤ-zero, zero-*ℤ}
use Rattle.integers.specs.Sum.{sum}
use Rattle.integers.proofs.AbsoluteValue.{abs-add}
use Rattle.integers.proofs.Ring.{+ℤ_swap, *ℤ_dist}
use Rattle.integers.proofs.Polynomial.{var, lit, ◌⊞◌, ◌⊟◌, ◌⊠◌, same}

-- ---- the loop that adds
pub sum_none : (f : ℕ → ℤ) → pos 0 ≡ sum 0 f
unfolding sum
sum_none f = refl

pub sum_more : (n : ℕ) (f : ℕ → ℤ) → sum n f +ℤ f n ≡ sum (n + 1) f
unfolding sum
sum_more n f = rw (add-one n)

-- ---- its size
pub abs-sum : (n : ℕ) (f : ℕ → ℤ) (B : ℕ) → ((k : ℕ) → k < n → nat_abs (f k) ≤ B) → nat_abs (sum n f) ≤ n * B
unfolding sum
abs-sum zero f B h = omega arith
abs-sum (suc n) f B h =
    le_trans (abs-add (sum n f) (f n)) (rw (suc-mul n B) (add-le-add (abs-sum n f B (λ k l. h k (omega arith))) (h n (omega arith))))

-- ---- it is linear, and depends on the terms alone
pub sum_cong : (n : ℕ) (f g : ℕ → ℤ) → ((k : ℕ) → k < n → f k ≡ g k) → sum n f ≡ sum n g
unfolding sum
sum_cong zero f g h = refl
sum_cong (suc n) f g h = ap₂ ◌+ℤ◌ (sum_cong n f g (λ k l. h k (omega arith))) (h n (omega arith))

pub sum-add : (n : ℕ) (f g : ℕ → ℤ) → sum n (λ (k : ℕ). f k +ℤ g k) ≡ sum n f +ℤ sum n g
unfolding sum
sum-add zero f g = refl
sum-add (suc n) f g = ap (λ (t : ℤ). t +ℤ (f n +ℤ g n)) (sum-add n f g) ∙ +ℤ_swap (sum n f) (sum n g) (f n) (g n)

pub sum_times : (c : ℤ) (n : ℕ) (f : ℕ → ℤ) → sum n (λ (k : ℕ). c *ℤ f k) ≡ c *ℤ sum n f
unfolding sum
sum_times c zero f = sym (*ℤ-zero c)
sum_times c (suc n) f = ap (λ (t : ℤ). t +ℤ c *ℤ f n) (sum_times c n f) ∙ sym (*ℤ_dist c (sum n f) (f n))

pub sum_const : (n : ℕ) (c : ℤ) → sum n (λ (d : ℕ). c) ≡ pos n *ℤ c
unfolding sum
sum_const zero c = sym (zero-*ℤ c)
sum_const (suc n) c = ap (λ (t : ℤ). t +ℤ c) (sum_const n c) ∙ same (var 0 ⊠ var 1 ⊞ var 1) ((var 0 ⊞ lit (pos 1)) ⊠ var 1) (pos n ∷ c ∷ []) refl ∙ ap (λ (m : ℕ). pos m *ℤ c) (add-one n)

pub sum-sub : (n : ℕ) (f g : ℕ → ℤ) → sum n (λ (d : ℕ). f d -ℤ g d) ≡ sum n f -ℤ sum n g
unfolding sum
sum-sub zero f g = refl
sum-sub (suc n) f g =
    ap (λ (t : ℤ). t +ℤ (f n -ℤ g n)) (sum-sub n f g)
    ∙ same ((var 0 ⊟ var 2) ⊞ (var 1 ⊟ var 3)) ((var 0 ⊞ var 1) ⊟ (var 2 ⊞ var 3)) (sum n f ∷ f n ∷ sum n g ∷ g n ∷ []) refl
