-- Numbers by fours, 4k to 4k + 3, and by twos. Assumes nothing.
use mathlib.Core.Path.{◌≡◌, refl, ap, ◌∙◌, subst}
use mathlib.Core.Bool.{Bool, cond}
use Prim.Native.Nat.{ℕ, zero, suc, ◌+◌, ◌*◌, ◌/◌, ◌%◌, ◌<◌}
use native.Mathlib.Omega.{arith}
use Rattle.search.specs.Search.{count}

pub quarters : (n : ℕ) (P : ℕ → Type 0) → ((k : ℕ) → k < n → P (4 * k)) → ((k : ℕ) → k < n → P (4 * k + 1)) → ((k : ℕ) → k < n → P (4 * k + 2)) → ((k : ℕ) → k < n → P (4 * k + 3))
    → (g : ℕ) → g < 4 * n → P g
quarters n P a b c d g h = go (g % 4) refl
  where
    go : (j : ℕ) → g % 4 ≡ j → P g
    go zero e = let s : 4 * (g / 4) ≡ g = omega arith in subst P s (a (g / 4) (omega arith))
    go (suc zero) e = let s : 4 * (g / 4) + 1 ≡ g = omega arith in subst P s (b (g / 4) (omega arith))
    go (suc (suc zero)) e = let s : 4 * (g / 4) + 2 ≡ g = omega arith in subst P s (c (g / 4) (omega arith))
    go (suc (suc (suc zero))) e = let s : 4 * (g / 4) + 3 ≡ g = omega arith in subst P s (d (g / 4) (omega arith))
    go (suc (suc (suc (suc j)))) e = let z : ⊥ = omega arith in absurd z

-- two numbers with the same remainder
pub quarters₂ : (n : ℕ) (P : ℕ → ℕ → Type 0)
    → ((h k : ℕ) → h < n → k < n → P (4 * h) (4 * k))
    → ((h k : ℕ) → h < n → k < n → P (4 * h + 1) (4 * k + 1))
    → ((h k : ℕ) → h < n → k < n → P (4 * h + 2) (4 * k + 2))
    → ((h k : ℕ) → h < n → k < n → P (4 * h + 3) (4 * k + 3))
    → (x y : ℕ) → x < 4 * n → y < 4 * n → x % 4 ≡ y % 4 → P x y
quarters₂ n P a b c d x y i j e = quarters n (λ x. x % 4 ≡ y % 4 → P x y)
    (λ h k e. let s : 4 * (y / 4) ≡ y = omega arith in subst (P (4 * h)) s (a h (y / 4) k (omega arith)))
    (λ h k e. let s : 4 * (y / 4) + 1 ≡ y = omega arith in subst (P (4 * h + 1)) s (b h (y / 4) k (omega arith)))
    (λ h k e. let s : 4 * (y / 4) + 2 ≡ y = omega arith in subst (P (4 * h + 2)) s (c h (y / 4) k (omega arith)))
    (λ h k e. let s : 4 * (y / 4) + 3 ≡ y = omega arith in subst (P (4 * h + 3)) s (d h (y / 4) k (omega arith))) x i e

-- the numbers below four
pub below_four : (P : ℕ → Type 0) → P 0 → P 1 → P 2 → P 3 → (k : ℕ) → k < 4 → P k
below_four P a b c d zero h = a
below_four P a b c d (suc zero) h = b
below_four P a b c d (suc (suc zero)) h = c
below_four P a b c d (suc (suc (suc zero))) h = d
below_four P a b c d (suc (suc (suc (suc k)))) h = let z : ⊥ = omega arith in absurd z

-- a count by fours
pub count_quarters : (p : ℕ → Bool) (n : ℕ)
    → count p (4 * n) ≡ count (λ (h : ℕ). p (4 * h)) n + count (λ (h : ℕ). p (4 * h + 1)) n + count (λ (h : ℕ). p (4 * h + 2)) n + count (λ (h : ℕ). p (4 * h + 3)) n
unfolding count
count_quarters p zero = refl
count_quarters p (suc n) =
    let e : 4 * suc n ≡ suc (suc (suc (suc (4 * n)))) = omega arith in
    let a = count_quarters p n in
    let one : ℕ → ℕ = λ k. cond (p k) 1 0 in
    let at : (i j : ℕ) → i ≡ j → one i ≡ one j = λ i j x. ap one x in
    let b = at (suc (4 * n)) (4 * n + 1) (omega arith) in
    let c = at (suc (suc (4 * n))) (4 * n + 2) (omega arith) in
    let d = at (suc (suc (suc (4 * n)))) (4 * n + 3) (omega arith) in
    ap (count p) e ∙ omega arith

-- ---- numbers by twos
pub parity : (k : ℕ) (P : ℕ → Type 0) → ((j : ℕ) → P (2 * j)) → ((j : ℕ) → P (suc (2 * j))) → P k
parity k P a b = go (k % 2) refl
  where
    go : (r : ℕ) → k % 2 ≡ r → P k
    go zero e = let s : 2 * (k / 2) ≡ k = omega arith in subst P s (a (k / 2))
    go (suc zero) e = let s : suc (2 * (k / 2)) ≡ k = omega arith in subst P s (b (k / 2))
    go (suc (suc r)) e = let z : ⊥ = omega arith in absurd z
