-- The laws of `count`. Assumes nothing.
use mathlib.Core.Path.{◌≡◌, refl, ◌∙◌}
use mathlib.Core.Bool.{Bool, true, false}
use mathlib.Core.Logic.{◌⊎◌, inl, inr}
use Prim.Native.Nat.{ℕ, zero, suc, ◌+◌, ◌≤◌, ◌<◌}
use native.Mathlib.Nat.{le_refl, not-suc-le-zero}
use native.Mathlib.Decide.{ℕ_discrete, dec_lt}
use native.Mathlib.Omega.{arith}
use Rattle.search.specs.Search.{count}
use Rattle.search.proofs.Tests.{cond_elim, decided}

module _ (p : ℕ → Bool) where
  pub count_more : (n : ℕ) → p n ≡ true → count p (suc n) ≡ count p n + 1
  unfolding count
  count_more n t = rw t

  pub count_same : (n : ℕ) → p n ≡ false → count p (suc n) ≡ count p n
  unfolding count
  count_same n f = rw f (omega arith)

  count-step : (n : ℕ) → count p n ≤ count p (suc n)
  unfolding count
  count-step n = omega arith

  -- none from i up to n passes
  pub count_skip : (i n : ℕ) → i ≤ n → ((j : ℕ) → i ≤ j → j < n → p j ≡ false) → count p n ≡ count p i
  count_skip i zero h f = let e : i ≡ zero = omega arith in rw e
  count_skip i (suc n) h f = go (ℕ_discrete i (suc n)) (λ (k : i ≤ n). count_same n (f n k (omega arith)) ∙ count_skip i n k (λ j a b. f j a (omega arith)))
    where
      go : Dec (i ≡ suc n) → (i ≤ n → count p (suc n) ≡ count p i) → count p (suc n) ≡ count p i
      go (yes e) g = rw e
      go (no e) g = g (omega arith)

  pub count_mono : (m n : ℕ) → m ≤ n → count p m ≤ count p n
  count_mono m zero h = let e : m ≡ zero = omega arith in rw e (le_refl _)
  count_mono m (suc n) h = go (ℕ_discrete m (suc n)) (λ (k : m ≤ n). count_mono m n k)
    where
      go : Dec (m ≡ suc n) → (m ≤ n → count p m ≤ count p n) → count p m ≤ count p (suc n)
      go (yes e) f = rw e (le_refl _)
      go (no e) f = let a = f (omega arith) in let b = count-step n in omega arith

  pub count_under : (m n : ℕ) → m < n → p m ≡ true → count p m < count p n
  count_under m n h t = let a = count_more m t in let b = count_mono (suc m) n h in omega arith

  -- two that pass and have the same count below them are one
  pub count_inj : (m n : ℕ) → p m ≡ true → p n ≡ true → count p m ≡ count p n → m ≡ n
  count_inj m n t u e = go (dec_lt m n) (dec_lt n m)
    where
      go : Dec (m < n) → Dec (n < m) → m ≡ n
      go (yes a) d = let b = count_under m n a t in let z : ⊥ = omega arith in absurd z
      go (no a) (yes d) = let b = count_under n m d u in let z : ⊥ = omega arith in absurd z
      go (no a) (no d) = omega arith

  -- every number below the count is the count below one that passes
  pub count_onto : (n e : ℕ) → e < count p n → (m : ℕ) × (m < n) × (p m ≡ true) × (count p m ≡ e)
  unfolding count
  count_onto zero e h = absurd (not-suc-le-zero h)
  count_onto (suc n) e h = go (decided (p n)) (dec_lt e (count p n)) (count_onto n e)
    where
      go : (p n ≡ true) ⊎ (p n ≡ false) → Dec (e < count p n) → (e < count p n → (m : ℕ) × (m < n) × (p m ≡ true) × (count p m ≡ e)) → (m : ℕ) × (m < suc n) × (p m ≡ true) × (count p m ≡ e)
      go d (yes a) f = let r = f a in (r.0, omega arith, r.2, r.3)
      go (inl t) (no a) f = let b = count_more n t in (n, omega arith, t, omega arith)
      go (inr t) (no a) f = let b = count_same n t in let z : ⊥ = omega arith in absurd z

pub count_cong : (p q : ℕ → Bool) (n : ℕ) → ((k : ℕ) → k < n → p k ≡ q k) → count p n ≡ count q n
unfolding count
count_cong p q zero f = refl
count_cong p q (suc n) f =
    let a = count_cong p q n (λ k h. f k (omega arith)) in
    let b = f n (omega arith) in
    rw (a, b)

pub count-le : (p : ℕ → Bool) (n : ℕ) → count p n ≤ n
unfolding count
count-le p zero = omega arith
count-le p (suc n) = cond_elim (λ r. count p n + r ≤ suc n) (p n) 1 0 (λ e. omega (arith, count-le p n)) (λ e. omega (arith, count-le p n))

pub count_none : (p : ℕ → Bool) (n : ℕ) → ((k : ℕ) → k < n → p k ≡ false) → count p n ≡ 0
unfolding count
count_none p zero f = refl
count_none p (suc n) f = count_same p n (f n (omega arith)) ∙ count_none p n (λ k h. f k (omega arith))

pub count_all : (p : ℕ → Bool) (n : ℕ) → ((k : ℕ) → k < n → p k ≡ true) → count p n ≡ n
unfolding count
count_all p zero f = refl
count_all p (suc n) f = let a = count_more p n (f n (omega arith)) in let b = count_all p n (λ k h. f k (omega arith)) in omega arith
