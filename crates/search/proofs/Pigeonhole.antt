-- Numbers below n that are listed without repetition: at most as many as pass a test, and all of them where they are as many. Assumes nothing.
use mathlib.Core.Path.{◌≡◌, refl, sym, ap, ◌∙◌, subst}
use mathlib.Core.Bool.{Bool, true, false, cond}
use mathlib.Core.Logic.{◌⊎◌, inl, inr}
use Prim.Native.Nat.{ℕ, zero, suc, ◌+◌, ◌≤◌, ◌<◌}
use native.Mathlib.Nat.{not-suc-le-zero}
use native.Mathlib.Decide.{ℕ_discrete, dec_lt}
use native.Mathlib.Omega.{arith}
use lib.Dec.{eqb}
use borrow.Author.Tests.{eq-eqb, eqb-true, ne_eqb}
use Rattle.search.specs.Search.{first, count}
use Rattle.search.proofs.Tests.{clash, decided, refuted}
use Rattle.search.proofs.First.{first_holds, first_before}
use Rattle.search.proofs.Count.{count_none, count_more, count_same, count_cong}

-- the test p at all numbers but x
unfoldable without : (ℕ → Bool) → ℕ → ℕ → Bool
without p x y = cond (eqb y x) false (p y)

without_other : (p : ℕ → Bool) (x y : ℕ) → (y ≡ x → ⊥) → without p x y ≡ p y
unfolding without
without_other p x y h = let e = ne_eqb y x h in rw e

without_self : (p : ℕ → Bool) (x : ℕ) → without p x x ≡ false
unfolding without
without_self p x = let e = eq-eqb x x refl in rw e

without_not : (p : ℕ → Bool) (x y : ℕ) → without p x y ≡ true → y ≡ x → ⊥
without_not p x y t e = clash (without p x x) (subst (λ (z : ℕ). without p x z ≡ true) e t) (without_self p x)

count_without : (p : ℕ → Bool) (x n : ℕ) → x < n → p x ≡ true → count p n ≡ count (without p x) n + 1
count_without p x zero h t = absurd (not-suc-le-zero h)
count_without p x (suc n) h t = go (ℕ_discrete x n) (λ (k : x < n). count_without p x n k t)
  where
    go : Dec (x ≡ n) → (x < n → count p n ≡ count (without p x) n + 1) → count p (suc n) ≡ count (without p x) (suc n) + 1
    go (yes e) f =
        let a = count_cong p (without p x) n (λ k b. sym (without_other p x k (omega arith))) in
        let b = count_more p n (subst (λ (y : ℕ). p y ≡ true) e t) in
        let c = count_same (without p x) n (subst (λ (y : ℕ). without p x y ≡ false) e (without_self p x)) in
        omega arith
    go (no e) f = let a = f (omega arith) in let w = without_other p x n (λ i. e (sym i)) in step w a (decided (p n))
      where
        step : without p x n ≡ p n → count p n ≡ count (without p x) n + 1 → (p n ≡ true) ⊎ (p n ≡ false) → count p (suc n) ≡ count (without p x) (suc n) + 1
        step w a (inl i) = let b = count_more p n i in let c = count_more (without p x) n (w ∙ i) in omega arith
        step w a (inr i) = let b = count_same p n i in let c = count_same (without p x) n (w ∙ i) in omega arith

-- m different numbers below n that pass
pub record Listed (p : ℕ → Bool) (n : ℕ) (s : ℕ → ℕ) (m : ℕ) : Type 0 where
  pub inside : (k : ℕ) → k < m → s k < n
  pub passes : (k : ℕ) → k < m → p (s k) ≡ true
  pub differ : (i j : ℕ) → i < j → j < m → s i ≡ s j → ⊥

pub listed_le : (p : ℕ → Bool) (n : ℕ) (s : ℕ → ℕ) (m : ℕ) → Listed p n s m → m ≤ count p n
listed_le p n s zero r = omega arith
listed_le p n s (suc m) r =
    let a = count_without p (s m) n (r.inside m (omega arith)) (r.passes m (omega arith)) in
    let b = listed_le (without p (s m)) n s m (record {
      inside = λ k h. r.inside k (omega arith);
      passes = λ k h. without_other p (s m) (s k) (r.differ k m h (omega arith)) ∙ r.passes k (omega arith);
      differ = λ i j h k. r.differ i j h (omega arith);
    }) in
    omega arith

-- where they are as many as pass, they are all that pass
pub listed_all : (p : ℕ → Bool) (n : ℕ) (s : ℕ → ℕ) (m : ℕ) → Listed p n s m → count p n ≡ m → (g : ℕ) → g < n → p g ≡ true → (k : ℕ) × (k < m) × (s k ≡ g)
listed_all p n s m r e g h t = go (dec_lt (first (λ (k : ℕ). eqb (s k) g) m) m)
  where
    q : ℕ → Bool
    q k = eqb (s k) g

    miss : m ≤ first q m → (k : ℕ) → k < m → s k ≡ g → ⊥
    miss a k b i = clash (q k) (eq-eqb (s k) g i) (first_before q m k (omega arith))

    go : Dec (first (λ (k : ℕ). eqb (s k) g) m < m) → (k : ℕ) × (k < m) × (s k ≡ g)
    go (yes a) = (first q m, a, eqb-true (s (first q m)) g (first_holds q m a))
    go (no a) =
        let b = count_without p g n h t in
        let c = listed_le (without p g) n s m (record {
          inside = r.inside;
          passes = λ k i. without_other p g (s k) (miss (omega arith) k i) ∙ r.passes k i;
          differ = r.differ;
        }) in
        let z : ⊥ = omega arith in absurd z

-- where they are all that pass, they are as many
pub listed_count : (p : ℕ → Bool) (n : ℕ) (s : ℕ → ℕ) (m : ℕ) → Listed p n s m → ((g : ℕ) → g < n → p g ≡ true → (k : ℕ) × (k < m) × (s k ≡ g)) → count p n ≡ m
listed_count p n s zero r f = count_none p n (λ k h. refuted (p k) (λ t. let x = f k h t in let y = x.1 in omega arith))
listed_count p n s (suc m) r f =
    let a = count_without p (s m) n (r.inside m (omega arith)) (r.passes m (omega arith)) in
    let b = listed_count (without p (s m)) n s m (record {
      inside = λ k h. r.inside k (omega arith);
      passes = λ k h. without_other p (s m) (s k) (r.differ k m h (omega arith)) ∙ r.passes k (omega arith);
      differ = λ i j h k. r.differ i j h (omega arith);
    }) (λ g h t. let e = without_not p (s m) g t in let x = f g h (sym (without_other p (s m) g e) ∙ t) in (x.0, last x.0 x.1 (λ i. e (sym x.2 ∙ ap s i)), x.2)) in
    omega arith
  where
    last : (k : ℕ) → k < suc m → (k ≡ m → ⊥) → k < m
    last k h e = omega arith
