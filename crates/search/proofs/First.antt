-- The laws of `first_from`, `first` and `any`. Assumes nothing.
use mathlib.Core.Path.{◌≡◌, sym, ap, ◌∙◌}
use mathlib.Core.Bool.{Bool, true, false}
use Prim.Native.Nat.{ℕ, zero, suc, ◌+◌, ◌-◌, ◌≤◌, ◌<◌}
use native.Mathlib.Nat.{le_refl}
use native.Mathlib.Decide.{ℕ_discrete, dec_lt}
use native.Mathlib.Numerals.{add-one}
use native.Mathlib.Omega.{arith}
use borrow.Author.Tests.{ltb-true, ltb-false, lt-ltb}
use Rattle.search.specs.Search.{first_from, first, any}
use Rattle.search.proofs.Tests.{clash, cond_elim}

module _ (p : ℕ → Bool) where
  pub from_le : (k i : ℕ) → first_from p k i ≤ i + k
  unfolding first_from
  from_le zero i = omega arith
  from_le (suc k) i = cond_elim (λ r. r ≤ i + suc k) (p i) i (first_from p k (suc i)) (λ e. omega arith) (λ e. omega (arith, from_le k (suc i)))

  pub from_ge : (k i : ℕ) → i ≤ first_from p k i
  unfolding first_from
  from_ge zero i = le_refl i
  from_ge (suc k) i = cond_elim (λ r. i ≤ r) (p i) i (first_from p k (suc i)) (λ e. le_refl i) (λ e. omega (arith, from_ge k (suc i)))

  pub from_holds : (k i : ℕ) → first_from p k i < i + k → p (first_from p k i) ≡ true
  unfolding first_from
  from_holds zero i = λ h. let z : ⊥ = omega arith in absurd z
  from_holds (suc k) i = cond_elim (λ r. r < i + suc k → p r ≡ true) (p i) i (first_from p k (suc i)) (λ e h. e) (λ e h. from_holds k (suc i) (omega arith))

  pub from_before : (k i j : ℕ) → i ≤ j → j < first_from p k i → p j ≡ false
  unfolding first_from
  from_before zero i j = λ a b. let z : ⊥ = omega arith in absurd z
  from_before (suc k) i j = cond_elim (λ r. i ≤ j → j < r → p j ≡ false) (p i) i (first_from p k (suc i))
      (λ e a b. let z : ⊥ = omega arith in absurd z)
      (λ e a b. here e a (ℕ_discrete j i) (λ (c : suc i ≤ j). from_before k (suc i) j c b))
    where
      here : p i ≡ false → i ≤ j → Dec (j ≡ i) → (suc i ≤ j → p j ≡ false) → p j ≡ false
      here e a (yes s) f = rw s e
      here e a (no n) f = f (omega arith)

  -- ---- one step of the search from i up to n
  hit_suc : (k i : ℕ) → p i ≡ true → first_from p (suc k) i ≡ i
  unfolding first_from
  hit_suc k i t = rw t

  pass_suc : (k i : ℕ) → p i ≡ false → first_from p (suc k) i ≡ first_from p k (suc i)
  unfolding first_from
  pass_suc k i f = rw f

  pub from_hit : (n i : ℕ) → i < n → p i ≡ true → first_from p (n - i) i ≡ i
  from_hit n i h t = let d : n - i ≡ suc (n - (i + 1)) = omega arith in rw d (hit_suc (n - (i + 1)) i t)

  pub from_pass : (n i : ℕ) → i < n → p i ≡ false → first_from p (n - i) i ≡ first_from p (n - (i + 1)) (i + 1)
  from_pass n i h f =
      let d : n - i ≡ suc (n - (i + 1)) = omega arith in
      rw d (pass_suc (n - (i + 1)) i f ∙ ap (first_from p (n - (i + 1))) (sym (add-one i)))

  pub from_end : (n i : ℕ) → n ≤ i → first_from p (n - i) i ≡ i
  unfolding first_from
  from_end n i h = let d : n - i ≡ 0 = omega arith in rw d

  -- ---- the search from 0
  pub first-le : (n : ℕ) → first p n ≤ n
  unfolding first
  first-le n = omega (arith, from_le n 0)

  pub first_holds : (n : ℕ) → first p n < n → p (first p n) ≡ true
  unfolding first
  first_holds n h = from_holds n 0 (omega arith)

  pub first_before : (n j : ℕ) → j < first p n → p j ≡ false
  unfolding first
  first_before n j h = from_before n 0 j (omega arith) h

  pub first_reach : (n k : ℕ) → k < n → p k ≡ true → first p n ≤ k
  first_reach n k h t = go (dec_lt k (first p n))
    where
      go : Dec (k < first p n) → first p n ≤ k
      go (yes a) = clash (p k) t (first_before n k a)
      go (no a) = omega arith

  -- the first is k, if the test holds at k and at nothing before it
  pub first_is : (n k : ℕ) → k < n → p k ≡ true → ((j : ℕ) → j < k → p j ≡ false) → first p n ≡ k
  first_is n k h t f = go (dec_lt (first p n) k)
    where
      go : Dec (first p n < k) → first p n ≡ k
      go (yes a) = clash (p (first p n)) (first_holds n (omega arith)) (f (first p n) a)
      go (no a) = let b = first_reach n k h t in omega arith

  -- the first is k, if the test holds at k alone
  pub first_only : (n k : ℕ) → k < n → p k ≡ true → ((j : ℕ) → j < n → p j ≡ true → j ≡ k) → first p n ≡ k
  first_only n k h t f = let a = first_reach n k h t in f (first p n) (omega arith) (first_holds n (omega arith))

  pub first_none : (n : ℕ) → ((j : ℕ) → j < n → p j ≡ true → ⊥) → first p n ≡ n
  first_none n f = go (dec_lt (first p n) n)
    where
      go : Dec (first p n < n) → first p n ≡ n
      go (yes a) = absurd (f (first p n) a (first_holds n a))
      go (no a) = let b = first-le n in omega arith

  -- ---- a loop's search, which has passed all numbers below i
  pub record Passed (i : ℕ) : Type 0 where
    pub none : (j : ℕ) → j < i → p j ≡ false

  pub passed_start : Passed 0
  passed_start = record { none = λ j h. let z : ⊥ = omega arith in absurd z }

  -- all from i up to k fail too
  pub passed_skip : (i k : ℕ) → Passed i → ((j : ℕ) → i ≤ j → j < k → p j ≡ false) → Passed k
  passed_skip i k w f = record { none = λ j h. go j h (dec_lt j i) }
    where
      go : (j : ℕ) → j < k → Dec (j < i) → p j ≡ false
      go j h (yes a) = w.none j a
      go j h (no a) = f j (omega arith) h

  pub passed_next : (i : ℕ) → Passed i → p i ≡ false → Passed (i + 1)
  passed_next i w f = passed_skip i (i + 1) w (λ j a b. let e : j ≡ i = omega arith in rw e f)

  pub passed_hit : (n i : ℕ) → Passed i → i < n → p i ≡ true → i ≡ first p n
  passed_hit n i w h t = sym (first_is n i h t w.none)

  pub passed-le : (n i : ℕ) → Passed i → i ≤ n → i ≤ first p n
  passed-le n i w h = go (dec_lt (first p n) i)
    where
      go : Dec (first p n < i) → i ≤ first p n
      go (yes a) = clash (p (first p n)) (first_holds n (omega arith)) (w.none (first p n) a)
      go (no a) = omega arith

  pub passed_all : (n i : ℕ) → Passed i → n ≤ i → first p n ≡ n
  passed_all n i w h = first_none n (λ j a t. clash (p j) t (w.none j (omega arith)))

  pub passed_end : (n i : ℕ) → Passed i → i ≤ n → n ≤ i → i ≡ first p n
  passed_end n i w a b = let e = passed_all n i w b in omega arith

  -- ---- some number below n
  pub any_off : (n k : ℕ) → any p n ≡ false → k < n → p k ≡ false
  unfolding any
  any_off n k e h = let a = ltb-false (first p n) n e in first_before n k (omega arith)

  pub any_on : (n k : ℕ) → k < n → p k ≡ true → any p n ≡ true
  unfolding any
  any_on n k h t = let a = first_reach n k h t in lt-ltb (first p n) n (omega arith)

  pub any_which : (n : ℕ) → any p n ≡ true → (k : ℕ) × (k < n) × (p k ≡ true)
  unfolding any
  any_which n t = let a = ltb-true (first p n) n t in (first p n, a, first_holds n a)
