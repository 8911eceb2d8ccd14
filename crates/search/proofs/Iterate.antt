-- A step taken again and again; one that loses nothing comes back. Assumes nothing.
use mathlib.Core.Path.{◌≡◌, refl, sym, ap, ◌∙◌}
use mathlib.Core.Bool.{Bool, true}
use Prim.Native.Nat.{ℕ, zero, suc, ◌+◌, ◌-◌, ◌≤◌, ◌<◌}
use native.Mathlib.Decide.{dec_lt}
use native.Mathlib.Omega.{arith}
use lib.Dec.{eqb}
use borrow.Author.Tests.{eq-eqb, eqb-true}
use Rattle.search.specs.Search.{first, iterate}
use Rattle.search.proofs.Tests.{clash}
use Rattle.search.proofs.First.{first_before, first_holds, first_reach}
use Rattle.search.proofs.Count.{count-le}
use Rattle.search.proofs.Pigeonhole.{listed_le}

pub iterate-add : (f : ℕ → ℕ) (a b h : ℕ) → iterate f (a + b) h ≡ iterate f a (iterate f b h)
unfolding iterate
iterate-add f zero b h = let e : 0 + b ≡ b = omega arith in rw e
iterate-add f (suc a) b h = let e : suc a + b ≡ suc (a + b) = omega arith in rw e (ap f (iterate-add f a b h))

module _ (f : ℕ → ℕ) (D : ℕ → Type 0) (inj : (x y : ℕ) → D x → D y → D (f x) → f x ≡ f y → x ≡ y) where
  pub iterate_cancel : (i k h : ℕ) → ((j : ℕ) → j ≤ i + k → D (iterate f j h)) → iterate f (i + k) h ≡ iterate f i h → iterate f k h ≡ h
  unfolding iterate
  iterate_cancel zero k h s e = let a : 0 + k ≡ k = omega arith in rw a at e
  iterate_cancel (suc i) k h s e =
      let a : suc i + k ≡ suc (i + k) = omega arith in
      let b : f (iterate f (i + k) h) ≡ f (iterate f i h) = rw a at e in
      iterate_cancel i k h (λ j c. s j (omega arith)) (inj (iterate f (i + k) h) (iterate f i h) (s (i + k) (omega arith)) (s i (omega arith)) (s (suc (i + k)) (omega arith)) b)

  -- it comes back within n steps, where D lies below n
  iterate_return : (n h : ℕ) → ((x : ℕ) → D x → x < n) → ((j : ℕ) → D (iterate f j h)) → first (λ (k : ℕ). eqb (iterate f (suc k) h) h) n < n
  iterate_return n h b s = go (dec_lt (first q n) n)
    where
      q : ℕ → Bool
      q k = eqb (iterate f (suc k) h) h

      away : n ≤ first q n → (k : ℕ) → 0 < k → k < suc n → iterate f k h ≡ h → ⊥
      away a zero c d e = omega arith
      away a (suc k) c d e = clash (q k) (eq-eqb (iterate f (suc k) h) h e) (first_before q n k (omega arith))

      go : Dec (first q n < n) → first (λ (k : ℕ). eqb (iterate f (suc k) h) h) n < n
      go (yes a) = a
      go (no a) =
          let c = listed_le (λ (k : ℕ). true) n (λ (k : ℕ). iterate f k h) (suc n) (record {
            inside = λ k d. b (iterate f k h) (s k);
            passes = λ k d. refl;
            differ = λ i j d e g. let x : i + (j - i) ≡ j = omega arith in away (omega arith) (j - i) (omega arith) (omega arith) (iterate_cancel i (j - i) h (λ k y. s k) (rw x (sym g)));
          }) in
          let d = count-le (λ (k : ℕ). true) n in
          let z : ⊥ = omega arith in absurd z

  -- so it comes to a place where a test holds, if it began at one
  pub iterate_meets : (n h : ℕ) → ((x : ℕ) → D x → x < n) → ((j : ℕ) → D (iterate f j h)) → (stop : ℕ → Bool) → stop h ≡ true → first (λ (k : ℕ). stop (iterate f (suc k) h)) n < n
  iterate_meets n h b s stop t =
      let q : ℕ → Bool = λ k. eqb (iterate f (suc k) h) h in
      let r = iterate_return n h b s in
      let e = eqb-true (iterate f (suc (first q n)) h) h (first_holds q n r) in
      let a = first_reach (λ (k : ℕ). stop (iterate f (suc k) h)) n (first q n) r (ap stop e ∙ t) in
      omega arith
