-- Two tests between which there is a one-to-one map hold equally often. A test that agrees along an involution without fixed points holds an even number of times.
-- Assumes nothing.
use mathlib.Core.Path.{◌≡◌, refl, sym, ap, ◌∙◌}
use mathlib.Core.Bool.{Bool, true, false, cond, ◌&&◌, not}
use Prim.Native.Nat.{ℕ, zero, suc, ◌+◌, ◌*◌, ◌≤◌, ◌<◌}
use native.Mathlib.Decide.{dec_lt}
use native.Mathlib.Omega.{arith}
use lib.Dec.{eqb, ltb}
use borrow.Author.Tests.{eq-eqb, eqb-true, lt-ltb, le-ltb, ltb-true}
use Rattle.search.specs.Search.{first, count}
use Rattle.search.proofs.Tests.{clash, and_on, and_left, and_right}
use Rattle.search.proofs.First.{first_holds, first_reach}
use Rattle.search.proofs.Count.{count_onto}
use Rattle.search.proofs.Pigeonhole.{listed_le}

-- f takes each number below n at which p holds to one at which q holds, and g takes it back
pub record Matches (n : ℕ) (p q : ℕ → Bool) (f g : ℕ → ℕ) : Type 0 where
  pub inside : (h : ℕ) → h < n → p h ≡ true → f h < n
  pub passes : (h : ℕ) → h < n → p h ≡ true → q (f h) ≡ true
  pub back : (h : ℕ) → h < n → p h ≡ true → g (f h) ≡ h

module _ (n : ℕ) (p : ℕ → Bool) where
  -- the number at which p holds for the e-th time
  nth : ℕ → ℕ
  nth e = first (λ (h : ℕ). p h && eqb (count p h) e) n

  record Nth (e : ℕ) : Type 0 where
    lt : nth e < n
    holds : p (nth e) ≡ true
    place : count p (nth e) ≡ e

  nth_is : (e : ℕ) → e < count p n → Nth e
  unfolding nth
  nth_is e b =
      let t : ℕ → Bool = λ h. p h && eqb (count p h) e in
      let o = count_onto p n e b in
      let r = first_reach t n o.0 o.1 (and_on (p o.0) (eqb (count p o.0) e) o.2 (eq-eqb (count p o.0) e o.3)) in
      let l : first t n < n = let x = o.1 in omega arith in
      let w = first_holds t n l in
      let q : Bool = eqb (count p (first t n)) e in
      record { lt = l; holds = and_left (p (first t n)) q w; place = eqb-true (count p (first t n)) e (and_right (p (first t n)) q w) }

matches_le : (n : ℕ) (p q : ℕ → Bool) (f g : ℕ → ℕ) → Matches n p q f g → count p n ≤ count q n
matches_le n p q f g r = listed_le q n (λ (e : ℕ). f (nth n p e)) (count p n) (record {
  inside = λ e b. let x = nth_is n p e b in r.inside (nth n p e) x.lt x.holds;
  passes = λ e b. let x = nth_is n p e b in r.passes (nth n p e) x.lt x.holds;
  differ = λ i j b c e.
      let x = nth_is n p i (omega arith) in
      let y = nth_is n p j c in
      let s : nth n p i ≡ nth n p j = sym (r.back (nth n p i) x.lt x.holds) ∙ ap g e ∙ r.back (nth n p j) y.lt y.holds in
      let k : i ≡ j = sym x.place ∙ ap (count p) s ∙ y.place in
      omega arith;
})

pub count_matches : (n : ℕ) (p q : ℕ → Bool) (f g : ℕ → ℕ) → Matches n p q f g → Matches n q p g f → count p n ≡ count q n
count_matches n p q f g there again = let a = matches_le n p q f g there in let b = matches_le n q p g f again in omega arith

-- a test by a second one
pub count-split : (p q : ℕ → Bool) (n : ℕ) → count p n ≡ count (λ (h : ℕ). p h && q h) n + count (λ (h : ℕ). p h && not (q h)) n
unfolding count
count-split p q zero = refl
count-split p q (suc n) = let e = count-split p q n in let c = one (p n) (q n) in omega arith
  where
    one : (a b : Bool) → cond a 1 0 ≡ cond (a && b) 1 0 + cond (a && not b) 1 0
    one true true = refl
    one true false = refl
    one false b = refl

-- an involution without fixed points on the numbers below n at which p holds
pub record Involution (n : ℕ) (p : ℕ → Bool) (σ : ℕ → ℕ) : Type 0 where
  pub inside : (h : ℕ) → h < n → p h ≡ true → σ h < n
  pub passes : (h : ℕ) → h < n → p h ≡ true → p (σ h) ≡ true
  pub back : (h : ℕ) → h < n → p h ≡ true → σ (σ h) ≡ h
  pub moved : (h : ℕ) → h < n → p h ≡ true → σ h ≡ h → ⊥

module _ (n : ℕ) (p : ℕ → Bool) (σ : ℕ → ℕ) (r : Involution n p σ) where
  abbrev lower : ℕ → Bool
  lower h = p h && ltb h (σ h)

  abbrev upper : ℕ → Bool
  upper h = p h && not (ltb h (σ h))

  below : (h k : ℕ) → not (ltb h k) ≡ true → (k ≡ h → ⊥) → k < h
  below h k t e = go (dec_lt h k)
    where
      go : Dec (h < k) → k < h
      go (yes a) = clash (not (ltb h k)) t (ap not (lt-ltb h k a))
      go (no a) = omega arith

  up : Matches n lower upper σ σ
  up = record {
    inside = λ h b t. r.inside h b (and_left (p h) (ltb h (σ h)) t);
    passes = λ h b t.
        let u = and_left (p h) (ltb h (σ h)) t in
        let x = ltb-true h (σ h) (and_right (p h) (ltb h (σ h)) t) in
        let e = r.back h b u in
        and_on (p (σ h)) (not (ltb (σ h) (σ (σ h)))) (r.passes h b u) (ap not (le-ltb (σ h) (σ (σ h)) (omega arith)));
    back = λ h b t. r.back h b (and_left (p h) (ltb h (σ h)) t);
  }

  down : Matches n upper lower σ σ
  down = record {
    inside = λ h b t. r.inside h b (and_left (p h) (not (ltb h (σ h))) t);
    passes = λ h b t.
        let u = and_left (p h) (not (ltb h (σ h))) t in
        let x : σ h < h = below h (σ h) (and_right (p h) (not (ltb h (σ h))) t) (r.moved h b u) in
        let e = r.back h b u in
        and_on (p (σ h)) (ltb (σ h) (σ (σ h))) (r.passes h b u) (lt-ltb (σ h) (σ (σ h)) (omega arith));
    back = λ h b t. r.back h b (and_left (p h) (not (ltb h (σ h))) t);
  }

  -- as many lie below their partner as above it
  pub paired_even : count p n ≡ 2 * count (λ (h : ℕ). p h && ltb h (σ h)) n
  paired_even = let a = count-split p (λ (h : ℕ). ltb h (σ h)) n in let b = count_matches n lower upper σ σ up down in omega arith
