-- Paper 02: "Old callers get t = 4 and their old points." At tension 4 the weights are four times those of paper 01: rounded points are the same, and the exact curve
-- is 4^k times that of paper 01. Assumes nothing.
use mathlib.Core.Path.{◌≡◌, refl, ap, ap₂, ◌∙◌}
use mathlib.Core.List.{List, [], ◌∷◌}
use Prim.Native.Nat.{ℕ, zero, suc, ◌*◌, ◌^◌}
use native.Mathlib.Nat.{pow-zero, pow-succ'}
use native.Mathlib.Omega.{arith}
use lib.IntN.{ℤ, pos, ◌*ℤ◌}
use Rattle.integers.proofs.Polynomial.{var, lit, ◌⊞◌, ◌⊟◌, ◌⊠◌, same}
use Rattle.rounding.specs.Rounding.{round}
use Rattle.rounding.proofs.Laws.{round-scale}
use Rattle.curve.specs.Weights.{kobbelt, tension}
use Rattle.curve.specs.Curve.{Kind, Point, rounded, exact, curve, exact_curve}
use Rattle.curve.specs.Near.{Each, All₂, nil, cons}
use Rattle.curve.proofs.Related.{Carries, step_carries, carries_each}

-- ---- the three rules: numbers that are n times others give 4n times what those give
pub record Times (n : ℕ) (p q : ℤ) : Type 0 where
  pub is : p ≡ pos n *ℤ q

pub exact_carries : (n : ℕ) → Carries (Times n) (Times (4 * n)) (exact (tension 4)) (exact kobbelt)
exact_carries n = record {
  keep = λ p p' a. record { is = ap (λ (x : ℤ). pos 64 *ℤ x) a.is ∙ same (lit (pos 64) ⊠ (var 0 ⊠ var 1)) (lit (pos 4) ⊠ var 0 ⊠ (lit (pos 16) ⊠ var 1)) (pos n ∷ p' ∷ []) refl };
  inside = λ p q r s p' q' r' s' a b c d. record {
    is = rw (a.is, b.is, c.is, d.is)
        (same (lit (pos 36) ⊠ (var 4 ⊠ var 1 ⊞ var 4 ⊠ var 2) ⊟ lit (pos 4) ⊠ (var 4 ⊠ var 0 ⊞ var 4 ⊠ var 3)) (lit (pos 4) ⊠ var 4 ⊠ (lit (pos 9) ⊠ (var 1 ⊞ var 2) ⊟ lit (pos 1) ⊠ (var 0 ⊞ var 3))) (p' ∷ q' ∷ r' ∷ s' ∷ pos n ∷ []) refl);
  };
  end = λ p q r p' q' r' a b c. record {
    is = rw (a.is, b.is, c.is)
        (same (lit (pos 28) ⊠ (var 3 ⊠ var 0) ⊞ lit (pos 40) ⊠ (var 3 ⊠ var 1) ⊟ lit (pos 4) ⊠ (var 3 ⊠ var 2)) (lit (pos 4) ⊠ var 3 ⊠ (lit (pos 7) ⊠ var 0 ⊞ lit (pos 10) ⊠ var 1 ⊟ lit (pos 1) ⊠ var 2)) (p' ∷ q' ∷ r' ∷ pos n ∷ []) refl);
  };
  single = λ p q p' q' a b. record {
    is = rw (a.is, b.is) (same (lit (pos 32) ⊠ (var 2 ⊠ var 0 ⊞ var 2 ⊠ var 1)) (lit (pos 4) ⊠ var 2 ⊠ (lit (pos 8) ⊠ (var 0 ⊞ var 1))) (p' ∷ q' ∷ pos n ∷ []) refl);
  };
}

-- a number is once itself, and n times itself for n = 1
times_one : (n : ℕ) → n ≡ 1 → (x : ℤ) → Times n x x
times_one n e x = record { is = rw e (same (var 0) (lit (pos 1) ⊠ var 0) (x ∷ []) refl) }

pub once : (x : ℤ) → Times 1 x x
once = times_one 1 refl

-- ---- the rounded curve
rounded_four : (z w : ℤ) → Times 4 z w → round z 64 ≡ round w 16
rounded_four z w e = ap (λ (x : ℤ). round x 64) e.is ∙ round-scale 4 w 16 (omega arith) (omega arith)

rounded_carries : Carries ◌≡◌ ◌≡◌ (rounded (tension 4)) (rounded kobbelt)
rounded_carries = record {
  keep = λ p p' a. a;
  inside = λ p q r s p' q' r' s' a b c d. rw (a, b, c, d) (rounded_four _ _ ((exact_carries 1).inside _ _ _ _ _ _ _ _ (once p') (once q') (once r') (once s')));
  end = λ p q r p' q' r' a b c. rw (a, b, c) (rounded_four _ _ ((exact_carries 1).end _ _ _ _ _ _ (once p') (once q') (once r')));
  single = λ p q p' q' a b. rw (a, b) (rounded_four _ _ ((exact_carries 1).single _ _ _ _ (once p') (once q')));
}

same_point : (p q : Point) → Each ◌≡◌ p q → p ≡ q
same_point p q e = λ i. record { x = e.x i; y = e.y i; z = e.z i }

all_same : {l m : List Point} → All₂ (Each ◌≡◌) l m → l ≡ m
all_same nil = refl
all_same (cons {a} {b} r h) = ap₂ ◌∷◌ (same_point a b r) (all_same h)

same_all : (l : List Point) → All₂ (Each ◌≡◌) l l
same_all [] = nil
same_all (p ∷ l) = cons (record { x = refl; y = refl; z = refl }) (same_all l)

old_steps : (c : Kind) (k : ℕ) (l : List Point) → All₂ (Each ◌≡◌) (curve (tension 4) c k l) (curve kobbelt c k l)
unfolding curve
old_steps c zero l = same_all l
old_steps c (suc k) l = step_carries (carries_each rounded_carries) c (old_steps c k l)

pub old_curve : (c : Kind) (k : ℕ) (l : List Point) → curve (tension 4) c k l ≡ curve kobbelt c k l
old_curve c k l = all_same (old_steps c k l)

-- ---- the exact curve
all_once : (n : ℕ) → n ≡ 1 → (l : List Point) → All₂ (Each (Times n)) l l
all_once n e [] = nil
all_once n e (p ∷ l) = cons (record { x = times_one n e p.x; y = times_one n e p.y; z = times_one n e p.z }) (all_once n e l)

pub old_exact : (c : Kind) (k : ℕ) (l : List Point) → All₂ (Each (Times (4 ^ k))) (exact_curve (tension 4) c k l) (exact_curve kobbelt c k l)
unfolding exact_curve
old_exact c zero l = all_once (4 ^ 0) (pow-zero 4) l
old_exact c (suc k) l = rw (pow-succ' 4 k) (step_carries (carries_each (exact_carries (4 ^ k))) c (old_exact c k l))
