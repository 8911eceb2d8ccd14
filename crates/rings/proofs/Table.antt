-- The table of weights: where a row has the weights of neighbours and of opposite corners, how they are made of unit weights, and how large they are. Assumes nothing.
use mathlib.Core.Path.{◌≡◌, refl, ◌∙◌}
use mathlib.Core.Bool.{Bool, true, false, cond}
use mathlib.Core.List.{[], ◌∷◌}
use Prim.Native.Nat.{ℕ, ◌+◌, ◌-◌, ◌*◌, ◌/◌, ◌%◌, ◌≤◌, ◌<◌}
use native.Mathlib.Nat.{mul-le-mul}
use native.Mathlib.Omega.{arith}
use borrow.Author.Tests.{lt-ltb, le-ltb}
use lib.Dec.{T, ltb, leb, leb→le}
use lib.IntN.{ℤ, pos, nat_abs, ◌+ℤ◌, ◌-ℤ◌, ◌*ℤ◌}
use lib.ListN.{get_or}
use Rattle.lists.proofs.Table.{every_below, below_at}
use Rattle.lists.proofs.Tabulate.{get_or-tabulate}
use Rattle.integers.proofs.AbsoluteValue.{abs-mul}
use Rattle.integers.proofs.Polynomial.{var, lit, ◌⊠◌, same}
use Rattle.curve.specs.Weights.{Weights, tension}
use Rattle.integers.specs.Within.{WithinFirst}
use Rattle.rings.specs.RingWeights.{one_at, weight_l, weight_k, unit_weights, entry, row, weight_of}

module _ (w : Weights) where
  pub row_l : (n d : ℕ) → d < n → n ≤ 8 → get_or (row w n) d (pos 0) ≡ weight_l w n d
  row_l n d h k = get_or-tabulate 16 (entry w n) d (pos 0) (omega arith) ∙ rw (lt-ltb d 8 (omega arith), lt-ltb d n h)

  pub row_k : (n d : ℕ) → d < n → n ≤ 8 → get_or (row w n) (8 + d) (pos 0) ≡ weight_k w n d
  row_k n d h k = let e : 8 + d - 8 ≡ d = omega arith in get_or-tabulate 16 (entry w n) (8 + d) (pos 0) (omega arith) ∙ rw (le-ltb (8 + d) 8 (omega arith), e, lt-ltb d n h)

  -- ---- made of unit weights
  once : (c : ℕ) (z : ℤ) → pos c *ℤ z ≡ pos c *ℤ (pos 1 *ℤ z)
  once c z = same (var 0 ⊠ var 1) (var 0 ⊠ (lit (pos 1) ⊠ var 1)) (pos c ∷ z ∷ []) refl

  none : (c : ℕ) → pos 0 ≡ pos c *ℤ pos 0
  none c = same (lit (pos 0)) (var 0 ⊠ lit (pos 0)) (pos c ∷ []) refl

  by_half : (a b d : Bool) (x y : ℤ)
      → cond a (cond b (pos w.near *ℤ x) (pos 0)) (cond d (pos w.far *ℤ y) (pos 0)) ≡ cond a (pos w.near *ℤ cond a (cond b (pos 1 *ℤ x) (pos 0)) (cond d (pos 1 *ℤ y) (pos 0))) (pos w.far *ℤ cond a (cond b (pos 1 *ℤ x) (pos 0)) (cond d (pos 1 *ℤ y) (pos 0)))
  by_half true true d x y = once w.near x
  by_half true false d x y = none w.near
  by_half false b true x y = once w.far y
  by_half false b false x y = none w.far

  pub entry_unit : (n o : ℕ) → entry w n o ≡ weight_of w o (entry unit_weights n o)
  entry_unit n o =
      by_half (ltb o 8) (ltb o n) (ltb (o - 8) n) (pos 4 -ℤ pos n *ℤ (one_at (n - 1) o +ℤ one_at 0 o +ℤ one_at 1 o))
      (pos n *ℤ (one_at (n - 2) (o - 8) +ℤ one_at (n - 1) (o - 8) +ℤ one_at 0 (o - 8) +ℤ one_at 1 (o - 8)) -ℤ pos 4)

-- ---- no unit weight exceeds 4, and at a tension no weight 144
small : ℕ → Bool
small i = leb (nat_abs (entry unit_weights (i / 16 + 3) (i % 16))) 4

all_small : T (every_below 96 small)
unfolding small
all_small = tt

pub unit_small : (n : ℕ) → 3 ≤ n → n ≤ 8 → (o : ℕ) → o < 16 → nat_abs (entry unit_weights n o) ≤ 4
unfolding small
unit_small n h k o l =
    let i : ℕ = (n - 3) * 16 + o in
    let a : i / 16 + 3 ≡ n = omega arith in
    let b : i % 16 ≡ o = omega arith in
    let s = leb→le (nat_abs (entry unit_weights (i / 16 + 3) (i % 16))) 4 (below_at 96 small all_small i (omega arith)) in
    rw (a, b) at s

product_small : (c : ℕ) (x : ℤ) → c ≤ 36 → nat_abs x ≤ 4 → nat_abs (pos c *ℤ x) ≤ 144
product_small c x h k = let a = abs-mul (pos c) x in let m : c * nat_abs x ≤ 36 * 4 = mul-le-mul h k in omega arith

weight_small : (t o : ℕ) (x : ℤ) → t ≤ 4 → nat_abs x ≤ 4 → nat_abs (weight_of (tension t) o x) ≤ 144
weight_small t o x h k = go (ltb o 8)
  where
    go : (b : Bool) → nat_abs (cond b (pos (32 + t) *ℤ x) (pos t *ℤ x)) ≤ 144
    go true = product_small (32 + t) x (omega arith) k
    go false = product_small t x (omega arith) k

pub row_small : (n t : ℕ) → 3 ≤ n → n ≤ 8 → t ≤ 4 → WithinFirst 16 144 (row (tension t) n)
row_small n t h k g = record {
  at = λ o l. let e = get_or-tabulate 16 (entry (tension t) n) o (pos 0) l ∙ entry_unit (tension t) n o in rw e (weight_small t o (entry unit_weights n o) g (unit_small n h k o l));
}
