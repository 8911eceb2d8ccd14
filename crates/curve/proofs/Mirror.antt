-- Where a segment ends, the interior rule with a mirrored point is the end rule, and with two of them the single rule. Assumes nothing.
use mathlib.Core.Path.{◌≡◌, refl, ap, ◌∙◌}
use mathlib.Core.List.{[], ◌∷◌}
use Prim.Native.Nat.{ℕ, ◌+◌, ◌-◌, ◌*◌, ◌≤◌}
use native.Mathlib.Omega.{arith}
use lib.IntN.{ℤ, pos, nat_abs, ◌+ℤ◌, ◌-ℤ◌, ◌*ℤ◌}
use Rattle.integers.proofs.Polynomial.{var, lit, ◌⊞◌, ◌⊟◌, ◌⊠◌, same}
use Rattle.integers.proofs.Linear.{whole, ◌⊖◌}
use Rattle.integers.proofs.AbsoluteValue.{abs-sub, abs-mul}
use Rattle.integers.proofs.Order.{eq_by}
use Rattle.curve.specs.Weights.{Weights, interior, end_edge, single_edge, mirror}

less : (a b : ℕ) → b ≤ a → pos (a - b) ≡ pos a -ℤ pos b
less a b h = eq_by (whole (pos (a - b))) (whole (pos a) ⊖ whole (pos b)) [] (omega arith)

pub end_mirrored : (w : Weights) → 2 * w.far ≤ w.near → (p q r : ℤ) → end_edge w p q r ≡ interior w (mirror p q) p q r
end_mirrored w h p q r =
    ap (λ (x : ℤ). x *ℤ p +ℤ pos (w.near + w.far) *ℤ q -ℤ pos w.far *ℤ r) (less w.near (2 * w.far) h)
    ∙ same ((var 0 ⊟ lit (pos 2) ⊠ var 1) ⊠ var 2 ⊞ (var 0 ⊞ var 1) ⊠ var 3 ⊟ var 1 ⊠ var 4) (var 0 ⊠ (var 2 ⊞ var 3) ⊟ var 1 ⊠ (lit (pos 2) ⊠ var 2 ⊟ var 3 ⊞ var 4))
    (pos w.near ∷ pos w.far ∷ p ∷ q ∷ r ∷ []) refl

pub single_mirrored : (w : Weights) → w.far ≤ w.near → (p q : ℤ) → single_edge w p q ≡ interior w (mirror p q) p q (mirror q p)
single_mirrored w h p q =
    ap (λ (x : ℤ). x *ℤ (p +ℤ q)) (less w.near w.far h)
    ∙ same ((var 0 ⊟ var 1) ⊠ (var 2 ⊞ var 3)) (var 0 ⊠ (var 2 ⊞ var 3) ⊟ var 1 ⊠ ((lit (pos 2) ⊠ var 2 ⊟ var 3) ⊞ (lit (pos 2) ⊠ var 3 ⊟ var 2)))
    (pos w.near ∷ pos w.far ∷ p ∷ q ∷ []) refl

-- the same edge from its other end
pub interior_turned : (w : Weights) (p q r s : ℤ) → interior w p q r s ≡ interior w s r q p
interior_turned w p q r s =
    same (var 0 ⊠ (var 3 ⊞ var 4) ⊟ var 1 ⊠ (var 2 ⊞ var 5)) (var 0 ⊠ (var 4 ⊞ var 3) ⊟ var 1 ⊠ (var 5 ⊞ var 2)) (pos w.near ∷ pos w.far ∷ p ∷ q ∷ r ∷ s ∷ []) refl

pub mirror_size : (p q : ℤ) (B : ℕ) → nat_abs p ≤ B → nat_abs q ≤ B → nat_abs (mirror p q) ≤ 3 * B
mirror_size p q B h k = let a = abs-mul (pos 2) p in let b = abs-sub (pos 2 *ℤ p) q in omega arith
