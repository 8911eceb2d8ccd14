-- The curve at paper 01's own weights. Assumes nothing.
use mathlib.Core.Path.{◌≡◌, refl}
use mathlib.Core.List.{[], ◌∷◌}
use lib.IntN.{ℤ, pos, ◌+ℤ◌, ◌-ℤ◌, ◌*ℤ◌}
use Rattle.integers.proofs.Polynomial.{var, lit, ◌⊞◌, ◌⊟◌, ◌⊠◌, same}
use Rattle.curve.specs.Weights.{kobbelt, interior, end_edge, single_edge}

-- ---- the three rules as 01 writes them, over 16
pub interior_is : (p q r s : ℤ) → interior kobbelt p q r s ≡ pos 9 *ℤ (q +ℤ r) -ℤ p -ℤ s
interior_is p q r s =
    same (lit (pos 9) ⊠ (var 1 ⊞ var 2) ⊟ lit (pos 1) ⊠ (var 0 ⊞ var 3)) (lit (pos 9) ⊠ (var 1 ⊞ var 2) ⊟ var 0 ⊟ var 3) (p ∷ q ∷ r ∷ s ∷ []) refl

pub end_is : (p q r : ℤ) → end_edge kobbelt p q r ≡ pos 7 *ℤ p +ℤ pos 10 *ℤ q -ℤ r
end_is p q r =
    same (lit (pos 7) ⊠ var 0 ⊞ lit (pos 10) ⊠ var 1 ⊟ lit (pos 1) ⊠ var 2) (lit (pos 7) ⊠ var 0 ⊞ lit (pos 10) ⊠ var 1 ⊟ var 2) (p ∷ q ∷ r ∷ []) refl

pub single_is : (p q : ℤ) → single_edge kobbelt p q ≡ pos 8 *ℤ (p +ℤ q)
single_is p q = refl
