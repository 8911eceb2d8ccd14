-- The size of sums of coordinates, and of their means. Assumes nothing.
use mathlib.Core.Path.{◌≡◌}
use mathlib.Core.List.{List}
use Prim.Native.Nat.{ℕ, ◌*◌, ◌≤◌, ◌<◌}
use native.Mathlib.Nat.{mul-le-mul_right}
use native.Mathlib.Omega.{arith}
use lib.IntN.{ℤ, pos, nat_abs, ◌*ℤ◌}
use mir.Syntax.{w32, w64}
use mir.Val.{SFits}
use Rattle.bounds.specs.Bounds.{max_coordinate}
use Rattle.integers.specs.Sum.{sum}
use Rattle.integers.proofs.AbsoluteValue.{abs-mul}
use Rattle.integers.proofs.Range.{fits_abs}
use Rattle.integers.proofs.Sum.{abs-sum}
use Rattle.rounding.specs.Rounding.{round}
use Rattle.rounding.proofs.Laws.{round_size, round-scale}
use Rattle.splitpoints.specs.Points.{Corners, corner_on}

-- the steps from a sum of d coordinates to their mean, which is no larger than what it is the mean of, and a half
pub record Sizes (z : ℤ) (d : ℕ) : Type 0 where
  pub sum : SFits w64 z
  pub twice : SFits w64 (pos 2 *ℤ z)
  pub range : nat_abs (pos 2 *ℤ z) ≤ d * 2097152
  pub mean : SFits w32 (round (pos 2 *ℤ z) (2 * d))
  pub same : round (pos 2 *ℤ z) (2 * d) ≡ round z d

pub sizes : (z : ℤ) (d : ℕ) → 0 < d → d ≤ 8 → nat_abs z ≤ d * max_coordinate → Sizes z d
sizes z d p q h =
    let a = abs-mul (pos 2) z in
    let e : round (pos 2 *ℤ z) (2 * d) ≡ round z d = round-scale 2 z d (omega arith) (omega arith) in
    let s = round_size z d p in
    let m : 1 * nat_abs (round z d) ≤ d * nat_abs (round z d) = mul-le-mul_right (nat_abs (round z d)) p in
    record {
      sum = fits_abs w64 z (omega arith);
      twice = fits_abs w64 (pos 2 *ℤ z) (omega arith);
      range = omega arith;
      mean = rw e (fits_abs w32 (round z d) (omega arith));
      same = e;
    }

pub sum_small : (t : List ℤ) (l : List ℕ) (h c a m : ℕ) → Corners t l h c → a < 3 → m ≤ c → nat_abs (sum m (corner_on t l h a)) ≤ m * max_coordinate
unfolding corner_on
sum_small t l h c a m ok b k = abs-sum m (corner_on t l h a) max_coordinate (λ j i. (ok.each j (omega arith)).small a b)

pub sum_fits : (t : List ℤ) (l : List ℕ) (h c a m : ℕ) → Corners t l h c → a < 3 → m ≤ c → SFits w64 (sum m (corner_on t l h a))
sum_fits t l h c a m ok b k = let s = sum_small t l h c a m ok b k in let e = ok.eight in fits_abs w64 (sum m (corner_on t l h a)) (omega arith)
