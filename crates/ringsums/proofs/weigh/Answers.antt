-- `weigh` meets its contract: no step leaves its range. Assumes nothing.
use Prim.Native.Nat.{◌+◌, ◌≤◌}
use native.Mathlib.Nat.{mul-le-mul}
use native.Mathlib.Omega.{arith}
use borrow.Author.Rules.{rules}
use lib.IntN.{ℤ, pos, nat_abs, ◌+ℤ◌, ◌*ℤ◌}
use lib.ListN.{get_or}
use mir.Syntax.{w64}
use mir.Val.{SFits}
use mir.Facts.{to_z-of_z}
use Rattle.integers.proofs.AbsoluteValue.{abs-add, abs-mul}
use Rattle.integers.proofs.Range.{fits_abs}
use Rattle.rings.specs.Scales.{extrapolated_range}
use Rattle.ringsums.specs.Sums.{weight_range}
use Rattle.ringsums.proofs.weigh.Goals as goal

-- the size of each step
record Sizes (u v x y : ℤ) : Type 0 where
  first : SFits w64 u
  second : SFits w64 v
  ux : SFits w64 (u *ℤ x)
  vy : SFits w64 (v *ℤ y)
  all : SFits w64 (u *ℤ x +ℤ v *ℤ y)

sizes : (u v x y : ℤ) → nat_abs u ≤ weight_range → nat_abs v ≤ weight_range → nat_abs x ≤ extrapolated_range → nat_abs y ≤ extrapolated_range → Sizes u v x y
sizes u v x y hu hv hx hy =
    let a = abs-mul u x in
    let a' = mul-le-mul hu hx in
    let b = abs-mul v y in
    let b' = mul-le-mul hv hy in
    let s = abs-add (u *ℤ x) (v *ℤ y) in
    record { first = fits_abs w64 _ (omega arith); second = fits_abs w64 _ (omega arith); ux = fits_abs w64 _ (omega arith); vy = fits_abs w64 _ (omega arith); all = fits_abs w64 _ (omega arith) }

pub overflow_mul-result : goal.overflow_mul-result
overflow_mul-result c =
    let at : Sizes (get_or c.args.w.now c.args.d (pos 0)) (get_or c.args.w.now (8 + c.args.d) (pos 0)) c.args.x c.args.y = sizes _ _ _ _ (c.requires.0.at c.args.d (omega arith)) (c.requires.0.at (8 + c.args.d) (omega arith)) c.requires.2 c.requires.3 in
    let k = at in search rules

pub overflow_mul-result-2 : goal.overflow_mul-result-2
overflow_mul-result-2 c =
    let at : Sizes (get_or c.args.w.now c.args.d (pos 0)) (get_or c.args.w.now (8 + c.args.d) (pos 0)) c.args.x c.args.y = sizes _ _ _ _ (c.requires.0.at c.args.d (omega arith)) (c.requires.0.at (8 + c.args.d) (omega arith)) c.requires.2 c.requires.3 in
    let k = at in search rules

pub overflow_add-result : goal.overflow_add-result
overflow_add-result c =
    let at : Sizes (get_or c.args.w.now c.args.d (pos 0)) (get_or c.args.w.now (8 + c.args.d) (pos 0)) c.args.x c.args.y = sizes _ _ _ _ (c.requires.0.at c.args.d (omega arith)) (c.requires.0.at (8 + c.args.d) (omega arith)) c.requires.2 c.requires.3 in
    let k = at in search rules

pub returns : goal.returns
returns c =
    let at : Sizes (get_or c.args.w.now c.args.d (pos 0)) (get_or c.args.w.now (8 + c.args.d) (pos 0)) c.args.x c.args.y = sizes _ _ _ _ (c.requires.0.at c.args.d (omega arith)) (c.requires.0.at (8 + c.args.d) (omega arith)) c.requires.2 c.requires.3 in
    let k = at in
    let a = k.first in let b = k.second in let d = k.ux in let e = k.vy in let f = k.all in
    let x : SFits w64 c.args.x = c.ranges.x in
    let y : SFits w64 c.args.y = c.ranges.y in
    simp to_z-of_z
