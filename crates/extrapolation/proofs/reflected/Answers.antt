-- `reflected` meets its contract: no step leaves its range. Assumes nothing.
use mathlib.Core.Path.{◌≡◌}
use Prim.Native.Nat.{ℕ, ◌*◌, ◌≤◌}
use native.Mathlib.Nat.{mul-le-mul}
use native.Mathlib.Omega.{arith}
use lib.IntN.{ℤ, pos, nat_abs, ◌-ℤ◌, ◌*ℤ◌}
use mir.Syntax.{w64}
use mir.Val.{SFits, to_z}
use mir.Facts.{to_z-of_z, to_z_pos}
use Rattle.integers.proofs.AbsoluteValue.{abs-sub, abs-mul}
use Rattle.integers.proofs.Range.{fits_abs}
use Rattle.rings.specs.Scales.{extrapolated_scale, coordinate_range}
use Rattle.extrapolation.proofs.reflected.Goals as goal

-- the size of each step
record Sizes (p q : ℤ) (c : ℕ) : Type 0 where
  read : to_z w64 c ≡ pos c
  first : SFits w64 (pos (2 * extrapolated_scale) *ℤ p)
  second : SFits w64 (pos c *ℤ q)
  all : SFits w64 (pos (2 * extrapolated_scale) *ℤ p -ℤ pos c *ℤ q)

sizes : (p q : ℤ) (c : ℕ) → nat_abs p ≤ coordinate_range → nat_abs q ≤ 5 * coordinate_range → c ≤ extrapolated_scale → Sizes p q c
sizes p q c hp hq hc =
    let a = abs-mul (pos (2 * extrapolated_scale)) p in
    let b = abs-mul (pos c) q in
    let d = mul-le-mul hc hq in
    let e = abs-sub (pos (2 * extrapolated_scale) *ℤ p) (pos c *ℤ q) in
    record { read = to_z_pos w64 (omega arith); first = fits_abs w64 _ (omega arith); second = fits_abs w64 _ (omega arith); all = fits_abs w64 _ (omega arith) }

pub returns : goal.returns
returns c =
    let at : Sizes c.args.p c.args.q c.args.c = sizes c.args.p c.args.q c.args.c c.requires.0 c.requires.1 c.requires.2 in
    let k = at in
    let f : SFits w64 c.args.p = c.ranges.p in
    let h : SFits w64 c.args.q = c.ranges.q in
    let g₁ = k.first in
    let g₂ = k.second in
    let g₃ = k.all in
    let e = k.read in
    simp (e, to_z-of_z)
