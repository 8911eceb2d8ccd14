-- Stored numerators, rounded. Assumes nothing.
use mathlib.Core.Path.{◌≡◌, sym, ap, ◌∙◌}
use Prim.Native.Nat.{ℕ, ◌*◌, ◌^◌, ◌≤◌, ◌+◌, ◌<◌}
use native.Mathlib.Nat.{mul_assoc, le_of_mul-le-mul_left}
use native.Mathlib.Omega.{arith}
use lib.IntN.{ℤ, pos, nat_abs, ◌*ℤ◌}
use mir.Syntax.{w32}
use mir.Val.{SFits}
use Rattle.integers.proofs.AbsoluteValue.{abs-mul}
use Rattle.integers.proofs.Range.{fits_abs}
use Rattle.integers.proofs.Ring.{one_*ℤ}
use Rattle.rounding.specs.Rounding.{round}
use Rattle.rounding.proofs.Laws.{round_within, round-scale}
use Rattle.curve.specs.Weights.{tension}
use Rattle.rings.proofs.Tension.{edge-scale_at, edge_range_at}
use Rattle.rings.specs.Scales.{virtual_scale, edge_scale, edge_range}
use Rattle.edgeentries.specs.Entry.{wide_flag, unit_of}
use Rattle.edgerounding.specs.Rounded.{rounded_by}

module _ (t : ℕ) where
  pub rounded_fits : (z : ℤ) → nat_abs z ≤ edge_range (tension t) → SFits w32 (round z (edge_scale (tension t)))
  rounded_fits z h = let c = edge_range_at t in let d = edge-scale_at t in let r = round_within z (edge_scale (tension t)) 123032918 (omega arith) (omega arith) in fits_abs w32 (round z (edge_scale (tension t))) (omega arith)

  -- ---- over the scale
  pub plain_small : (z : ℤ) → nat_abs (pos (virtual_scale (tension t)) *ℤ z) ≤ edge_range (tension t) → nat_abs z ≤ 2 ^ 33
  plain_small z h =
      let a = abs-mul (pos (virtual_scale (tension t))) z in
      let c = edge_range_at t in
      let f : virtual_scale (tension t) * nat_abs z ≡ (32 + t) * (50400 * nat_abs z) = mul_assoc (32 + t) 50400 (nat_abs z) in
      let j : 0 < 32 + t = omega arith in
      let m : 50400 * nat_abs z ≤ 5913600 * 67108864 = le_of_mul-le-mul_left {k = 32 + t} (omega arith) j in
      omega arith

  pub round-plain : (z : ℤ) → round z 64 ≡ round (pos (virtual_scale (tension t)) *ℤ z) (edge_scale (tension t))
  round-plain z =
      let e : virtual_scale (tension t) * 64 ≡ edge_scale (tension t) = (let d = edge-scale_at t in omega arith) in
      sym (round-scale (virtual_scale (tension t)) z 64 (omega arith) (omega arith)) ∙ ap (round (pos (virtual_scale (tension t)) *ℤ z)) e

  -- ---- by the flag
  unit_wide : (flag : ℕ) → flag ≡ wide_flag → (z : ℤ) → pos (unit_of (tension t) flag) *ℤ z ≡ z
  unfolding unit_of
  unit_wide flag e z = ap (λ (i : ℕ). pos (unit_of (tension t) i) *ℤ z) e ∙ one_*ℤ z

  pub wide_is : (flag : ℕ) → flag ≡ wide_flag → (z : ℤ) → round z (edge_scale (tension t)) ≡ rounded_by (tension t) flag z
  unfolding rounded_by
  wide_is flag e z = ap (λ (x : ℤ). round x (edge_scale (tension t))) (sym (unit_wide flag e z))

  pub wide_range : (flag : ℕ) → flag ≡ wide_flag → (z : ℤ) → nat_abs (pos (unit_of (tension t) flag) *ℤ z) ≤ edge_range (tension t) → nat_abs z ≤ edge_range (tension t)
  wide_range flag e z h = let a = ap nat_abs (unit_wide flag e z) in omega arith

  pub plain_is : (flag : ℕ) → unit_of (tension t) flag ≡ virtual_scale (tension t) → (z : ℤ) → round (pos (virtual_scale (tension t)) *ℤ z) (edge_scale (tension t)) ≡ rounded_by (tension t) flag z
  unfolding rounded_by
  plain_is flag e z = ap (λ (u : ℕ). round (pos u *ℤ z) (edge_scale (tension t))) (sym e)

  pub plain_range : (flag : ℕ) → unit_of (tension t) flag ≡ virtual_scale (tension t) → (z : ℤ) → nat_abs (pos (unit_of (tension t) flag) *ℤ z) ≤ edge_range (tension t) → nat_abs (pos (virtual_scale (tension t)) *ℤ z) ≤ edge_range (tension t)
  plain_range flag e z h = let a = ap (λ (u : ℕ). nat_abs (pos u *ℤ z)) e in omega arith
