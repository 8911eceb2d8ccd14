-- `rounding::round_div` meets its contract: the steps stay in range, and what they compute is `round-raised`. Assumes nothing.
use mathlib.Core.Path.{◌≡◌, ap, ◌∙◌, subst⁻¹}
use mathlib.Core.List.{[], ◌∷◌}
use Prim.Native.Nat.{ℕ, ◌+◌, ◌*◌, ◌/◌, ◌≤◌, ◌<◌, ◌^◌}
use native.Mathlib.Nat.{div-add-mod, mul-le-mul_right}
use native.Mathlib.Omega.{arith}
use lib.Dec.{T}
use lib.IntN.{ℤ, pos, nat_abs, ◌+ℤ◌, ◌-ℤ◌, ◌*ℤ◌}
use lib.Signed.{non_neg, yes_non_neg, pos-nat_abs}
use mir.Syntax.{w64}
use mir.Val.{SFits, to_z}
use mir.Facts.{to_z-of_z, to_z_pos}
use Rattle.integers.proofs.AbsoluteValue.{abs-add, abs-sub}
use Rattle.integers.proofs.Linear.{at, whole, ◌⊕◌}
use Rattle.integers.proofs.Order.{le_by, of_abs}
use Rattle.integers.proofs.Range.{fits_abs}
use Rattle.rounding.specs.Rounding.{round}
use Rattle.rounding.proofs.Laws.{round-raised}
use Rattle.rounding.proofs.round_div.Goals as goal

-- e is `half` as the machine reads it back, `to_z w64 half`, which is `pos half`
record Sizes (n e : ℤ) (h : ℕ) : Type 0 where
  raised : SFits w64 (pos 536870913 *ℤ e)
  sum : SFits w64 (n +ℤ pos 536870913 *ℤ e)
  natural : T (non_neg (n +ℤ pos 536870913 *ℤ e))
  quotient : nat_abs (n +ℤ pos 536870913 *ℤ e) / (2 * h) < 2 ^ 62
  is : pos (nat_abs (n +ℤ pos 536870913 *ℤ e) / (2 * h)) -ℤ pos 268435456 ≡ round n (2 * h)

sizes : (n : ℤ) (h : ℕ) → 0 < h → nat_abs n ≤ 536870912 * h → nat_abs n + 536870913 * h < 2 ^ 63 → Sizes n (pos h) h
sizes n h k a b =
    let x : ℤ = pos 536870913 *ℤ pos h in
    let s = abs-add n x in
    let o = of_abs n in
    let g : T (non_neg (n +ℤ x)) = yes_non_neg (le_by (whole (pos 0)) (at 0 ⊕ whole (pos (536870913 * h))) (n ∷ []) (omega arith)) in
    let u : ℕ = nat_abs (n +ℤ x) in
    let p : pos u ≡ n +ℤ x = pos-nat_abs (n +ℤ x) g in
    let e : 536870913 * h ≡ h + (2 * h) * 268435456 = omega arith in
    record {
      raised = fits_abs w64 _ (omega arith);
      sum = fits_abs w64 _ (omega arith);
      natural = g;
      quotient =
          let l = div-add-mod u (2 * h) in
          let m : 2 * (u / (2 * h)) ≤ (2 * h) * (u / (2 * h)) = mul-le-mul_right (u / (2 * h)) (omega arith) in
          omega arith;
      is = round-raised n h 268435456 u k (p ∙ ap (λ (t : ℕ). n +ℤ pos t) e);
    }

read : (c : goal.Start) → to_z w64 c.args.half ≡ pos c.args.half
read c = to_z_pos w64 (omega (arith, c.requires.2))

at-start : (c : goal.Start) → Sizes c.args.n (to_z w64 c.args.half) c.args.half
at-start c = subst⁻¹ (λ (e : ℤ). Sizes c.args.n e c.args.half) (read c) (sizes c.args.n c.args.half c.requires.0 c.requires.1 c.requires.2)

-- the quotient as the machine reads it back
quotient-read : (c : goal.Start) → to_z w64 (nat_abs (c.args.n +ℤ pos 536870913 *ℤ to_z w64 c.args.half) / (2 * c.args.half)) ≡ pos (nat_abs (c.args.n +ℤ pos 536870913 *ℤ to_z w64 c.args.half) / (2 * c.args.half))
quotient-read c = let q = (at-start c).quotient in to_z_pos w64 (omega arith)

lowered : (q : ℕ) → q < 2 ^ 62 → SFits w64 (pos q -ℤ pos 268435456)
lowered q h = let a = abs-sub (pos q) (pos 268435456) in fits_abs w64 (pos q -ℤ pos 268435456) (omega arith)

pub returns : goal.returns
returns c =
    let f : SFits w64 c.args.n = c.ranges.n in
    let k = at-start c in
    let r = k.raised in
    let s = k.sum in
    let t : SFits w64 (to_z w64 (nat_abs (c.args.n +ℤ pos 536870913 *ℤ to_z w64 c.args.half) / (2 * c.args.half)) -ℤ pos 268435456) =
    subst⁻¹ (λ (y : ℤ). SFits w64 (y -ℤ pos 268435456)) (quotient-read c) (lowered _ k.quotient) in
    simp to_z-of_z (ap (λ (y : ℤ). y -ℤ pos 268435456) (quotient-read c) ∙ k.is)
