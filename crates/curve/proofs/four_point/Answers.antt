-- `curve::four_point` meets its contract: no step leaves its range. Assumes nothing.
use mathlib.Core.Path.{◌≡◌, refl, subst⁻¹}
use Prim.Native.Nat.{ℕ, ◌+◌, ◌*◌, ◌≤◌, ◌<◌, ◌^◌}
use native.Mathlib.Nat.{mul-le-mul_right}
use native.Mathlib.Omega.{arith}
use borrow.Author.Rules.{rules}
use lib.IntN.{ℤ, pos, nat_abs, ◌+ℤ◌, ◌-ℤ◌, ◌*ℤ◌}
use mir.Syntax.{w64}
use mir.Val.{SFits, to_z}
use mir.Facts.{to_z-of_z, to_z_pos}
use Rattle.integers.proofs.AbsoluteValue.{abs-add, abs-sub, abs-mul}
use Rattle.integers.proofs.Range.{fits_abs}
use Rattle.curve.specs.Weights.{tension, interior}
use Rattle.curve.proofs.four_point.Goals as goal

-- the size of each step; e is t as the machine reads it back
record Sizes (p q r s e : ℤ) : Type 0 where
  wp : SFits w64 p
  wq : SFits w64 q
  wr : SFits w64 r
  ws : SFits w64 s
  we : SFits w64 e
  weight : SFits w64 (pos 32 +ℤ e)
  inner : SFits w64 (q +ℤ r)
  near : SFits w64 ((pos 32 +ℤ e) *ℤ (q +ℤ r))
  outer : SFits w64 (p +ℤ s)
  far : SFits w64 (e *ℤ (p +ℤ s))
  all : SFits w64 ((pos 32 +ℤ e) *ℤ (q +ℤ r) -ℤ e *ℤ (p +ℤ s))
  is : (t : ℕ) → e ≡ pos t → (pos 32 +ℤ e) *ℤ (q +ℤ r) -ℤ e *ℤ (p +ℤ s) ≡ interior (tension t) p q r s

sizes : (p q r s : ℤ) (t : ℕ) → t ≤ 4 → nat_abs p < 3 * 2 ^ 55 → nat_abs q < 3 * 2 ^ 55 → nat_abs r < 3 * 2 ^ 55 → nat_abs s < 3 * 2 ^ 55 → Sizes p q r s (pos t)
sizes p q r s t k h₀ h₁ h₂ h₃ =
    let a = abs-add q r in
    let b = abs-mul (pos (32 + t)) (q +ℤ r) in
    let c = abs-add p s in
    let d = abs-mul (pos t) (p +ℤ s) in
    let e = abs-sub (pos (32 + t) *ℤ (q +ℤ r)) (pos t *ℤ (p +ℤ s)) in
    let m : (32 + t) * nat_abs (q +ℤ r) ≤ 36 * nat_abs (q +ℤ r) = mul-le-mul_right (nat_abs (q +ℤ r)) (omega arith) in
    let n : t * nat_abs (p +ℤ s) ≤ 4 * nat_abs (p +ℤ s) = mul-le-mul_right (nat_abs (p +ℤ s)) k in
    record {
      wp = fits_abs w64 _ (omega arith);
      wq = fits_abs w64 _ (omega arith);
      wr = fits_abs w64 _ (omega arith);
      ws = fits_abs w64 _ (omega arith);
      we = fits_abs w64 _ (omega arith);
      weight = fits_abs w64 _ (omega arith);
      inner = fits_abs w64 _ (omega arith);
      near = fits_abs w64 _ (omega arith);
      outer = fits_abs w64 _ (omega arith);
      far = fits_abs w64 _ (omega arith);
      all = fits_abs w64 _ (omega arith);
      is = λ u i. subst⁻¹ (λ (x : ℤ). (pos 32 +ℤ x) *ℤ (q +ℤ r) -ℤ x *ℤ (p +ℤ s) ≡ interior (tension u) p q r s) i refl;
    }

at : (c : goal.Start) → Sizes c.args.p c.args.q c.args.r c.args.s (to_z w64 c.args.t)
at c = subst⁻¹ (Sizes c.args.p c.args.q c.args.r c.args.s) (to_z_pos w64 (omega (arith, c.requires.0))) (sizes c.args.p c.args.q c.args.r c.args.s c.args.t c.requires.0 c.requires.1 c.requires.2 c.requires.3 c.requires.4)

pub overflow_sub-result : goal.overflow_sub-result
overflow_sub-result c = let k = at c in search rules

pub returns : goal.returns
returns c =
    let k = at c in
    let a = k.wp in let b = k.wq in let d = k.wr in let e = k.ws in let f = k.weight in let g = k.inner in let h = k.near in let i = k.outer in let j = k.far in let l = k.all in
    simp to_z-of_z (k.is c.args.t (to_z_pos w64 (omega (arith, c.requires.0))))
