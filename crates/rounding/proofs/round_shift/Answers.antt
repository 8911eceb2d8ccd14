-- `rounding::round_shift` meets its contract: the sum stays in range, and the shift is `round_shr`. Assumes nothing.
use mathlib.Core.Path.{◌≡◌, sym, ap, ◌∙◌, subst⁻¹}
use Prim.Native.Nat.{ℕ, ◌+◌, ◌*◌, ◌<◌, ◌^◌}
use native.Mathlib.Omega.{arith}
use lib.IntN.{ℤ, pos, nat_abs, ◌+ℤ◌}
use lib.Signed.{shr_z, mag_shr}
use mir.Syntax.{w64}
use mir.Val.{SFits, to_z}
use mir.Facts.{to_z-of_z, to_z_pos}
use mir.ValLaws.{sfits_le}
use Rattle.integers.proofs.AbsoluteValue.{abs-add}
use Rattle.integers.proofs.Range.{fits_abs}
use Rattle.rounding.specs.Rounding.{round}
use Rattle.rounding.proofs.Laws.{round_shr}
use Rattle.rounding.proofs.round_shift.Goals as goal

-- e is `half` as the machine reads it back, which is `pos half`
record Sizes (n e : ℤ) (k : ℕ) : Type 0 where
  sum : SFits w64 (n +ℤ e)
  is : shr_z (n +ℤ e) (2 ^ k) ≡ round n (2 ^ k)

sizes : (n : ℤ) (h k : ℕ) → 0 < h → 2 * h ≡ 2 ^ k → nat_abs n + h < 2 ^ 63 → Sizes n (pos h) k
sizes n h k g e b =
    let a = abs-add n (pos h) in
    record {
      sum = fits_abs w64 (n +ℤ pos h) (omega arith);
      is = ap (shr_z (n +ℤ pos h)) (sym e) ∙ round_shr n h g ∙ ap (round n) e;
    }

at-start : (c : goal.Start) → Sizes c.args.n (to_z w64 c.args.half) c.args.k
at-start c =
    subst⁻¹ (λ (e : ℤ). Sizes c.args.n e c.args.k) (to_z_pos w64 (omega (arith, c.requires.3)))
    (sizes c.args.n c.args.half c.args.k c.requires.0 c.requires.1 c.requires.3)

pub returns : goal.returns
returns c =
    let f : SFits w64 c.args.n = c.ranges.n in
    let s : SFits w64 (c.args.n +ℤ to_z w64 c.args.half) = (at-start c).sum in
    let t : SFits w64 (shr_z (c.args.n +ℤ to_z w64 c.args.half) (2 ^ c.args.k)) = sfits_le (mag_shr (c.args.n +ℤ to_z w64 c.args.half) (2 ^ c.args.k)) s in
    simp to_z-of_z (at-start c).is
