-- `times_share` meets its contract: the product stays in its range. Assumes nothing.
use mathlib.Core.Path.{◌≡◌}
use Prim.Native.Nat.{ℕ, ◌/◌, ◌≤◌}
use native.Mathlib.Nat.{mul-le-mul, div-le_self}
use native.Mathlib.Omega.{arith}
use lib.IntN.{ℤ, pos, ◌*ℤ◌}
use mir.Syntax.{w64}
use mir.Val.{SFits, to_z}
use mir.Facts.{to_z-of_z, to_z_pos}
use Rattle.integers.proofs.AbsoluteValue.{abs-mul}
use Rattle.integers.proofs.Range.{fits_abs}
use Rattle.rings.specs.Scales.{valence_scale}
use Rattle.ringsums.proofs.times_share.Goals as goal

-- the size of each step
record Sizes (q : ℕ) (v : ℤ) : Type 0 where
  read : to_z w64 q ≡ pos q
  share : SFits w64 (pos q)
  all : SFits w64 (pos q *ℤ v)

pub returns : goal.returns
returns c =
    let at : Sizes (valence_scale / c.args.n) c.args.v = let q : ℕ = valence_scale / c.args.n in
    let h : q ≤ valence_scale = div-le_self valence_scale c.args.n in
    let a = abs-mul (pos q) c.args.v in
    let b = mul-le-mul h c.requires.2 in
    record { read = to_z_pos w64 (omega arith); share = fits_abs w64 (pos q) (omega arith); all = fits_abs w64 (pos q *ℤ c.args.v) (omega arith) } in
    let k = at in let f : SFits w64 c.args.v = c.ranges.v in let g = k.all in let e = k.read in simp (e, to_z-of_z)
