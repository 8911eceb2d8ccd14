-- `load_biased` meets its contract: no step leaves its range. Assumes nothing.
use mathlib.Core.Path.{◌≡◌, ap₂, ◌∙◌}
use Prim.Native.Nat.{ℕ, ◌+◌, ◌*◌, ◌^◌, ◌<◌}
use native.Mathlib.Omega.{arith}
use lib.IntN.{pos}
use mir.Syntax.{w64}
use mir.Val.{to_z}
use mir.Facts.{to_z_pos}
use Rattle.edgeentries.specs.Packed.{biased_at}
use Rattle.edgeentries.proofs.load_biased.Goals as goal

read : (lo hi : ℕ) → hi < 2 ^ 31 → lo < 2 ^ 32 → to_z w64 (hi * 4294967296 + lo) ≡ pos (hi * 4294967296 + lo)
read lo hi h l = to_z_pos w64 (omega arith)

pub returns : goal.returns
unfolding biased_at
returns c =
    let h = c.requires.1 in
    let lo = c.wide-lo.result in
    let hi = c.wide-hi.result in
    let e = c.wide-hi.ensures.0 in
    let l = c.wide-lo.ensures.1 in
    let r = read lo hi (omega arith) l in
    (r ∙ ap₂ (λ (l u : ℕ). pos (u * 4294967296 + l)) c.wide-lo.ensures.0 e, rw r (omega arith))
