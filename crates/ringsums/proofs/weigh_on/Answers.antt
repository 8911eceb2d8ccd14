-- `weigh_on` meets its contract. Assumes nothing.
use native.Mathlib.Omega.{arith}
use borrow.Author.Rules.{rules}
use mir.Syntax.{w64}
use mir.Val.{SFits}
use mir.Facts.{to_z-of_z}
use Rattle.coordinates.proofs.Values.{read_small}
use Rattle.ringsums.proofs.weigh_on.Goals as goal

pub weigh-requires : goal.weigh-requires
weigh-requires c =
    let f : SFits w64 c.coordinate.result = search rules in
    let g : SFits w64 c.coordinate-2.result = search rules in
    let a = read_small _ _ _ c.coordinate.result c.requires.within.0 c.coordinate.ensures in
    let b = read_small _ _ _ c.coordinate-2.result c.requires.within.0 c.coordinate-2.ensures in
    simp to_z-of_z (c.requires.within.1, c.requires.d_bound.0, omega arith, omega arith)
