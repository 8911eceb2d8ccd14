-- `interior_on` meets its contract: no step leaves its range. Assumes nothing.
use native.Mathlib.Omega.{arith}
use borrow.Author.Rules.{rules}
use mir.Syntax.{w64}
use mir.Val.{SFits}
use mir.Facts.{to_z-of_z}
use Rattle.coordinates.proofs.Values.{read_small}
use Rattle.coordinates.proofs.interior_on.Goals as goal

pub four_point-requires : goal.four_point-requires
four_point-requires c =
    let f₁ : SFits w64 c.coordinate.result = search rules in
    let f₂ : SFits w64 c.coordinate-2.result = search rules in
    let f₃ : SFits w64 c.coordinate-3.result = search rules in
    let f₄ : SFits w64 c.coordinate-4.result = search rules in
    let a = read_small _ _ _ c.coordinate.result c.requires.within c.coordinate.ensures in
    let b = read_small _ _ _ c.coordinate-2.result c.requires.within c.coordinate-2.ensures in
    let d = read_small _ _ _ c.coordinate-3.result c.requires.within c.coordinate-3.ensures in
    let e = read_small _ _ _ c.coordinate-4.result c.requires.within c.coordinate-4.ensures in
    simp to_z-of_z (c.requires.a_bound.5, omega arith, omega arith, omega arith, omega arith)
