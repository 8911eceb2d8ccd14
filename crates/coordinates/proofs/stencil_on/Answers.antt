-- `stencil_on` meets its contract: no step leaves its range. Assumes nothing.
use Prim.Native.Nat.{◌≤◌}
use native.Mathlib.Omega.{arith}
use borrow.Author.Rules.{rules}
use lib.IntN.{nat_abs}
use mir.Syntax.{w64}
use mir.Val.{SFits}
use mir.Facts.{to_z-of_z}
use Rattle.rings.specs.Scales.{coordinate_range}
use Rattle.coordinates.proofs.Values.{read_small, far_small, stencil_read}
use Rattle.coordinates.proofs.stencil_on.Goals as goal

pub far_on-u-requires : goal.far_on-u-requires
far_on-u-requires c =
    let small_x : nat_abs c.coordinate-x.result ≤ coordinate_range = read_small _ _ _ c.coordinate-x.result c.requires.within c.coordinate-x.ensures in
    let small_y : nat_abs c.coordinate-y.result ≤ coordinate_range = read_small _ _ _ c.coordinate-y.result c.requires.within c.coordinate-y.ensures in
    let f : SFits w64 c.coordinate-x.result = search rules in
    let g : SFits w64 c.coordinate-y.result = search rules in
    let a = small_x in
    let b = small_y in
    simp to_z-of_z (c.requires.a_bound.0, c.requires.a_bound.1, omega arith, omega arith)

pub far_on-v-requires : goal.far_on-v-requires
far_on-v-requires c =
    let small_x : nat_abs c.coordinate-x.result ≤ coordinate_range = read_small _ _ _ c.coordinate-x.result c.requires.within c.coordinate-x.ensures in
    let small_y : nat_abs c.coordinate-y.result ≤ coordinate_range = read_small _ _ _ c.coordinate-y.result c.requires.within c.coordinate-y.ensures in
    let f : SFits w64 c.coordinate-x.result = search rules in
    let g : SFits w64 c.coordinate-y.result = search rules in
    let a = small_x in
    let b = small_y in
    simp to_z-of_z (c.requires.a_bound.0, c.requires.a_bound.4, omega arith, omega arith)

pub four_point-requires : goal.four_point-requires
four_point-requires c =
    let small_x : nat_abs c.coordinate-x.result ≤ coordinate_range = read_small _ _ _ c.coordinate-x.result c.requires.within c.coordinate-x.ensures in
    let small_y : nat_abs c.coordinate-y.result ≤ coordinate_range = read_small _ _ _ c.coordinate-y.result c.requires.within c.coordinate-y.ensures in
    let f : SFits w64 c.coordinate-x.result = search rules in
    let g : SFits w64 c.coordinate-y.result = search rules in
    let i : SFits w64 c.far_on-u.result = search rules in
    let j : SFits w64 c.far_on-v.result = search rules in
    let a = small_x in
    let b = small_y in
    let d = far_small _ _ _ _ _ c.far_on-u.result c.requires.within a b (simp to_z-of_z at c.far_on-u.ensures) in
    let e = far_small _ _ _ _ _ c.far_on-v.result c.requires.within b a (simp to_z-of_z at c.far_on-v.ensures) in
    simp to_z-of_z (c.requires.a_bound.5, omega arith, omega arith, omega arith, omega arith)

pub returns : goal.returns
returns c =
    let f : SFits w64 c.coordinate-x.result = search rules in
    let g : SFits w64 c.coordinate-y.result = search rules in
    let i : SFits w64 c.far_on-u.result = search rules in
    let j : SFits w64 c.far_on-v.result = search rules in
    let k : SFits w64 c.four_point.result = search rules in
    simp to_z-of_z (stencil_read _ _ _ _ _ _ _ c.four_point.result c.far_on-u.result c.coordinate-x.result c.coordinate-y.result c.far_on-v.result
    (simp to_z-of_z at c.four_point.ensures) c.coordinate-x.ensures c.coordinate-y.ensures (simp to_z-of_z at c.far_on-u.ensures) (simp to_z-of_z at c.far_on-v.ensures))
