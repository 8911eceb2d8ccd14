-- `scaled_far` meets its contract. Assumes nothing.
use mathlib.Core.Path.{◌≡◌, ap₂, ◌∙◌}
use Prim.Native.Nat.{◌≤◌}
use native.Mathlib.Omega.{arith}
use borrow.Author.Rules.{rules}
use lib.IntN.{nat_abs, ◌*ℤ◌}
use mir.Syntax.{w64}
use mir.Val.{SFits}
use mir.Facts.{to_z-of_z}
use Rattle.rings.specs.Scales.{coordinate_range}
use Rattle.nets.specs.Net.{axis}
use Rattle.coordinates.specs.Stencil.{far_value}
use Rattle.coordinates.proofs.Values.{read_small, far_small}
use Rattle.exactedges.proofs.Wide.{scaled_fits}
use Rattle.edgepoints.proofs.scaled_far.Goals as goal

pub far_on-requires : goal.far_on-requires
far_on-requires c =
    let small_x : nat_abs c.coordinate-x.result ≤ coordinate_range = read_small _ _ _ c.coordinate-x.result c.requires.within c.coordinate-x.ensures in
    let small_y : nat_abs c.coordinate-y.result ≤ coordinate_range = read_small _ _ _ c.coordinate-y.result c.requires.within c.coordinate-y.ensures in
    let f : SFits w64 c.coordinate-x.result = search rules in
    let g : SFits w64 c.coordinate-y.result = search rules in
    let a = small_x in
    let b = small_y in
    simp to_z-of_z (c.requires.a_bound.0, c.requires.a_bound.1, omega arith, omega arith)

pub overflow_mul-result : goal.overflow_mul-result
overflow_mul-result c =
    let small_x : nat_abs c.coordinate-x.result ≤ coordinate_range = read_small _ _ _ c.coordinate-x.result c.requires.within c.coordinate-x.ensures in
    let small_y : nat_abs c.coordinate-y.result ≤ coordinate_range = read_small _ _ _ c.coordinate-y.result c.requires.within c.coordinate-y.ensures in
    let value : (c.far_on.result ≡ far_value (axis c.args.points.now c.args.a) c.args.f c.coordinate-x.result c.coordinate-y.result) = let f : SFits w64 c.coordinate-x.result = search rules in
    let g : SFits w64 c.coordinate-y.result = search rules in
    simp to_z-of_z at c.far_on.ensures in
    let fits : SFits w64 (c.virtual_scale.result *ℤ c.far_on.result) = let e = c.virtual_scale.ensures in
    rw e (scaled_fits c.args.t c.requires.a_bound.4 c.far_on.result (far_small _ _ _ _ _ c.far_on.result c.requires.within small_x small_y value)) in
    let e : SFits w64 c.virtual_scale.result = search rules in
    let f : SFits w64 c.far_on.result = search rules in
    let g = fits in
    simp to_z-of_z g

pub returns : goal.returns
returns c =
    let value : (c.far_on.result ≡ far_value (axis c.args.points.now c.args.a) c.args.f c.coordinate-x.result c.coordinate-y.result) = let f : SFits w64 c.coordinate-x.result = search rules in
    let g : SFits w64 c.coordinate-y.result = search rules in
    simp to_z-of_z at c.far_on.ensures in
    let small_x : nat_abs c.coordinate-x.result ≤ coordinate_range = read_small _ _ _ c.coordinate-x.result c.requires.within c.coordinate-x.ensures in
    let small_y : nat_abs c.coordinate-y.result ≤ coordinate_range = read_small _ _ _ c.coordinate-y.result c.requires.within c.coordinate-y.ensures in
    let fits : SFits w64 (c.virtual_scale.result *ℤ c.far_on.result) = let e = c.virtual_scale.ensures in
    rw e (scaled_fits c.args.t c.requires.a_bound.4 c.far_on.result (far_small _ _ _ _ _ c.far_on.result c.requires.within small_x small_y value)) in
    let e : SFits w64 c.virtual_scale.result = search rules in
    let f : SFits w64 c.far_on.result = search rules in
    let g : SFits w64 (c.virtual_scale.result *ℤ c.far_on.result) = fits in
    simp to_z-of_z (ap₂ ◌*ℤ◌ c.virtual_scale.ensures
    (value ∙ ap₂ (far_value (axis c.args.points.now c.args.a) c.args.f) c.coordinate-x.ensures c.coordinate-y.ensures))
