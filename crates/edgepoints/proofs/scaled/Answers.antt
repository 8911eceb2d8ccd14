-- `scaled` meets its contract. Assumes nothing.
use mathlib.Core.Path.{ap₂}
use native.Mathlib.Omega.{arith}
use borrow.Author.Rules.{rules}
use lib.IntN.{◌*ℤ◌}
use mir.Syntax.{w64}
use mir.Val.{SFits}
use mir.Facts.{to_z-of_z}
use Rattle.coordinates.proofs.Values.{read_small}
use Rattle.exactedges.proofs.Wide.{scaled_fits}
use Rattle.edgepoints.proofs.scaled.Goals as goal

pub overflow_mul-result : goal.overflow_mul-result
overflow_mul-result c =
    let fits : SFits w64 (c.virtual_scale.result *ℤ c.coordinate.result) = let b = read_small _ _ _ c.coordinate.result c.requires.2 c.coordinate.ensures in
    let e = c.virtual_scale.ensures in
    rw e (scaled_fits c.args.t c.requires.3 c.coordinate.result (omega arith)) in
    let e : SFits w64 c.virtual_scale.result = search rules in
    let f : SFits w64 c.coordinate.result = search rules in
    let g = fits in
    simp to_z-of_z g

pub returns : goal.returns
returns c =
    let fits : SFits w64 (c.virtual_scale.result *ℤ c.coordinate.result) = let b = read_small _ _ _ c.coordinate.result c.requires.2 c.coordinate.ensures in
    let e = c.virtual_scale.ensures in
    rw e (scaled_fits c.args.t c.requires.3 c.coordinate.result (omega arith)) in
    let e : SFits w64 c.virtual_scale.result = search rules in
    let f : SFits w64 c.coordinate.result = search rules in
    let g : SFits w64 (c.virtual_scale.result *ℤ c.coordinate.result) = fits in
    simp to_z-of_z (ap₂ ◌*ℤ◌ c.virtual_scale.ensures c.coordinate.ensures)
