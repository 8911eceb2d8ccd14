-- `straight_virtual` meets its contract. Assumes nothing.
use mathlib.Core.Path.{refl}
use lib.IntN.{pos, ◌*ℤ◌}
use borrow.Author.Rules.{rules}
use Rattle.curve.specs.Weights.{tension}
use Rattle.rings.specs.Scales.{virtual_scale}
use Rattle.nets.specs.Net.{axis}
use Rattle.coordinates.specs.Points.{InTable, OnAxes}
use Rattle.coordinates.specs.Stencil.{FarIn}
use Rattle.exactedges.specs.Edge.{far_on}
use Rattle.exactedges.proofs.Plain.{on_axes_as, start-corner, end_corner, corner-room, straight_in}
use Rattle.exactedges.proofs.Wide.{far_virtual}
use Rattle.edgepoints.proofs.straight_virtual.Goals as goal

pub on_axes-requires : goal.on_axes-requires
on_axes-requires c =
    let b = c.requires.points.bounded in
    let far_in : FarIn c.args.points.now c.straight_far-f.result = straight_in _ _ c.requires.points _ _ c.straight_far-f.ensures in
    let start_in : InTable c.args.points.now c.start_of-p.result = corner-room _ _ c.requires.points _ (start-corner c.requires.ready.vertices _ c.requires.ready.net _ _ c.requires.h_in_bounds.0 c.start_of-p.ensures) in
    let end_in : InTable c.args.points.now c.end_of-q.result = corner-room _ _ c.requires.points _ (end_corner c.requires.ready.vertices _ c.requires.ready.net _ _ c.requires.h_in_bounds.0 c.end_of-q.ensures) in
    search rules

pub returns : goal.returns
returns c =
    let r = c.on_axes.result in
    let e : OnAxes (λ a. pos (virtual_scale (tension c.args.t)) *ℤ far_on (axis c.args.points.now a) c.straight_far-f.result c.start_of-p.result c.end_of-q.result) r.x r.y r.z = search rules in
    on_axes_as _ _ _ _ _
    (λ a. far_virtual c.args.t c.requires.h_in_bounds.3 c.requires.ready.vertices _ c.requires.ready.net _ c.requires.h_in_bounds.0 c.requires.h_in_bounds.1 c.requires.h_in_bounds.2 _ c.straight_far-f.ensures _ _ c.start_of-p.ensures c.end_of-q.ensures (axis c.args.points.now a) _ refl)
    e
