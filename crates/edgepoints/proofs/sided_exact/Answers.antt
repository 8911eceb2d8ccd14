-- `sided_exact` meets its contract. Assumes nothing.
use Rattle.exactedges.proofs.Plain.{on_axes_as, end_corner, start-corner, corner-room, straight_in, ends_mate, sided_made}
use Rattle.nets.specs.Net.{axis}
use Rattle.edgepoints.proofs.sided_exact.Goals as goal

pub straight_far-r-requires-clause-h_in_bounds : goal.straight_far-r-requires-clause-h_in_bounds
straight_far-r-requires-clause-h_in_bounds c =
    let o = ends_mate c.requires.ready.vertices _ c.requires.ready.net _ _ c.requires.points.1 c.requires.points.2 in (o.lt, o.inner, o.start)

pub stencil_exact-requires-clause-far_in : goal.stencil_exact-requires-clause-far_in
stencil_exact-requires-clause-far_in c =
    let net = c.requires.ready.net in
    let room = c.requires.points.0 in
    let b = c.requires.points.1.lt in (
      straight_in _ _ room _ _ c.straight_far-o.ensures,
      corner-room _ _ room _ (start-corner c.requires.ready.vertices _ net _ _ b c.start_of-p.ensures),
      corner-room _ _ room _ (end_corner c.requires.ready.vertices _ net _ _ b c.end_of-q.ensures),
      straight_in _ _ room _ _ c.straight_far-r.ensures,
      c.requires.points.3,
    )

pub returns : goal.returns
returns c =
    on_axes_as _ _ _ _ _
    (λ a. sided_made c.requires.ready.vertices _ c.requires.ready.net _ _ c.requires.points.1 c.requires.points.2 _ _ c.start_of-p.ensures c.end_of-q.ensures _ _ _ c.straight_far-o.ensures c.straight_far-r.ensures (axis c.args.points.now a))
    c.stencil_exact.ensures
