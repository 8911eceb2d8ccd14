-- `extrapolated_point` meets its contract. Assumes nothing.
use Rattle.extrapolation.proofs.Turning.{open_fan, fan_in}
use Rattle.extrapolation.proofs.extrapolated_point.Goals as goal

pub extrapolated_from-requires : goal.extrapolated_from-requires
extrapolated_from-requires c =
    let r = c.requires.ready in
    let p = c.requires.points in
    record { points = (p.0, open_fan r.vertices c.args.mesh.faces.now r.net c.args.s _ c.gather.ensures p.1, fan_in r.vertices c.args.mesh.faces.now r.net c.args.s _ c.gather.ensures c.args.points.now p.0) }
