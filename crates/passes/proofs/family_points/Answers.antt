-- `family_points` meets its contract: by families or side by side. Assumes nothing.
use native.Mathlib.Omega.{arith}
use Rattle.edgetable.proofs.EdgeTable.{classed_of}
use Rattle.familyedges.proofs.PlainFamily.{plain_later}
use Rattle.passes.proofs.EdgePass.{whole, going, turn_of}
use Rattle.passes.proofs.family_points.Goals as goal

pub plain_family-requires : goal.plain_family-requires
plain_family-requires c =
    let r = c.requires.after_round in
    let z = whole c.args.faces.now r.0 in
    let u = turn_of _ _ _ _ _ _ _ _ _ c.requires.underway r.2 in
    (u.ready.table, classed_of _ _ _ _ _ u.marked u.classes, omega arith)

pub family_edges-requires : goal.family_edges-requires
family_edges-requires c =
    let r = c.requires.after_round in
    (going _ _ _ _ _ _ _ _ _ c.requires.underway, plain_later c.args.faces.now r.0 c.args.h r.1 r.2 (c.plain_family.ensures c.if-plain_family.true))

pub side_points-requires-clause-end_in_bounds : goal.side_points-requires-clause-end_in_bounds
side_points-requires-clause-end_in_bounds c =
    let r = c.requires.after_round in
    let z = whole c.args.faces.now r.0 in
    (omega arith, omega arith)
