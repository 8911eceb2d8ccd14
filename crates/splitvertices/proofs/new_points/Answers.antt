-- `new_points` meets its contract. Assumes nothing.
use mathlib.Core.Path.{ap}
use Prim.Native.Nat.{ℕ, ◌+◌}
use native.Mathlib.Omega.{arith}
use lib.ListN.{length}
use Rattle.splitvertices.proofs.Passes.{splittable_kept, made_again, made_then, made_all}
use Rattle.splitvertices.proofs.new_points.Goals as goal

pub face_points-requires-clause-splittable : goal.face_points-requires-clause-splittable
face_points-requires-clause-splittable c =
    let e = c.edge_points-edges.ensures in
    let i : ℕ = c.args.v + c.edge_points-edges.result in splittable_kept c.args.sides.now c.args.faces.now c.args.v c.args.points.now c.requires.splittable _ i (omega arith) e.made

pub face_points-requires-clause-made : goal.face_points-requires-clause-made
face_points-requires-clause-made c =
    let e = c.edge_points-edges.ensures in
    let i : ℕ = c.args.v + c.edge_points-edges.result in made_again c.args.sides.now c.args.faces.now c.args.v c.args.points.now c.requires.splittable _ i (omega arith) e.made

pub returns : goal.returns
returns c =
    let e = c.edge_points-edges.ensures in
    let i : ℕ = c.args.v + c.edge_points-edges.result in
    made_all c.args.sides.now c.args.faces.now c.args.v c.args.points.now c.requires.splittable _ (i + length c.args.sides.now)
    (ap (λ (k : ℕ). c.args.v + k + length c.args.sides.now) e.value)
    (made_then c.args.sides.now c.args.faces.now c.args.v c.args.points.now c.requires.splittable _ i (omega arith) e.made _ (i + length c.args.sides.now) (omega arith) c.face_points.ensures)
