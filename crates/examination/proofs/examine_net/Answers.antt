-- `examination::examine_net` meets its contract: the coordinates, then the shape. Assumes nothing.
use mathlib.Core.Path.{refl}
use Prim.Native.Nat.{◌/◌}
use lib.ListN.{length}
use Rattle.verdict.specs.Verdict.{bad_coordinate, coordinates_verdict, net_verdict}
use Rattle.examination.proofs.Laws.{hit_at, pass_at, refused_here}
use Rattle.examination.proofs.examine_net.Goals as goal

pub returns-in-Some : goal.returns-in-Some
unfolding net_verdict coordinates_verdict
returns-in-Some c =
    let vs = c.args.net.vertices.now in
    refused_here _ c.args.net.sides.now c.args.net.faces.now c.args.work.now _ _ (hit_at 5 (bad_coordinate vs) (length vs) (λ i. i / 3) _ _ c.in-Some.ensures) refl

pub returns : goal.returns
unfolding net_verdict coordinates_verdict
returns c =
    let vs = c.args.net.vertices.now in
    let e = c.examine_shape.ensures in
    record { verdict = pass_at 5 (bad_coordinate vs) (length vs) (λ i. i / 3) _ _ c.in_default.ensures e.verdict; mated = e.mated; rest = e.rest }
