-- `face_points` meets its contract: the means of the faces below f are made, and face f begins at a. Assumes nothing.
use mathlib.Core.Path.{◌≡◌, refl, sym, ap, ◌∙◌, subst}
use Prim.Native.Nat.{ℕ, ◌+◌, ◌<◌}
use native.Mathlib.Omega.{arith}
use lib.ListN.{length, get_or}
use Rattle.topology.specs.HalfEdge.{edge_count}
use Rattle.polygons.specs.Polygons.{shape_of, total}
use Rattle.polygons.proofs.Counts.{total_next}
use Rattle.splitpoints.specs.Points.{Corners}
use Rattle.splitvertices.specs.Passes.{Made}
use Rattle.splitvertices.proofs.Passes.{face_corners, face_room, face_made}
use Rattle.splitvertices.proofs.face_points.Goals as goal
use Rattle.splitvertices.proofs.face_points.Goals.{In-loop-f}

-- the corners of face f, and the number of its point
corners : (c : In-loop-f) → Corners c.loop-f.points c.args.faces.now c.loop-f.a (get_or c.args.sides.now c.loop-f.f 0)
corners c =
    face_corners c.args.sides.now c.args.faces.now c.args.v c.args.points.now c.requires.splittable c.loop-f.points (c.args.v + c.args.edges + c.loop-f.f) (omega arith) c.loop-f.invariant.1 c.loop-f.f _ _ (omega arith) c.loop-f.invariant.0 refl

number : (c : In-loop-f) → c.args.v + c.args.edges + c.loop-f.f ≡ c.args.v + edge_count (shape_of c.args.sides.now) c.args.faces.now + c.loop-f.f
number c = let e = c.requires.edges_value in omega arith

pub loop-f-init : goal.loop-f-init
unfolding total
loop-f-init c =
    let p = c.args.points.now in
    let z : c.args.v + c.args.edges ≡ c.args.v + c.args.edges + 0 = omega arith in
    (refl, subst (Made c.args.sides.now c.args.faces.now c.args.v p p) z c.requires.made)

pub put_mean-requires-clause-i_in_bounds : goal.put_mean-requires-clause-i_in_bounds
put_mean-requires-clause-i_in_bounds c =
    let e = number (goal.at.put_mean-requires-clause-i_in_bounds c).In-loop-f in
    face_room c.args.sides.now c.args.faces.now c.args.v c.args.points.now c.requires.splittable c.loop-f.points (c.args.v + c.args.edges + c.loop-f.f) (omega arith) c.loop-f.invariant.1 c.loop-f.f (omega arith) e

pub put_mean-requires-clause-corners : goal.put_mean-requires-clause-corners
put_mean-requires-clause-corners c = corners (goal.at.put_mean-requires-clause-corners c).In-loop-f

pub overflow_add-a : goal.overflow_add-a
overflow_add-a c = let k = corners (goal.at.overflow_add-a c).In-loop-f in omega arith

pub loop-f-preserved : goal.loop-f-preserved
loop-f-preserved c =
    let i = c.loop-f.invariant in
    let f = c.loop-f.f in
    let b : f < length c.args.sides.now = omega arith in
    let e = number (goal.at.loop-f-preserved c).In-loop-f in
    let z : c.args.v + c.args.edges + f + 1 ≡ c.args.v + c.args.edges + (f + 1) = omega arith in (
      ap (λ (a : ℕ). a + get_or c.args.sides.now f 0) i.0 ∙ sym (total_next c.args.sides.now f b),
      subst (Made c.args.sides.now c.args.faces.now c.args.v c.args.points.now _) z
          (face_made c.args.sides.now c.args.faces.now c.args.v c.args.points.now c.requires.splittable c.loop-f.points (c.args.v + c.args.edges + f) (omega arith) i.1 _ f _ _ b e i.0 refl c.put_mean.ensures),
    )
