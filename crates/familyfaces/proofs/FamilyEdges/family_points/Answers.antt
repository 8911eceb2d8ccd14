-- `family_points` meets its contract. Assumes nothing.
use mathlib.Core.Path.{refl}
use Prim.Native.Nat.{◌+◌}
use native.Mathlib.Omega.{arith}
use Rattle.topology.specs.Shape.{quads}
use Rattle.familyfaces.specs.Family.{put_family}
use Rattle.familyfaces.proofs.Family.{face_of}
use Rattle.familyfaces.proofs.FamilyEdges.family_points.Goals as goal

pub family_face-requires-clause-face : goal.family_face-requires-clause-face
unfolding quads
family_face-requires-clause-face c = face_of _ _ c.args.f c.requires.sides.1 c.requires.sides.0 c.requires.room.0 (c.args.f + 3) _ (omega arith) (omega arith) (let s = c.requires.sides.1 in omega arith)

pub family_face-requires-2-clause-face : goal.family_face-requires-2-clause-face
unfolding quads
family_face-requires-2-clause-face c = face_of _ _ c.args.f c.requires.sides.1 c.requires.sides.0 c.requires.room.0 (c.args.f + 2) _ (omega arith) (omega arith) (let s = c.requires.sides.1 in omega arith)

pub family_face-requires-3-clause-face : goal.family_face-requires-3-clause-face
unfolding quads
family_face-requires-3-clause-face c = face_of _ _ c.args.f c.requires.sides.1 c.requires.sides.0 c.requires.room.0 (c.args.f + 1) _ (omega arith) (omega arith) (let s = c.requires.sides.1 in omega arith)

pub family_face-requires-4-clause-face : goal.family_face-requires-4-clause-face
unfolding quads
family_face-requires-4-clause-face c = face_of _ _ c.args.f c.requires.sides.1 c.requires.sides.0 c.requires.room.0 c.args.f _ (omega arith) (omega arith) (let s = c.requires.sides.1 in omega arith)

pub returns : goal.returns
unfolding put_family
returns c =
    let x₁ = c.family_face.ensures in
    let x₂ = c.family_face-2.ensures in
    let x₃ = c.family_face-3.ensures in
    let x₄ = c.family_face-4.ensures in
    rw (x₄, x₃, x₂, x₁) refl
