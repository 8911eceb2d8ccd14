-- `face_letter` meets its contract. Assumes nothing.
use mathlib.Core.Path.{refl, sym, ◌∙◌}
use mathlib.Core.Bool.{true, false}
use native.Mathlib.Omega.{arith}
use Rattle.topology.specs.Shape.{quads}
use Rattle.pointletters.proofs.FaceLetter.{face_by_lem}
use Rattle.pointletters.proofs.face_letter.Goals as goal

pub overflow_mul-f : goal.overflow_mul-f
unfolding quads
overflow_mul-f c = omega arith

pub four_inner-requires : goal.four_inner-requires
unfolding quads
four_inner-requires c = omega arith

pub returns-then-four_inner : goal.returns-then-four_inner
returns-then-four_inner c =
    sym (face_by_lem c.args.mesh.faces.now c.args.f true _ (sym c.four_inner.ensures ∙ c.if-four_inner.true) refl)

pub overflow_mul-f-2 : goal.overflow_mul-f-2
unfolding quads
overflow_mul-f-2 c = omega arith

pub overflow_add-f : goal.overflow_add-f
unfolding quads
overflow_add-f c = omega arith

pub four_inner-requires-2 : goal.four_inner-requires-2
unfolding quads
four_inner-requires-2 c = omega arith

pub returns-then-four_inner-2 : goal.returns-then-four_inner-2
returns-then-four_inner-2 c =
    sym (face_by_lem c.args.mesh.faces.now c.args.f false true (sym c.four_inner.ensures ∙ c.if-four_inner.false) (sym c.four_inner-2.ensures ∙ c.if-four_inner-2.true))

pub returns : goal.returns
returns c =
    sym (face_by_lem c.args.mesh.faces.now c.args.f false false (sym c.four_inner.ensures ∙ c.if-four_inner.false) (sym c.four_inner-2.ensures ∙ c.if-four_inner-2.false))
