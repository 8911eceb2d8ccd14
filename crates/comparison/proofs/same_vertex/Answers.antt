-- `same_vertex` meets its contract: three axes and the marks, joined. Assumes nothing.
use mathlib.Core.Path.{◌≡◌, refl, sym, ◌∙◌}
use mathlib.Core.Bool.{Bool, true, false, ◌&&◌, beq}
use Rattle.nets.specs.Net.{marked}
use Rattle.seamtest.specs.SeamTest.{same, same_axis, same_vertex}
use Rattle.comparison.proofs.same_vertex.Goals as goal
use Rattle.comparison.proofs.same_vertex.Goals.{then-same_axis, else-same_axis, then-same_axis-2, else-same_axis-2, Joined-same_axis-2}

passed : (x y v : Bool) → x ≡ true → v ≡ y → v ≡ x && y
passed x y v t e = rw t e

failed : (x y v : Bool) → x ≡ false → v ≡ false → v ≡ x && y
failed x y v f e = rw f e

as_same : (x y : Bool) → beq x y ≡ same x y
as_same true true = refl
as_same true false = refl
as_same false true = refl
as_same false false = refl

all_agree : (x y z m v : Bool) → v ≡ (x && y) && z → v ≡ true → m ≡ x && (y && (z && m))
all_agree true true true m v e t = refl
all_agree true true false m v e t = cc
all_agree true false z m v e t = cc
all_agree false y z m v e t = cc

one_differs : (x y z m v : Bool) → v ≡ (x && y) && z → v ≡ false → v ≡ x && (y && (z && m))
one_differs true true true m v e f = cc
one_differs true true false m v e f = e
one_differs true false z m v e f = e
one_differs false y z m v e f = e

axes : (c : Joined-same_axis-2) → let x = same_axis c.args.a.vertices.now c.args.u c.args.b.vertices.now c.args.v in c.if-same_axis-2.value ≡ (x 0 && x 1) && x 2
axes c =
    let x = same_axis c.args.a.vertices.now c.args.u c.args.b.vertices.now c.args.v in
    let two : c.if-same_axis.value ≡ x 0 && x 1 = elim c.if-same_axis.branch [
      | then-same_axis w ↦ passed (x 0) (x 1) c.if-same_axis.value (sym c.same_axis.ensures ∙ w.if-same_axis.true) (w.value-is ∙ w.same_axis-then-same_axis.ensures)
      | else-same_axis w ↦ failed (x 0) (x 1) c.if-same_axis.value (sym c.same_axis.ensures ∙ w.if-same_axis.false) (w.value-is ∙ w.if-same_axis.false)
    ] in
    elim c.if-same_axis-2.branch [
      | then-same_axis-2 w ↦ passed (x 0 && x 1) (x 2) c.if-same_axis-2.value (sym two ∙ w.if-same_axis-2.true) (w.value-is ∙ w.same_axis-then-same_axis-2.ensures)
      | else-same_axis-2 w ↦ failed (x 0 && x 1) (x 2) c.if-same_axis-2.value (sym two ∙ w.if-same_axis-2.false) (w.value-is ∙ w.if-same_axis-2.false)
    ]

pub returns-then-same_axis-3 : goal.returns-then-same_axis-3
unfolding same_vertex marked
returns-then-same_axis-3 c =
    let x = same_axis c.args.a.vertices.now c.args.u c.args.b.vertices.now c.args.v in
    as_same _ _ ∙ all_agree (x 0) (x 1) (x 2) _ _ (axes (goal.at.returns-then-same_axis-3 c).Joined-same_axis-2) c.if-same_axis-3.true

pub returns-else-same_axis-3 : goal.returns-else-same_axis-3
unfolding same_vertex marked
returns-else-same_axis-3 c =
    let x = same_axis c.args.a.vertices.now c.args.u c.args.b.vertices.now c.args.v in
    one_differs (x 0) (x 1) (x 2) _ _ (axes (goal.at.returns-else-same_axis-3 c).Joined-same_axis-2) c.if-same_axis-3.false
