-- `edge_rule` meets its contract, by cases. Assumes nothing.
use mathlib.Core.Path.{◌≡◌, sym, ap, ◌∙◌}
use mathlib.Core.Bool.{Bool, true, false, cond}
use mathlib.Core.List.{List}
use Prim.Native.Nat.{ℕ, ◌≤◌}
use native.Mathlib.Omega.{arith}
use lib.ListN.{length}
use Rattle.topology.specs.Shape.{quads}
use Rattle.topology.specs.HalfEdge.{from, to, mate}
use Rattle.nets.specs.Net.{marked}
use Rattle.scheme.specs.Points.{inside_segment, start_of_segment, end_of_segment, whole_segment, edge_rule}
use Rattle.edgerules.specs.Rule.{rule_of}
use Rattle.edgerules.proofs.Rule.{rule_inner, rule_boundary}
use Rattle.edgerules.proofs.edge_rule.Goals as goal

pub returns-then-m-faces : goal.returns-then-m-faces
unfolding rule_of
returns-then-m-faces c =
    let e = c.requires.quadrilaterals.2 in
    let b = c.if-m-faces.true in
    sym (rule_inner c.args.faces.now c.args.marks.now c.args.h (omega arith))

-- on the boundary, with b and d the marks of the ends p and q
by_marks : (l marks : List ℕ) (h m p q : ℕ) (b d : Bool) → m ≡ mate quads l h → length l ≤ m → p ≡ from l h → q ≡ to quads l h → b ≡ marked marks p → d ≡ marked marks q
    → cond b (cond d whole_segment start_of_segment) (cond d end_of_segment inside_segment) ≡ edge_rule l marks h
by_marks l marks h m p q b d em none ep eq eb ed =
    sym (rule_boundary l marks h b d (omega arith) (ap (marked marks) (sym ep) ∙ sym eb) (ap (marked marks) (sym eq) ∙ sym ed))

pub returns-in-true-true : goal.returns-in-true-true
unfolding rule_of
returns-in-true-true c = by_marks _ _ _ _ _ _ true true c.requires.quadrilaterals.2 c.if-m-faces.false c.start_of.ensures c.end_of.ensures c.in-true-true.ensures c.in-true-true.ensures'

pub returns-in-true-false : goal.returns-in-true-false
unfolding rule_of
returns-in-true-false c = by_marks _ _ _ _ _ _ true false c.requires.quadrilaterals.2 c.if-m-faces.false c.start_of.ensures c.end_of.ensures c.in-true-false.ensures c.in-true-false.ensures'

pub returns-in-false-true : goal.returns-in-false-true
unfolding rule_of
returns-in-false-true c = by_marks _ _ _ _ _ _ false true c.requires.quadrilaterals.2 c.if-m-faces.false c.start_of.ensures c.end_of.ensures c.in-false-true.ensures c.in-false-true.ensures'

pub returns-in-false-false : goal.returns-in-false-false
unfolding rule_of
returns-in-false-false c = by_marks _ _ _ _ _ _ false false c.requires.quadrilaterals.2 c.if-m-faces.false c.start_of.ensures c.end_of.ensures c.in-false-false.ensures c.in-false-false.ensures'
