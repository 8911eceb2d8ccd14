-- `face_rule` meets its contract, by cases. Assumes nothing.
use mathlib.Core.Path.{sym}
use mathlib.Core.Bool.{true, false}
use Rattle.facerules.proofs.Directions.{rule_is}
use Rattle.facerules.proofs.RoundEdges.face_rule.Goals as goal

pub returns-in-true-true : goal.returns-in-true-true
returns-in-true-true c = sym (rule_is _ _ _ true true (sym c.in-true-true.ensures) (sym c.in-true-true.ensures'))

pub returns-in-true-false : goal.returns-in-true-false
returns-in-true-false c = sym (rule_is _ _ _ true false (sym c.in-true-false.ensures) (sym c.in-true-false.ensures'))

pub returns-in-false-true : goal.returns-in-false-true
returns-in-false-true c = sym (rule_is _ _ _ false true (sym c.in-false-true.ensures) (sym c.in-false-true.ensures'))

pub returns-in-false-false : goal.returns-in-false-false
returns-in-false-false c = sym (rule_is _ _ _ false false (sym c.in-false-false.ensures) (sym c.in-false-false.ensures'))
