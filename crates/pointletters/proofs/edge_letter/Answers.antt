-- `edge_letter` meets its contract, by the rule of the edge. Assumes nothing.
use mathlib.Core.Path.{◌≡◌, sym, ap, ◌∙◌}
use mathlib.Core.List.{List}
use Prim.Native.Nat.{ℕ}
use Rattle.scheme.specs.Points as points
use Rattle.edgerules.specs.declared.EdgeRule.{EdgeRule}
use Rattle.edgerules.specs.Rule.{rule_of}
use Rattle.origins.specs.Origins.{made_by, letter_of, edge_case}
use Rattle.pointletters.proofs.edge_letter.Goals as goal

letter_is : (l marks : List ℕ) (h : ℕ) (u r : EdgeRule) → rule_of u ≡ points.edge_rule l marks h → u ≡ r → letter_of (made_by (edge_case (rule_of r))) ≡ letter_of (made_by (edge_case (points.edge_rule l marks h)))
letter_is l marks h u r e k = ap (λ (x : points.EdgeRule). letter_of (made_by (edge_case x))) (ap rule_of (sym k) ∙ e)

pub returns-in-InnerRule : goal.returns-in-InnerRule
unfolding rule_of
returns-in-InnerRule c = letter_is _ _ _ _ _ c.edge_rule.ensures c.in-InnerRule.is

pub returns-in-InsideSegment : goal.returns-in-InsideSegment
unfolding rule_of
returns-in-InsideSegment c = letter_is _ _ _ _ _ c.edge_rule.ensures c.in-InsideSegment.is

pub returns-in-WholeSegment : goal.returns-in-WholeSegment
unfolding rule_of
returns-in-WholeSegment c = letter_is _ _ _ _ _ c.edge_rule.ensures c.in-WholeSegment.is

pub returns-in-StartOfSegment : goal.returns-in-StartOfSegment
unfolding rule_of
returns-in-StartOfSegment c = letter_is _ _ _ _ _ c.edge_rule.ensures c.in-StartOfSegment.is

pub returns-in-EndOfSegment : goal.returns-in-EndOfSegment
unfolding rule_of
returns-in-EndOfSegment c = letter_is _ _ _ _ _ c.edge_rule.ensures c.in-EndOfSegment.is
