-- The rules of edges in code and in the definitions.
use Rattle.scheme.specs.Points as points
use Rattle.edgerules.specs.declared.EdgeRule.{EdgeRule}
use Rattle.edgerules.specs.declared.EdgeRule.TheVariants.{InsideSegment, StartOfSegment, EndOfSegment, WholeSegment, InnerRule}

-- the rule of the definitions that each one is
unfoldable pub rule_of : EdgeRule → points.EdgeRule
rule_of InsideSegment = points.inside_segment
rule_of StartOfSegment = points.start_of_segment
rule_of EndOfSegment = points.end_of_segment
rule_of WholeSegment = points.whole_segment
rule_of InnerRule = points.inner_rule
