-- `four_inner` meets its contract. Assumes nothing.
use mathlib.Core.Path.{◌∙◌}
use Rattle.topology.proofs.Shape.{quads_lawful}
use Rattle.pointletters.proofs.FaceLetter.{four_yes, four_no, across_lt}
use Rattle.pointletters.proofs.four_inner.Goals as goal

pub inner_twice-requires-then-inner_twice : goal.inner_twice-requires-then-inner_twice
inner_twice-requires-then-inner_twice c = across_lt _ _ _ (quads_lawful _ c.args.mesh.connectivity.sides.fours) c.requires c.across_side.ensures

pub returns-then-inner_twice : goal.returns-then-inner_twice
returns-then-inner_twice c = four_yes _ _ _ _ _ c.across_side.ensures c.inner_twice.ensures c.if-inner_twice.true c.inner_twice-then-inner_twice.ensures

pub returns-else-inner_twice : goal.returns-else-inner_twice
returns-else-inner_twice c = c.if-inner_twice.false ∙ four_no _ _ _ c.inner_twice.ensures c.if-inner_twice.false
