-- `inner_twice` meets its contract. Assumes nothing.
use mathlib.Core.Path.{◌∙◌}
use borrow.Author.Tests.{le-ltb}
use native.Mathlib.Omega.{arith}
use Rattle.topology.proofs.Shape.{quads_lawful}
use Rattle.pointletters.proofs.FaceLetter.{not_mated, mated, across_lt}
use Rattle.pointletters.proofs.inner_twice.Goals as goal

pub mate-requires : goal.mate-requires
mate-requires c = across_lt _ _ _ (quads_lawful _ c.args.mesh.connectivity.sides.fours) (omega (arith, c.half_edges-n.ensures, c.if-m-n.true)) c.across_side.ensures

pub returns-then-m-n : goal.returns-then-m-n
returns-then-m-n c = rw c.half_edges-n.ensures (mated _ _ _ _ _ c.mate-m.ensures (omega (arith, c.half_edges-n.ensures, c.if-m-n.true)) c.across_side.ensures c.mate.ensures)

pub returns-else-m-n : goal.returns-else-m-n
returns-else-m-n c = le-ltb _ _ c.if-m-n.false ∙ not_mated _ _ _ c.mate-m.ensures (omega (arith, c.half_edges-n.ensures, c.if-m-n.false))
