-- `edge_count` meets its contract: the edges that are first met below h are counted. Assumes nothing.
use mathlib.Core.Path.{refl, ap, ◌∙◌}
use Prim.Native.Nat.{◌+◌}
use native.Mathlib.Omega.{arith}
use Rattle.search.specs.Search.{count}
use Rattle.search.proofs.Count.{count-le}
use Rattle.edgenumbers.specs.Edges.{met_by, edge_count_by}
use Rattle.growth.proofs.Edges.{count_next}
use Rattle.growth.proofs.edge_count.Goals as goal

pub loop-h-init : goal.loop-h-init
unfolding count
loop-h-init c = refl

pub overflow_add-edges : goal.overflow_add-edges
overflow_add-edges c =
    let r = c.from-edges.ensures in
    omega (arith, count_next c.args.mates.now c.loop-h.h, count-le (met_by c.args.mates.now) (c.loop-h.h + 1), c.requires)

pub loop-h-preserved : goal.loop-h-preserved
loop-h-preserved c = let r = c.from-edges.ensures in omega (arith, count_next c.args.mates.now c.loop-h.h)

pub returns : goal.returns
unfolding edge_count_by
returns c = c.loop-h.invariant ∙ ap (count (met_by c.args.mates.now)) (omega arith)
