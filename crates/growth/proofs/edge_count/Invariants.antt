-- `edge_count` meets its contract: the edges that are first met below h are counted. Assumes nothing.
use mathlib.Core.Path.{◌≡◌}
use Rattle.search.specs.Search.{count}
use Rattle.edgenumbers.specs.Edges.{met_by}
use Rattle.growth.proofs.edge_count.Given as goal

abbrev pub invariant-loop-h : goal.invariant-loop-h
invariant-loop-h l = l.edges ≡ count (met_by l.mates) l.h
