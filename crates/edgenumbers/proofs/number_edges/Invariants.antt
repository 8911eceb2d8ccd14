-- `number_edges` meets its contract: the edges of the half-edges below h are numbered. Assumes nothing.
use mathlib.Core.Path.{◌≡◌}
use mathlib.Core.List.{◌++◌}
use Prim.Native.Nat.{◌+◌}
use lib.ListN.{take, drop}
use Rattle.search.specs.Search.{count}
use Rattle.edgenumbers.specs.Edges.{met_by, with_edges}
use Rattle.edgenumbers.proofs.number_edges.Given as goal

abbrev pub invariant-loop-h : goal.invariant-loop-h
invariant-loop-h l = (l.work ≡ take (l.n + l.h) (with_edges (take l.n l.initial.work)) ++ drop (l.n + l.h) l.initial.work) × (l.edges ≡ count (met_by (take l.n l.initial.work)) l.h)
