-- `build_chains` meets its contract: the half-edges from h on are chained. Assumes nothing.
use Prim.Native.Nat.{◌*◌}
use lib.ListN.{length}
use Rattle.tables.specs.Tables.{SameOutside}
use Rattle.adjacency.specs.Chains.{Chained}
use Rattle.adjacency.proofs.build_chains.Given as goal

abbrev pub invariant-loop-h : goal.invariant-loop-h
invariant-loop-h l = Chained l.faces l.work l.h × SameOutside (length l.faces) (3 * length l.faces) l.initial.work l.work
