-- `count_ring_sizes` meets its contract: the half-edges below h are counted. Assumes nothing.
use Prim.Native.Nat.{◌+◌}
use Rattle.tables.specs.Tables.{SameOutside}
use Rattle.ringsizes.specs.Classes.{CountedBelow}
use Rattle.classes.proofs.count_ring_sizes.Given as goal

abbrev pub invariant-loop-h : goal.invariant-loop-h
invariant-loop-h l = CountedBelow l.v l.at l.faces l.work l.h × SameOutside l.at (l.at + l.v) l.initial.work l.work
