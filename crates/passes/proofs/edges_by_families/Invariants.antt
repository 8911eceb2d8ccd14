-- `edges_by_families` meets its contract: the families below p are done. Assumes nothing.
use Prim.Native.Nat.{◌*◌}
use Rattle.familylines.specs.Steps.{Carries}
use Rattle.passes.proofs.edges_by_families.Given as goal

abbrev pub invariant-loop-p : goal.invariant-loop-p
invariant-loop-p l = Carries l.t l.faces l.marks 0 0 (16 * l.p) l.edges l.initial.points l.initial.work l.points l.work
