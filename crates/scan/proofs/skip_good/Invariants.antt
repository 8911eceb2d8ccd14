-- `scan::skip_good` meets its contract: the faces before f are good. Assumes nothing.
use Prim.Native.Nat.{◌*◌}
use Rattle.topology.specs.Shape.{quads}
use Rattle.scan.specs.Good.{GoodBefore}
use Rattle.scan.proofs.skip_good.Given as goal

abbrev pub invariant-loop-f : goal.invariant-loop-f
invariant-loop-f l = GoodBefore quads l.nv l.faces (4 * l.f)
