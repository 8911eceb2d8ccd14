-- `name_boundary` meets its contract: what the half-edges below 4f touch is put right. Assumes nothing.
use Prim.Native.Nat.{◌*◌}
use Rattle.letters.specs.Letters.{Corrected}
use Rattle.letters.proofs.name_boundary.Given as goal

abbrev pub invariant-loop-f : goal.invariant-loop-f
invariant-loop-f l = Corrected l.mesh.faces.now l.marks 0 (4 * l.f) l.initial.letters l.letters
