-- `name_sides` meets its contract: what the sides below k touch is put right. Assumes nothing.
use Rattle.letters.specs.Letters.{Corrected}
use Rattle.letters.proofs.name_sides.Given as goal

abbrev pub invariant-loop-k : goal.invariant-loop-k
invariant-loop-k l = Corrected l.mesh.faces.now l.marks l.h l.k l.initial.letters l.letters
