-- `printing::put_faces` meets its contract. Assumes nothing.
use Prim.Native.Nat.{◌*◌}
use Rattle.textform.specs.Text.{face_text, texts}
use Rattle.printingform.specs.Tables.{faces_of}
use Rattle.printingform.specs.Lines.{Printed}
use Rattle.printing.proofs.put_faces.Given as goal

-- the first i lines are printed
abbrev pub invariant-loop-i : goal.invariant-loop-i
invariant-loop-i l = Printed l.initial.out l.out l.at l.to (texts face_text (faces_of l.i l.faces)) (44 * l.i)
