-- `printing::put_vertices` meets its contract. Assumes nothing.
use Prim.Native.Nat.{◌+◌, ◌*◌}
use Rattle.textform.specs.Text.{lettered_text, texts}
use Rattle.printingform.specs.Tables.{lettered_of, end_room}
use Rattle.printingform.specs.Lines.{Printed}
use Rattle.printing.proofs.put_vertices.Given as goal

-- the first i lines are printed
abbrev pub invariant-loop-i : goal.invariant-loop-i
invariant-loop-i l = Printed l.initial.out l.out l.at l.to (texts (lettered_text l.rule) (lettered_of l.i l.vertices l.marks l.letters)) ((39 + end_room l.rule) * l.i)
