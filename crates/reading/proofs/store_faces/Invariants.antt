-- `reading::store_faces` meets its contract. Assumes nothing.
use Prim.Native.Nat.{◌*◌, ◌≤◌}
use lib.ListN.{length}
use Rattle.textform.specs.Form.{read_face}
use Rattle.readingform.specs.Loaded.{corners_of}
use Rattle.reading.proofs.Storing.{Filling}
use Rattle.reading.proofs.store_faces.Given as goal

abbrev pub invariant-loop-i : goal.invariant-loop-i
invariant-loop-i l = (l.at ≤ length l.text) × Filling corners_of read_face l.count l.text l.initial.faces l.faces (4 * l.i) l.i l.at
