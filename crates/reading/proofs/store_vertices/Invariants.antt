-- `reading::store_vertices` meets its contract. Assumes nothing.
use Prim.Native.Nat.{◌*◌, ◌≤◌}
use lib.ListN.{length}
use Rattle.textform.specs.Form.{read_vertex}
use Rattle.readingform.specs.Loaded.{coordinates_of, marks_of}
use Rattle.reading.proofs.Storing.{Filling}
use Rattle.reading.proofs.store_vertices.Given as goal

abbrev pub invariant-loop-i : goal.invariant-loop-i
invariant-loop-i l =
    (l.at ≤ length l.text)
    × Filling coordinates_of (read_vertex l.marked) l.count l.text l.initial.vertices l.vertices (3 * l.i) l.i l.at
    × Filling marks_of (read_vertex l.marked) l.count l.text l.initial.marks l.marks l.i l.i l.at
