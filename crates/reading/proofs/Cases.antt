-- The outcome of each case of reading a net, by any parser. Assumes nothing.
use mathlib.Core.Path.{◌≡◌}
use mathlib.Core.List.{List, []}
use Prim.Native.Nat.{ℕ, ◌-◌, ◌≤◌}
use native.Mathlib.Omega.{arith}
use lib.IntN.{ℤ}
use lib.ListN.{length, take, drop}
use lib.Seq.{sets}
use borrow.Author.Tests.{le-ltb}
use Rattle.verdict.specs.Verdict.{accepted, refused}
use Rattle.textform.specs.Limits.{longest_text}
use Rattle.textform.specs.Form.{TextNet, rows, read_vertex, read_face, Parsed, parsed, parse}
use Rattle.readingform.specs.Loaded.{net_read, net_refused, loaded, stored, coordinates_of, marks_of, corners_of, counts_verdict, read_by}
use Rattle.reading.specs.declared.Form.{Form}
use Rattle.reading.specs.Answers.{head_is, net_in, VerticesStored, InputTables}
use Rattle.textform.proofs.Lines.{rows_length}
use Rattle.readingform.proofs.Limits.{Served, passed_served}
use Rattle.readingform.proofs.Lengths.{length_coordinates, length_marks, length_corners}
use Rattle.reading.proofs.Storing.{placed}

-- the text has the form and writes n
pub record FormRead (parser : List ℕ → Parsed TextNet) (text : List ℕ) (n : TextNet) : Type 0 where
  pub short : length text ≤ longest_text
  pub form : parsed n [] ≡ parser text

module _ {parser : List ℕ → Parsed TextNet} {text : List ℕ} {n : TextNet} (c : FormRead parser text n) (vs : List ℤ) (fs ms : List ℕ) where
  pub counts_refused : {r p : ℕ} → counts_verdict n.counts ≡ refused r p → loaded (net_refused r p) vs fs ms ≡ read_by parser text vs fs ms
  unfolding read_by
  counts_refused e = rw (le-ltb longest_text (length text) c.short, ← c.form, e)

  pub net_there : counts_verdict n.counts ≡ accepted → stored vs fs ms n ≡ read_by parser text vs fs ms
  unfolding read_by
  net_there e = rw (le-ltb longest_text (length text) c.short, ← c.form, e)

-- the lines of that net start where f says
module _ (text : List ℕ) (f : Form) (c : FormRead parse text (net_in text f)) (passed : counts_verdict (head_is f.head).counts ≡ accepted) where
  pub tables_serve : Served f.head.counts.vertices f.head.counts.faces
  tables_serve = passed_served (head_is f.head).counts passed

  pub net_read_lem : (vs : List ℤ) (fs ms : List ℕ) → InputTables (length vs) (length fs) (length ms) → {u : List ℤ} {g o : List ℕ}
      → VerticesStored (rows (read_vertex f.head.marks) f.head.counts.vertices (take (length text - f.vertices_at) (drop f.vertices_at text))).values vs u ms o
      → g ≡ sets fs 0 (corners_of (rows read_face f.head.counts.faces (take (length text - f.faces_at) (drop f.faces_at text))).values)
      → loaded (net_read f.head.counts.rounds f.head.rule f.head.counts.vertices f.head.counts.faces) u g o ≡ read_by parse text vs fs ms
  net_read_lem vs fs ms room w e =
      let t = tables_serve in
      let i : ℕ = f.vertices_at in
      let j : ℕ = f.faces_at in
      let v : ℕ = f.head.counts.vertices in
      let n : ℕ = f.head.counts.faces in
      let b = f.head.marks in
      let vertices = rows_length (read_vertex b) v (drop i text) in
      let faces = rows_length read_face n (drop j text) in
      let lv = length_coordinates (rows (read_vertex b) v (drop i text)).values in
      let lm = length_marks (rows (read_vertex b) v (drop i text)).values in
      let lf = length_corners (rows read_face n (drop j text)).values in
      let eu = placed coordinates_of (read_vertex b) v text i vs w.table (omega arith) in
      let eo = placed marks_of (read_vertex b) v text i ms w.marks (omega arith) in
      let eg = placed corners_of read_face n text j fs e (omega arith) in
      rw (eu, eo, eg) (net_there c vs fs ms passed)
