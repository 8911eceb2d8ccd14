-- What the answers of the two passes say of a text l.
use Rattle.std.specs.Prelude.{◌≡◌, List, [], ℕ, ◌*◌, ◌≤◌, ℤ, length, drop, Option, Some, None, Result, Ok, Err, IfOk, IfSome}
use Rattle.std.proofs.lemmas.List.Edits.{sets}
use Rattle.decimalform.specs.Decimal.{Read, read_as, bad}
use Rattle.decimal.specs.declared.Read as declared
use Rattle.textform.specs.Limits.{program_vertices, program_faces}
use Rattle.textform.specs.Form as form
use Rattle.textform.specs.Form.{Vertex, TextNet, Rows, rows, read_vertex, read_face, Parsed, parsed, bad_line, parse_head, parse_body, parse}
use Rattle.text.specs.Answers.{counts_is}
use Rattle.reasons.specs.Reasons.{number}
use Rattle.reasons.specs.declared.Refusal.{Refusal}
use Rattle.readingform.specs.Loaded.{ReadAnswer, net_read, net_refused, coordinates_of, marks_of}
use Rattle.reading.specs.declared.Block.{Block}
use Rattle.reading.specs.declared.Head.{Head}
use Rattle.reading.specs.declared.Form.{Form}
use Rattle.reading.specs.declared.Input.{Input}

-- ---- lines that are counted

-- the line at the front of l takes r bytes, or has not the form: what it says is not asked
abbrev pub line_of : Option ℕ → List ℕ → Read (Unit {0})
line_of (Some n) l = read_as tt (drop n l)
line_of None l = bad

-- what a line says, but that it is good, is not asked
abbrev pub forgotten : {A : Type 0} → Read A → Read (Unit {0})
forgotten (read_as v l) = read_as tt l
forgotten bad = bad

abbrev pub bare : {A : Type 0} → (List ℕ → Read A) → List ℕ → Read (Unit {0})
bare read l = forgotten (read l)

-- the same, with no more bytes than l has
pub record TakesLine (r : Option ℕ) (l : List ℕ) (what : Read (Unit {0})) : Type 0 where
  pub reads : line_of r l ≡ what
  pub within : IfSome r (λ n. n ≤ length l)

-- r has the number of good lines and of their bytes
pub record LinesCounted {A : Type 0} (r : Block) (l : List ℕ) (w : Rows A) : Type 0 where
  pub good : r.good ≡ length w.values
  pub rest : drop r.used l ≡ w.rest
  pub within : r.used ≤ length l

-- ---- the first pass

-- a value, or the number of the first bad line
abbrev pub parsed_of : {V A : Type 0} → (V → Parsed A) → Result V ℕ → Parsed A
parsed_of of (Ok v) = of v
parsed_of of (Err n) = bad_line n

abbrev pub head_is : Head → form.Head
head_is h = record { rule = h.rule; counts = counts_is h.counts; marks = h.marks }

-- r says what the form says of the first three lines of l
pub record GivesHead (r : Result (declared.Read Head) ℕ) (l : List ℕ) : Type 0 where
  pub reads : parsed_of (λ h. parsed (head_is h.value) (drop h.used l)) r ≡ parse_head l
  pub within : IfOk r (λ h. h.used ≤ length l)

-- the net of these counts whose vertex lines start at i and whose face lines start at j
abbrev pub net_at : form.Head → List ℕ → ℕ → ℕ → TextNet
net_at h l i j =
    record {
      rule = h.rule;
      counts = h.counts;
      vertices = (rows (read_vertex h.marks) h.counts.vertices (drop i l)).values;
      faces = (rows read_face h.counts.faces (drop j l)).values;
    }

-- the same of the lines after a head that ends at i
pub record GivesBody (h : form.Head) (i : ℕ) (r : Result ℕ ℕ) (l : List ℕ) : Type 0 where
  pub reads : parsed_of (λ j. parsed (net_at h l i j) []) r ≡ parse_body h (drop i l)
  pub within : IfOk r (λ j. j ≤ length l)

abbrev pub net_in : List ℕ → Form → TextNet
net_in l f = net_at (head_is f.head) l f.vertices_at f.faces_at

-- r says what the form says of l, and both blocks of lines start inside l
pub record Checks (r : Result Form ℕ) (l : List ℕ) : Type 0 where
  pub reads : parsed_of (λ f. parsed (net_in l f) []) r ≡ parse l
  pub vertices : IfOk r (λ f. f.vertices_at ≤ length l)
  pub faces : IfOk r (λ f. f.faces_at ≤ length l)

-- ---- the second pass

-- t and m come to u and o when vs is stored from the front on
pub record VerticesStored (vs : List Vertex) (t u : List ℤ) (m o : List ℕ) : Type 0 where
  pub table : u ≡ sets t 0 (coordinates_of vs)
  pub marks : o ≡ sets m 0 (marks_of vs)

-- paper 01's number and place of a refusal, or what was read
abbrev pub answer_of : Result Input Refusal → ReadAnswer
answer_of (Ok n) = net_read n.rounds n.rule n.vertices n.faces
answer_of (Err x) = net_refused (number x.reason) x.place

-- room for every net that the counts let pass
pub record InputTables (vertex_table face_table mark_table : ℕ) : Type 0 where
  pub vertices : 3 * program_vertices ≤ vertex_table
  pub faces : 4 * program_faces ≤ face_table
  pub marks : program_vertices ≤ mark_table
