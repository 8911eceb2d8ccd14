-- What reading a text into the program's tables comes to, on every text.
use Rattle.std.specs.Prelude.{Bool, cond, List, [], ◌∷◌, ℕ, ◌*◌, ltb, ℤ, length}
use Rattle.nets.specs.Net as nets
use Rattle.tables.specs.Tables.{filled}
use Rattle.verdict.specs.Call.{Room, needed, lengths}
use Rattle.verdict.specs.Verdict.{Verdict, accepted, refused, or_else, refused_if, limits_verdict}
use Rattle.textform.specs.Limits.{longest_text, program_vertices, program_faces}
use Rattle.textform.specs.Form.{TextCounts, Vertex, Face, TextNet, Parsed, parsed, bad_line}

-- the net was read, with its rounds, whether letters are asked for, and its numbers of vertices and faces; or the number of the refusal, and its place
pub data ReadAnswer : Type 0 where
  net_read : (rounds : ℕ) (rule : Bool) (vertices faces : ℕ) → ReadAnswer
  net_refused : (number place : ℕ) → ReadAnswer

-- the answer, and the tables as the reader leaves them
pub record LoadedText : Type 0 where
  pub answer : ReadAnswer
  pub vertices : List ℤ
  pub faces : List ℕ
  pub marks : List ℕ

abbrev pub loaded : ReadAnswer → List ℤ → List ℕ → List ℕ → LoadedText
loaded a vs fs ms = record { answer = a; vertices = vs; faces = fs; marks = ms }

-- ---- tables. Paper 01: "three numbers per vertex, the face table four vertex numbers", "the mark table one byte per vertex"
unfoldable pub coordinates_of : List Vertex → List ℤ
coordinates_of [] = []
coordinates_of (v ∷ vs) = v.x ∷ v.y ∷ v.z ∷ coordinates_of vs

unfoldable pub marks_of : List Vertex → List ℕ
marks_of [] = []
marks_of (v ∷ vs) = v.mark ∷ marks_of vs

unfoldable pub corners_of : List Face → List ℕ
corners_of [] = []
corners_of (f ∷ fs) = f.a ∷ f.b ∷ f.c ∷ f.d ∷ corners_of fs

-- the tables of a net that was written as lines
abbrev pub tables_of : TextNet → nets.Net
tables_of n = record { vertices = coordinates_of n.vertices; faces = corners_of n.faces; marks = marks_of n.vertices }

-- ---- refusals from the counts alone

-- Paper 01: "Its tables serve G up to 256", the letter table among them; a text that asks for no letters gets the same refusals
abbrev pub program_room : Room
program_room = needed program_faces

-- Paper 01: "in the program, also V above 1,024"
unfoldable pub counts_verdict : TextCounts → Verdict
counts_verdict n = or_else (limits_verdict n.rounds [] (lengths (3 * n.vertices) (4 * n.faces) n.vertices program_room)) (refused_if 4 (ltb program_vertices n.vertices))

-- ---- the whole text
module _ (vs : List ℤ) (fs ms : List ℕ) where
  abbrev pub untouched : ReadAnswer → LoadedText
  untouched a = loaded a vs fs ms

  abbrev pub stored : TextNet → LoadedText
  stored n =
      loaded (net_read n.counts.rounds n.rule n.counts.vertices n.counts.faces)
      (filled (coordinates_of n.vertices) vs)
      (filled (corners_of n.faces) fs)
      (filled (marks_of n.vertices) ms)

  abbrev pub judged : Verdict → TextNet → LoadedText
  judged accepted n = stored n
  judged (refused r p) n = untouched (net_refused r p)

  -- Paper 01: "13: text not in the form below .. the place is the first bad line from 1"
  abbrev pub of_parsed : Parsed TextNet → LoadedText
  of_parsed (parsed n l) = judged (counts_verdict n.counts) n
  of_parsed (bad_line n) = untouched (net_refused 13 n)

-- Paper 01: "or more than 32,768 bytes; the place is .. 0 for length, which goes first. It is tested before 1"
unfoldable pub read_by : (parser : List ℕ → Parsed TextNet) → List ℕ → List ℤ → List ℕ → List ℕ → LoadedText
read_by parser text vs fs ms = cond (ltb longest_text (length text)) (untouched vs fs ms (net_refused 13 0)) (of_parsed vs fs ms (parser text))
