-- The texts of the form, and the nets that they write.
use Rattle.std.specs.Prelude.{◌≡◌, false, ◌||◌, List, [], ◌∷◌, ◌++◌, ℕ, suc, ◌+◌, ◌≤◌, ◌<◌, eqb, length}
use Rattle.decimalform.specs.Decimal.{natural_text, largest_number}
use Rattle.textform.specs.Bytes.{bytes}
use Rattle.textform.specs.Form.{Vertex, Face, TextNet, without_corner, parsed, bad_line}
use Rattle.textform.specs.Text.{field, point_text, texts}
use Rattle.textform.specs.Fits.{Every, PointFits, NetFits}
use Rattle.objform.specs.Form.{Item, vertex, face, comment, vertices_in, faces_in, parse_obj}

-- what stands behind a number of an `f` line: nothing, or a slash and the bytes s
pub data Part : Type 0 where
  none : Part
  slash : (s : List ℕ) → Part

-- a field of an `f` line. Its vertex counts from 0, the text from 1
pub record Corner : Type 0 where
  pub vertex : ℕ
  pub part : Part

-- a line after the first. Paper 02: "`v` with three whole counts, `f` with four numbers from 1, and lines beginning `#`"
pub data TextLine : Type 0 where
  vertex_line : Vertex → TextLine
  face_line : (a b c d : Corner) → TextLine
  comment_line : (s : List ℕ) → TextLine

abbrev pub part_text : Part → List ℕ
part_text none = []
part_text (slash s) = 47 ∷ s

unfoldable pub corner_text : Corner → ℕ → List ℕ
corner_text c e = field (natural_text (suc c.vertex) ++ part_text c.part) e

unfoldable pub line_text : TextLine → List ℕ
line_text (vertex_line v) = bytes "v " ++ point_text v
line_text (face_line a b c d) = bytes "f " ++ corner_text a 32 ++ corner_text b 32 ++ corner_text c 32 ++ corner_text d 10
line_text (comment_line s) = field (bytes "#" ++ s) 10

-- Paper 02: "The first line must be `# rounds` and a number"
unfoldable pub rounds_text : ℕ → List ℕ
rounds_text k = bytes "# rounds " ++ field (natural_text k) 10

unfoldable pub obj_text : (rounds : ℕ) → List TextLine → List ℕ
obj_text k ls = rounds_text k ++ texts line_text ls

-- ---- lines that the form has

-- neither the byte e nor a newline is in s
abbrev pub Without : ℕ → List ℕ → Type 0
Without e s = Every (λ (b : ℕ). (eqb b e || eqb b 10) ≡ false) s

abbrev pub PartFits : Part → Type 0
PartFits none = Unit {0}
PartFits (slash s) = Without 32 s

pub record CornerFits (c : Corner) : Type 0 where
  pub number : suc c.vertex ≤ largest_number
  pub part : PartFits c.part

abbrev pub LineFits : TextLine → Type 0
LineFits (vertex_line v) = PointFits v
LineFits (face_line a b c d) = CornerFits a × CornerFits b × CornerFits c × CornerFits d
LineFits (comment_line s) = Without 10 s

-- ---- what they write
abbrev pub item_of : TextLine → Item
item_of (vertex_line v) = vertex v
item_of (face_line a b c d) = face (record { a = a.vertex; b = b.vertex; c = c.vertex; d = d.vertex })
item_of (comment_line s) = comment

unfoldable pub items_of : List TextLine → List Item
items_of [] = []
items_of (l ∷ ls) = item_of l ∷ items_of ls

-- the lines write the net n, with `v`, `f` and `#` in any order
pub record Writes (ls : List TextLine) (n : TextNet) : Type 0 where
  pub fit : Every LineFits ls
  pub vertices : vertices_in (items_of ls) ≡ n.vertices
  pub faces : faces_in (items_of ls) ≡ n.faces
  pub vertex_count : length n.vertices ≡ n.counts.vertices
  pub face_count : length n.faces ≡ n.counts.faces
  pub rounds : n.counts.rounds ≤ largest_number
  pub rule : n.rule ≡ false

-- the lines of a net without comments and slashes
abbrev pub bare_corner : ℕ → Corner
bare_corner v = record { vertex = v; part = none }

unfoldable pub plain_faces : List Face → List TextLine
plain_faces [] = []
plain_faces (f ∷ fs) = face_line (bare_corner f.a) (bare_corner f.b) (bare_corner f.c) (bare_corner f.d) ∷ plain_faces fs

unfoldable pub plain_lines : List Vertex → List Face → List TextLine
plain_lines [] fs = plain_faces fs
plain_lines (v ∷ vs) fs = vertex_line v ∷ plain_lines vs fs

pub record CornersFit (f : Face) : Type 0 where
  pub a : suc f.a ≤ largest_number
  pub b : suc f.b ≤ largest_number
  pub c : suc f.c ≤ largest_number
  pub d : suc f.d ≤ largest_number

-- a net that the form can write
pub record ObjFits (n : TextNet) : Type 0 where
  pub fits : NetFits without_corner n
  pub faces : Every CornersFit n.faces
  pub rule : n.rule ≡ false

-- Paper 02: "the net read is the one written"
pub record ObjBack : Type 0 where
  -- however its lines are ordered, and with comments among them
  pub back : (n : TextNet) (ls : List TextLine) → Writes ls n → parse_obj (obj_text n.counts.rounds ls) ≡ parsed n []
  -- every such net has lines
  pub lines : (n : TextNet) → ObjFits n → Writes (plain_lines n.vertices n.faces) n

-- ---- what is accepted

-- l is the text of lines that write n
pub record WrittenBy (l : List ℕ) (n : TextNet) : Type 0 where
  pub lines : List TextLine
  pub writes : Writes lines n
  pub text : l ≡ obj_text n.counts.rounds lines

-- l does not start with a first line, or with a later one
abbrev pub NoRounds : List ℕ → Type 0
NoRounds l = (k : ℕ) (rest : List ℕ) → k ≤ largest_number → l ≡ rounds_text k ++ rest → ⊥

abbrev pub NoLine : List ℕ → Type 0
NoLine l = (x : TextLine) (rest : List ℕ) → LineFits x → l ≡ line_text x ++ rest → ⊥

-- the lines of l before a later one: they have the form, and something that does not is left
pub record LinesBefore (l : List ℕ) : Type 0 where
  pub rounds : ℕ
  pub lines : List TextLine
  pub rest : List ℕ
  pub few : rounds ≤ largest_number
  pub fit : Every LineFits lines
  pub text : l ≡ obj_text rounds lines ++ rest
  pub left : 0 < length rest
  pub no_line : NoLine rest

-- line p of l is the first bad one
pub data FirstBad (l : List ℕ) : ℕ → Type 0 where
  first_line : NoRounds l → FirstBad l 1
  later_line : (b : LinesBefore l) → FirstBad l (2 + length b.lines)

-- Paper 02: "A text is accepted if it has this form and otherwise gets 13 at its first bad line"
pub record Recognizes : Type 0 where
  pub accepted : (l : List ℕ) (n : TextNet) (m : List ℕ) → parse_obj l ≡ parsed n m → WrittenBy l n
  pub refused : (l : List ℕ) (p : ℕ) → parse_obj l ≡ bad_line p → FirstBad l p
