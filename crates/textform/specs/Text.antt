-- The text of a net, of an answer and of a refusal.
use Rattle.std.specs.Prelude.{Bool, cond, List, [], ◌∷◌, ◌++◌, map, ℕ, length}
use Rattle.decimalform.specs.Decimal.{natural_text, integer_text}
use Rattle.textform.specs.Bytes.{bytes}
use Rattle.textform.specs.Form.{TextCounts, Vertex, Face, TextNet, input_names, Columns, with_corner, without_corner, column_names, corner_names}

-- a number and the byte after it. Paper 01: "with one blank between and a newline after each line"
abbrev pub field : List ℕ → ℕ → List ℕ
field s e = s ++ (e ∷ [])

unfoldable pub counts_text : TextCounts → List ℕ
counts_text n = field (natural_text n.vertices) 32 ++ field (natural_text n.faces) 32 ++ field (natural_text n.rounds) 10

-- two numbers in a line
unfoldable pub pair_text : ℕ → ℕ → List ℕ
pair_text a b = field (natural_text a) 32 ++ field (natural_text b) 10

-- the numbers of a vertex; what ends its line follows the mark
unfoldable pub numbers_text : Vertex → List ℕ
numbers_text v = field (integer_text v.x) 32 ++ field (integer_text v.y) 32 ++ field (integer_text v.z) 32 ++ natural_text v.mark

unfoldable pub vertex_text : Vertex → List ℕ
vertex_text v = numbers_text v ++ (10 ∷ [])

-- a vertex without its mark
unfoldable pub point_text : Vertex → List ℕ
point_text v = field (integer_text v.x) 32 ++ field (integer_text v.y) 32 ++ field (integer_text v.z) 10

unfoldable pub face_text : Face → List ℕ
face_text f = field (natural_text f.a) 32 ++ field (natural_text f.b) 32 ++ field (natural_text f.c) 32 ++ field (natural_text f.d) 10

-- the lines of a list
unfoldable pub texts : {A : Type 0} → (A → List ℕ) → List A → List ℕ
texts f [] = []
texts f (v ∷ vs) = f v ++ texts f vs

-- a vertex under these columns. Paper 01: "`x y z` without `corner` means all marks 0"
abbrev pub vertex_line_text : Columns → Vertex → List ℕ
vertex_line_text with_corner v = vertex_text v
vertex_line_text without_corner v = point_text v

-- the lines of a net. Paper 01: "a line of names, then values in that order"
unfoldable pub net_lines : Columns → TextNet → List (List ℕ)
net_lines c n = input_names n.rule ∷ counts_text n.counts ∷ column_names c ∷ (map (vertex_line_text c) n.vertices ++ (corner_names tt ∷ map face_text n.faces))

-- lines after each other
abbrev pub lines_text : List (List ℕ) → List ℕ
lines_text ls = texts (λ l. l) ls

-- the text that writes a net for the program
unfoldable pub net_text : Columns → TextNet → List ℕ
net_text c n = lines_text (net_lines c n)

-- ---- the answer, with letters if they are asked for

-- a vertex and its letter
pub record LetteredVertex : Type 0 where
  pub vertex : Vertex
  pub letter : ℕ

-- Paper 01: "The output always has the `corner` column". Paper 02: "prints the letter as a last column named `rule`"
abbrev pub columns_text : (rule : Bool) → List ℕ
columns_text rule = cond rule (bytes "x y z corner rule\n") (column_names with_corner)

abbrev pub end_text : (rule : Bool) (letter : ℕ) → List ℕ
end_text rule letter = cond rule (32 ∷ letter ∷ 10 ∷ []) (10 ∷ [])

unfoldable pub lettered_text : (rule : Bool) → LetteredVertex → List ℕ
lettered_text rule t = numbers_text t.vertex ++ end_text rule t.letter

-- the text of a refined net
unfoldable pub answer_text : (rule : Bool) → List LetteredVertex → List Face → List ℕ
answer_text rule ts fs = bytes "vertices faces\n" ++ pair_text (length ts) (length fs) ++ columns_text rule ++ texts (lettered_text rule) ts ++ corner_names tt ++ texts face_text fs

-- Paper 01: "A refusal prints the line `refusal place`, then a line with both numbers and one blank between"
unfoldable pub refusal_text : ℕ → ℕ → List ℕ
refusal_text reason place = bytes "refusal place\n" ++ pair_text reason place
