-- The program's text form: what a line says, and the net that a text writes. Each line is read from the rest that the line before it left.
use Rattle.std.specs.Prelude.{Bool, true, false, cond, ◌&&◌, List, [], ◌∷◌, ℕ, zero, suc, ◌+◌, eqb, ℤ, length, drop}
use Rattle.decimalform.specs.Decimal.{Read, read_as, bad, read_natural, read_integer, largest_number}
use Rattle.textform.specs.Bytes.{bytes}

-- ---- values, as the lines have them

pub record TextCounts : Type 0 where
  pub vertices : ℕ
  pub faces : ℕ
  pub rounds : ℕ

pub record Vertex : Type 0 where
  pub x : ℤ
  pub y : ℤ
  pub z : ℤ
  pub mark : ℕ

pub record Face : Type 0 where
  pub a : ℕ
  pub b : ℕ
  pub c : ℕ
  pub d : ℕ

-- a net, and whether its text asks for the letters of the answer
pub record TextNet : Type 0 where
  pub rule : Bool
  pub counts : TextCounts
  pub vertices : List Vertex
  pub faces : List Face

-- ---- lines of names: the line for each meaning that it can have

-- Paper 02: "prints the letter as a last column named `rule` if the first input line reads `vertices faces rounds rule`"
abbrev pub input_names : (rule : Bool) → List ℕ
input_names false = bytes "vertices faces rounds\n"
input_names true = bytes "vertices faces rounds rule\n"

-- Paper 01: "`x y z` without `corner` means all marks 0"
pub data Columns : Type 0 where
  with_corner without_corner : Columns

abbrev pub column_names : Columns → List ℕ
column_names with_corner = bytes "x y z corner\n"
column_names without_corner = bytes "x y z\n"

-- a vertex line ends with a mark
abbrev pub has_mark : Columns → Bool
has_mark with_corner = true
has_mark without_corner = false

abbrev pub corner_names : Unit {0} → List ℕ
corner_names _ = bytes "a b c d\n"

abbrev pub starts_with : List ℕ → List ℕ → Bool
starts_with [] l = true
starts_with (c ∷ s) [] = false
starts_with (c ∷ s) (b ∷ l) = eqb b c && starts_with s l

-- the first of these meanings whose line the text starts with
unfoldable pub read_names : {A : Type 0} → (names : A → List ℕ) → List A → List ℕ → Read A
read_names names [] l = bad
read_names names (m ∷ ms) l = cond (starts_with (names m) l) (read_as m (drop (length (names m)) l)) (read_names names ms l)

abbrev pub read_input : List ℕ → Read Bool
read_input l = read_names input_names (false ∷ true ∷ []) l

abbrev pub read_columns : List ℕ → Read Columns
read_columns l = read_names column_names (with_corner ∷ without_corner ∷ []) l

abbrev pub read_corner_names : List ℕ → Read (Unit {0})
read_corner_names l = read_names corner_names (tt ∷ []) l

-- ---- fields

module _ {A : Type 0} where
  -- Paper 01: "with one blank between and a newline after each line": the byte e follows
  abbrev pub ended_by : ℕ → Read A → Read A
  ended_by e (read_as v []) = bad
  ended_by e (read_as v (b ∷ l)) = cond (eqb b e) (read_as v l) bad
  ended_by e bad = bad

  -- what f reads after it
  abbrev pub and_then : {B : Type 0} → Read A → (A → List ℕ → Read B) → Read B
  and_then (read_as v l) f = f v l
  and_then bad f = bad

-- ---- lines of numbers

unfoldable pub coordinate : ℕ → List ℕ → Read ℤ
coordinate e l = ended_by e (read_integer l)

unfoldable pub natural : ℕ → ℕ → List ℕ → Read ℕ
natural limit e l = ended_by e (read_natural limit l)

-- a count or a vertex number, in signed 32 bits
abbrev pub index : ℕ → List ℕ → Read ℕ
index e l = natural largest_number e l

unfoldable pub read_counts : List ℕ → Read TextCounts
read_counts l = and_then (index 32 l) (λ v l. and_then (index 32 l) (λ f l. and_then (index 10 l) (λ k l. read_as (record { vertices = v; faces = f; rounds = k }) l)))

-- Paper 01: "`x y z` without `corner` means all marks 0"; "A mark is at most 255"
unfoldable pub read_vertex : Bool → List ℕ → Read Vertex
read_vertex m l =
    and_then (coordinate 32 l) (λ x l. and_then (coordinate 32 l) (λ y l.
    cond m
    (and_then (coordinate 32 l) (λ z l. and_then (natural 255 10 l) (λ k l. read_as (record { x = x; y = y; z = z; mark = k }) l)))
    (and_then (coordinate 10 l) (λ z l. read_as (record { x = x; y = y; z = z; mark = 0 }) l))))

-- four corners, each read by `corner`, which is told the byte after it
abbrev pub face_by : (corner : ℕ → List ℕ → Read ℕ) → List ℕ → Read Face
face_by corner l =
    and_then (corner 32 l) (λ a l. and_then (corner 32 l) (λ b l. and_then (corner 32 l) (λ c l. and_then (corner 10 l) (λ d l.
    read_as (record { a = a; b = b; c = c; d = d }) l))))

unfoldable pub read_face : List ℕ → Read Face
read_face l = face_by index l

-- ---- lines after each other

-- the values of the good lines, and what is left after them
pub record Rows (A : Type 0) : Type 0 where
  pub values : List A
  pub rest : List ℕ

module _ {A : Type 0} where
  abbrev pub no_rows : List ℕ → Rows A
  no_rows l = record { values = []; rest = l }

  abbrev pub one_more : A → Rows A → Rows A
  one_more v w = record { values = v ∷ w.values; rest = w.rest }

  abbrev pub rows_after : List ℕ → Read A → (List ℕ → Rows A) → Rows A
  rows_after l (read_as v m) more = one_more v (more m)
  rows_after l bad more = no_rows l

  -- up to n lines, as far as they are good
  unfoldable pub rows : (List ℕ → Read A) → ℕ → List ℕ → Rows A
  rows read zero l = no_rows l
  rows read (suc n) l = rows_after l (read l) (rows read n)

-- ---- the whole text

-- a value, with the rest of the text, or the number of the first bad line
pub data Parsed (A : Type 0) : Type 0 where
  parsed : A → List ℕ → Parsed A
  bad_line : ℕ → Parsed A

module _ {A : Type 0} where
  abbrev pub next : {B : Type 0} → Parsed A → (A → List ℕ → Parsed B) → Parsed B
  next (parsed v l) f = f v l
  next (bad_line n) f = bad_line n

  -- line n
  abbrev pub line : ℕ → Read A → Parsed A
  line n (read_as v l) = parsed v l
  line n bad = bad_line n

  -- `count` lines, the first of them line n
  abbrev pub lines : ℕ → ℕ → Rows A → Parsed (List A)
  lines n count w = cond (eqb (length w.values) count) (parsed w.values w.rest) (bad_line (n + length w.values))

  -- Paper 01: "A surplus line is a bad line": nothing is left at line n
  abbrev pub ended : ℕ → A → List ℕ → Parsed A
  ended n v [] = parsed v []
  ended n v (b ∷ l) = bad_line n

pub record Head : Type 0 where
  pub rule : Bool
  pub counts : TextCounts
  pub marks : Bool

-- Paper 02: "the second line keeps its three numbers"
unfoldable pub parse_head : List ℕ → Parsed Head
parse_head l =
    next (line 1 (read_input l)) (λ r l. next (line 2 (read_counts l)) (λ n l. next (line 3 (read_columns l)) (λ c l.
    parsed (record { rule = r; counts = n; marks = has_mark c }) l)))

unfoldable pub parse_body : Head → List ℕ → Parsed TextNet
parse_body h l =
    next (lines 4 h.counts.vertices (rows (read_vertex h.marks) h.counts.vertices l)) (λ vs l.
    next (line (4 + h.counts.vertices) (read_corner_names l)) (λ _ l.
    next (lines (5 + h.counts.vertices) h.counts.faces (rows read_face h.counts.faces l)) (λ fs l.
    ended (5 + h.counts.vertices + h.counts.faces) (record { rule = h.rule; counts = h.counts; vertices = vs; faces = fs }) l)))

-- Paper 01: "It reads standard input: a line of names, then values in that order"
unfoldable pub parse : List ℕ → Parsed TextNet
parse l = next (parse_head l) parse_body
