-- Wavefront OBJ as the program reads it: what a line says, and the net that a text writes. Each line is read from the rest that the line before it left.
use Rattle.std.specs.Prelude.{false, cond, ◌||◌, List, [], ◌∷◌, ℕ, zero, suc, ◌+◌, eqb, length, drop}
use Rattle.decimalform.specs.Decimal.{Read, read_as, bad, read_natural, largest_number}
use Rattle.textform.specs.Bytes.{bytes}
use Rattle.textform.specs.Form.{Vertex, Face, TextNet, starts_with, ended_by, index, read_vertex, face_by, Rows, rows, Parsed, next, line, ended}

-- Paper 02: "Accept `v` with three whole counts, `f` with four numbers from 1, and lines beginning `#`"
pub data Item : Type 0 where
  vertex : Vertex → Item
  face : Face → Item
  comment : Item

module _ {A : Type 0} where
  -- what `read` gives after the bytes s, or else `other`
  abbrev pub after_bytes : (s l : List ℕ) (read : List ℕ → Read A) (other : Read A) → Read A
  after_bytes s l read other = cond (starts_with s l) (read (drop (length s) l)) other

  abbrev pub mapped : {B : Type 0} → (A → B) → Read A → Read B
  mapped f (read_as v l) = read_as (f v) l
  mapped f bad = bad

-- the rest from the first newline, or the first byte e, on; nothing if there is neither
unfoldable pub skip_to : ℕ → List ℕ → List ℕ
skip_to e [] = []
skip_to e (b ∷ l) = cond (eqb b e || eqb b 10) (b ∷ l) (skip_to e l)

-- Paper 02: "Anything after a slash in an `f` field is skipped": up to the blank or the newline that ends the field
abbrev pub skip_part : List ℕ → List ℕ
skip_part [] = []
skip_part (b ∷ l) = cond (eqb b 47) (skip_to 32 l) (b ∷ l)

-- a number from 1 names the vertex one below it, and what a slash begins behind it is skipped
abbrev pub named : Read ℕ → Read ℕ
named (read_as zero l) = bad
named (read_as (suc c) l) = read_as c (skip_part l)
named bad = bad

-- a field of an `f` line, and the byte e after it. Paper 02: "Blanks, newlines, numbers .. are as in 01"
unfoldable pub read_corner : ℕ → List ℕ → Read ℕ
read_corner e l = ended_by e (named (read_natural largest_number l))

unfoldable pub read_corners : List ℕ → Read Face
read_corners l = face_by read_corner l

-- any bytes but a newline, and a newline
unfoldable pub read_comment : List ℕ → Read Item
read_comment l = ended_by 10 (read_as comment (skip_to 10 l))

-- a line after the first. Paper 02: "Marks are 0"
unfoldable pub read_item : List ℕ → Read Item
read_item l =
    after_bytes (bytes "v ") l (λ l. mapped vertex (read_vertex false l)) (after_bytes (bytes "f ") l (λ l. mapped face (read_corners l)) (after_bytes (bytes "#") l read_comment bad))

-- Paper 02: "The first line must be `# rounds` and a number"
unfoldable pub read_rounds : List ℕ → Read ℕ
read_rounds l = after_bytes (bytes "# rounds ") l (index 10) bad

-- ---- the whole text

unfoldable pub vertices_in : List Item → List Vertex
vertices_in [] = []
vertices_in (vertex v ∷ is) = v ∷ vertices_in is
vertices_in (face f ∷ is) = vertices_in is
vertices_in (comment ∷ is) = vertices_in is

unfoldable pub faces_in : List Item → List Face
faces_in [] = []
faces_in (vertex v ∷ is) = faces_in is
faces_in (face f ∷ is) = f ∷ faces_in is
faces_in (comment ∷ is) = faces_in is

-- vertices and faces in the order of their lines; no letters are asked for
unfoldable pub net_of : ℕ → List Item → TextNet
net_of k is =
    record {
      rule = false;
      counts = record { vertices = length (vertices_in is); faces = length (faces_in is); rounds = k };
      vertices = vertices_in is;
      faces = faces_in is;
    }

-- the good lines; each takes a byte, so there are no more of them than bytes
abbrev pub items : List ℕ → Rows Item
items l = rows read_item (length l) l

-- the lines from line 2 on: what the good ones leave is the first bad one
unfoldable pub parse_items : ℕ → List ℕ → Parsed TextNet
parse_items k l = ended (2 + length (items l).values) (net_of k (items l).values) (items l).rest

-- Paper 02: "Each line is read from the remainder that the line before left. A text is accepted if it has this form and otherwise gets 13 at its first bad line"
unfoldable pub parse_obj : List ℕ → Parsed TextNet
parse_obj l = next (line 1 (read_rounds l)) parse_items
