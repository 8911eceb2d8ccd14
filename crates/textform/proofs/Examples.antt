-- The text form, computed: paper 01's input and output, and damaged inputs. Assumes nothing.
use mathlib.Core.Path.{◌≡◌, refl}
use mathlib.Core.Bool.{Bool, true, false, ◌&&◌}
use mathlib.Core.List.{List, [], ◌∷◌}
use Prim.Native.Nat.{ℕ}
use Prim.Native.String.{String}
use lib.Dec.{T, eqb}
use lib.IntN.{ℤ, pos, negsuc}
use Rattle.decimalform.specs.Decimal.{read_digits, read_natural, read_integer, natural_text, integer_text}
use Rattle.textform.specs.Bytes.{bytes}
use Rattle.textform.specs.Form.{Vertex, Face, TextNet, with_corner, Parsed, parsed, bad_line, read_names, coordinate, natural, read_counts, read_vertex, read_face, rows, parse_head, parse_body, parse}
use Rattle.textform.specs.Text.{counts_text, pair_text, numbers_text, vertex_text, face_text, texts, net_lines, net_text, LetteredVertex, lettered_text, answer_text, refusal_text}

abbrev at : ℤ → ℤ → ℤ → ℕ → Vertex
at x y z m = record { x = x; y = y; z = z; mark = m }

abbrev face : ℕ → ℕ → ℕ → ℕ → Face
face a b c d = record { a = a; b = b; c = c; d = d }

-- Paper 01's input, and the same with letters asked for
abbrev square : Bool → TextNet
square r =
    record {
      rule = r;
      counts = record { vertices = 4; faces = 1; rounds = 1 };
      vertices = at (pos 0) (pos 0) (pos 0) 1 ∷ at (pos 16) (pos 0) (pos 0) 1 ∷ at (pos 16) (pos 16) (pos 0) 1 ∷ at (pos 0) (pos 16) (pos 0) 1 ∷ [];
      faces = face 0 1 2 3 ∷ [];
    }

abbrev square_text : Bool → List ℕ
square_text false = bytes "vertices faces rounds\n4 1 1\nx y z corner\n0 0 0 1\n16 0 0 1\n16 16 0 1\n0 16 0 1\na b c d\n0 1 2 3\n"
square_text true = bytes "vertices faces rounds rule\n4 1 1\nx y z corner\n0 0 0 1\n16 0 0 1\n16 16 0 1\n0 16 0 1\na b c d\n0 1 2 3\n"

square_read : (r : Bool) → parse (square_text r) ≡ parsed (square r) []
unfolding parse parse_head parse_body read_names read_counts read_vertex read_face coordinate natural rows read_integer read_natural read_digits bytes
square_read false = refl
square_read true = refl

square_written : (r : Bool) → net_text with_corner (square r) ≡ square_text r
unfolding net_text net_lines counts_text numbers_text vertex_text face_text texts natural_text integer_text bytes
square_written false = refl
square_written true = refl

-- its lines
square_lines : net_lines with_corner (square false)
    ≡ bytes "vertices faces rounds\n" ∷ bytes "4 1 1\n" ∷ bytes "x y z corner\n" ∷ bytes "0 0 0 1\n" ∷ bytes "16 0 0 1\n" ∷ bytes "16 16 0 1\n" ∷ bytes "0 16 0 1\n" ∷ bytes "a b c d\n" ∷ bytes "0 1 2 3\n" ∷ []
unfolding net_lines counts_text numbers_text vertex_text face_text natural_text integer_text bytes
square_lines = refl

-- Paper 01's output, and the same with letters
abbrev refined_text : Bool → List ℕ
refined_text false =
    bytes "vertices faces\n9 4\nx y z corner\n0 0 0 1\n16 0 0 1\n16 16 0 1\n0 16 0 1\n8 0 0 0\n16 8 0 0\n8 16 0 0\n0 8 0 0\n8 8 0 0\na b c d\n0 4 8 7\n1 5 8 4\n2 6 8 5\n3 7 8 6\n"
refined_text true =
    bytes "vertices faces\n9 4\nx y z corner rule\n0 0 0 1 V\n16 0 0 1 V\n16 16 0 1 V\n0 16 0 1 V\n8 0 0 0 M\n16 8 0 0 M\n8 16 0 0 M\n0 8 0 0 M\n8 8 0 0 E\na b c d\n0 4 8 7\n1 5 8 4\n2 6 8 5\n3 7 8 6\n"

abbrev traced : ℤ → ℤ → ℤ → ℕ → ℕ → LetteredVertex
traced x y z m l = record { vertex = at x y z m; letter = l }

refined_written : (r : Bool)
    → answer_text r
    (traced (pos 0) (pos 0) (pos 0) 1 86 ∷ traced (pos 16) (pos 0) (pos 0) 1 86 ∷ traced (pos 16) (pos 16) (pos 0) 1 86 ∷ traced (pos 0) (pos 16) (pos 0) 1 86
    ∷ traced (pos 8) (pos 0) (pos 0) 0 77 ∷ traced (pos 16) (pos 8) (pos 0) 0 77 ∷ traced (pos 8) (pos 16) (pos 0) 0 77 ∷ traced (pos 0) (pos 8) (pos 0) 0 77 ∷ traced (pos 8) (pos 8) (pos 0) 0 69 ∷ [])
    (face 0 4 8 7 ∷ face 1 5 8 4 ∷ face 2 6 8 5 ∷ face 3 7 8 6 ∷ []) ≡ refined_text r
unfolding answer_text pair_text numbers_text lettered_text face_text texts natural_text integer_text bytes
refined_written false = refl
refined_written true = refl

refusal_written : refusal_text 13 4 ≡ bytes "refusal place\n13 4\n"
unfolding refusal_text pair_text natural_text bytes
refusal_written = refl

-- without marks, with the smallest and the largest coordinate
unmarked_read : parse (bytes "vertices faces rounds\n1 0 0\nx y z\n-2147483648 2147483647 -1\na b c d\n")
    ≡ parsed (record { rule = false; counts = record { vertices = 1; faces = 0; rounds = 0 }; vertices = at (negsuc 2147483647) (pos 2147483647) (negsuc 0) 0 ∷ []; faces = [] }) []
unfolding parse parse_head parse_body read_names read_counts read_vertex read_face coordinate natural rows read_integer read_natural read_digits bytes
unmarked_read = refl

-- ---- the first bad line of damaged texts, 0 for a text that has the form
abbrev damage : Parsed TextNet → ℕ
damage (parsed n l) = 0
damage (bad_line n) = n

abbrev line_of : String → ℕ
line_of s = damage (parse (bytes s))

record Damaged : Type 0 where
  name : String
  text : String
  place : ℕ

abbrev damaged : List Damaged
damaged =
    record { name = "as it should be"; text = "vertices faces rounds\n1 1 0\nx y z corner\n0 0 0 255\na b c d\n0 0 0 0\n"; place = 0 }
    ∷ record { name = "no vertices and no faces"; text = "vertices faces rounds\n0 0 6\nx y z\na b c d\n"; place = 0 }
    ∷ record { name = "empty"; text = ""; place = 1 }
    ∷ record { name = "other names"; text = "vertices faces\n"; place = 1 }
    ∷ record { name = "names without newline"; text = "vertices faces rounds"; place = 1 }
    ∷ record { name = "carriage return"; text = "vertices faces rounds\n1 1 0\r\n"; place = 2 }
    ∷ record { name = "two blanks"; text = "vertices faces rounds\n1  1 0\n"; place = 2 }
    ∷ record { name = "two numbers"; text = "vertices faces rounds\n1 1\n"; place = 2 }
    ∷ record { name = "leading zero"; text = "vertices faces rounds\n01 1 0\n"; place = 2 }
    ∷ record { name = "minus before a count"; text = "vertices faces rounds\n-1 1 0\n"; place = 2 }
    ∷ record { name = "other columns"; text = "vertices faces rounds\n1 1 0\nx y z open\n"; place = 3 }
    ∷ record { name = "minus zero"; text = "vertices faces rounds\n1 1 0\nx y z corner\n0 -0 0 0\n"; place = 4 }
    ∷ record { name = "plus sign"; text = "vertices faces rounds\n1 1 0\nx y z corner\n0 +1 0 0\n"; place = 4 }
    ∷ record { name = "mark above 255"; text = "vertices faces rounds\n1 1 0\nx y z corner\n0 0 0 256\n"; place = 4 }
    ∷ record { name = "no mark"; text = "vertices faces rounds\n1 1 0\nx y z corner\n0 0 0\n"; place = 4 }
    ∷ record { name = "beyond signed 32 bits"; text = "vertices faces rounds\n1 1 0\nx y z\n2147483648 0 0\n"; place = 4 }
    ∷ record { name = "second vertex missing"; text = "vertices faces rounds\n2 1 0\nx y z\n0 0 0\n"; place = 5 }
    ∷ record { name = "names of corners too early"; text = "vertices faces rounds\n2 1 0\nx y z\n0 0 0\na b c d\n"; place = 5 }
    ∷ record { name = "names of corners missing"; text = "vertices faces rounds\n1 1 0\nx y z\n0 0 0\n"; place = 5 }
    ∷ record { name = "face missing"; text = "vertices faces rounds\n1 1 0\nx y z\n0 0 0\na b c d\n"; place = 6 }
    ∷ record { name = "unfinished last line"; text = "vertices faces rounds\n1 1 0\nx y z\n0 0 0\na b c d\n0 0 0 0"; place = 6 }
    ∷ record { name = "vertex number beyond signed 32 bits"; text = "vertices faces rounds\n1 1 0\nx y z\n0 0 0\na b c d\n0 0 0 2147483648\n"; place = 6 }
    ∷ record { name = "letters asked for"; text = "vertices faces rounds rule\n1 1 0\nx y z\n0 0 0\na b c d\n0 0 0 0\n"; place = 0 }
    ∷ record { name = "letters, another word"; text = "vertices faces rounds rules\n1 1 0\n"; place = 1 }
    ∷ record { name = "letters, two blanks"; text = "vertices faces rounds  rule\n1 1 0\n"; place = 1 }
    ∷ record { name = "letters, blank at the end"; text = "vertices faces rounds rule \n1 1 0\n"; place = 1 }
    ∷ record { name = "letters, the word alone"; text = "rule\n1 1 0\n"; place = 1 }
    ∷ record { name = "letters, the word on line 2"; text = "vertices faces rounds\nrule\n1 1 0\n"; place = 2 }
    ∷ record { name = "letters, the word after the numbers"; text = "vertices faces rounds rule\n1 1 0 rule\nx y z\n"; place = 2 }
    ∷ record { name = "letters, four numbers"; text = "vertices faces rounds rule\n1 1 0 1\nx y z\n"; place = 2 }
    ∷ record { name = "letters, the columns of the answer"; text = "vertices faces rounds rule\n1 1 0\nx y z corner rule\n0 0 0 1 V\n"; place = 3 }
    ∷ record { name = "the first line twice"; text = "vertices faces rounds rule\n1 1 0\nvertices faces rounds rule\n"; place = 3 }
    ∷ record { name = "a letter in a vertex line"; text = "vertices faces rounds rule\n1 1 0\nx y z corner\n0 0 0 1 V\n"; place = 4 }
    ∷ record { name = "surplus line"; text = "vertices faces rounds\n1 1 0\nx y z\n0 0 0\na b c d\n0 0 0 0\n\n"; place = 7 }
    ∷ []

abbrev agrees : List Damaged → Bool
agrees [] = true
agrees (d ∷ l) = eqb (line_of d.text) d.place && agrees l

damaged_lines : T (agrees damaged)
unfolding parse parse_head parse_body read_names read_counts read_vertex read_face coordinate natural rows read_integer read_natural read_digits bytes
damaged_lines = tt
