-- The form, computed: nets, and damaged texts. Assumes nothing.
use mathlib.Core.Path.{◌≡◌, refl}
use mathlib.Core.Bool.{Bool, true, false, ◌&&◌}
use mathlib.Core.List.{List, [], ◌∷◌}
use Prim.Native.Nat.{ℕ}
use native.Mathlib.Omega.{arith}
use Prim.Native.String.{String}
use lib.Dec.{eqb}
use lib.IntN.{ℤ, pos, negsuc}
use Rattle.decimalform.specs.Decimal.{read_digits, read_natural, read_integer, natural_text, integer_text}
use Rattle.textform.specs.Bytes.{bytes}
use Rattle.textform.specs.Form.{Vertex, TextNet, without_corner, Parsed, parsed, bad_line, coordinate, natural, read_vertex, rows}
use Rattle.textform.specs.Text.{counts_text, point_text, face_text, texts, net_lines, net_text}
use Rattle.textform.specs.Fits.{Every}
use Rattle.objform.specs.Form.{skip_to, read_corner, read_corners, read_comment, read_item, read_rounds, vertices_in, faces_in, net_of, parse_items, parse_obj}
use Rattle.objform.specs.Text.{TextLine, vertex_line, face_line, comment_line, slash, corner_text, line_text, rounds_text, obj_text, bare_corner, plain_faces, plain_lines, ObjFits}

abbrev at : ℤ → ℤ → ℤ → Vertex
at x y z = record { x = x; y = y; z = z; mark = 0 }

-- one face, with a coordinate below zero
abbrev quad : ℕ → TextNet
quad k =
    record {
      rule = false;
      counts = record { vertices = 4; faces = 1; rounds = k };
      vertices = at (pos 0) (pos 0) (pos 0) ∷ at (pos 16) (pos 0) (pos 0) ∷ at (pos 16) (pos 16) (pos 0) ∷ at (pos 0) (negsuc 15) (pos 0) ∷ [];
      faces = record { a = 0; b = 1; c = 2; d = 3 } ∷ [];
    }

-- as it is; with comments, slashes, `v` and `f` in another order, and a later line of rounds
abbrev quads : List String
quads =
    "# rounds 3\nv 0 0 0\nv 16 0 0\nv 16 16 0\nv 0 -16 0\nf 1 2 3 4\n"
    ∷ "# rounds 3\n# rounds 1\nv 0 0 0\nf 1/ 2/7 3//7 4/7/7\nv 16 0 0\n#\nv 16 16 0\nv 0 -16 0\n##\r\t\n"
    ∷ "# rounds 3\nf 1/é/\t/\r 2/f 3/- 4/.\nv 0 0 0\nv 16 0 0\nv 16 16 0\nv 0 -16 0\n# rounds 2 \n"
    ∷ []

read_all : List String → List (Parsed TextNet)
read_all [] = []
read_all (s ∷ ss) = parse_obj (bytes s) ∷ read_all ss

quads_read : read_all quads ≡ parsed (quad 3) [] ∷ parsed (quad 3) [] ∷ parsed (quad 3) [] ∷ []
unfolding read_all parse_obj parse_items read_rounds read_item read_corners read_comment read_corner skip_to vertices_in faces_in net_of read_vertex coordinate natural rows read_integer read_natural read_digits bytes
quads_read = refl

-- a text written by its lines
abbrev lines : List TextLine
lines =
    comment_line (bytes " rounds 1")
    ∷ vertex_line (at (pos 0) (pos 0) (pos 0))
    ∷ face_line (record { vertex = 0; part = slash [] }) (record { vertex = 1; part = slash (bytes "7") }) (record { vertex = 2; part = slash (bytes "/7") }) (bare_corner 3)
    ∷ vertex_line (at (negsuc 15) (pos 0) (pos 0))
    ∷ []

lines_written : obj_text 3 lines ≡ bytes "# rounds 3\n# rounds 1\nv 0 0 0\nf 1/ 2/7 3//7 4\nv -16 0 0\n"
unfolding obj_text rounds_text line_text corner_text point_text texts natural_text integer_text bytes
lines_written = refl

-- its own lines, and its text of the other form
quad_written : obj_text 3 (plain_lines (quad 3).vertices (quad 3).faces) ≡ bytes "# rounds 3\nv 0 0 0\nv 16 0 0\nv 16 16 0\nv 0 -16 0\nf 1 2 3 4\n"
unfolding obj_text rounds_text line_text corner_text plain_lines plain_faces point_text texts natural_text integer_text bytes
quad_written = refl

quad_unmarked : net_text without_corner (quad 3) ≡ bytes "vertices faces rounds\n4 1 3\nx y z\n0 0 0\n16 0 0\n16 16 0\n0 -16 0\na b c d\n0 1 2 3\n"
unfolding net_text net_lines counts_text point_text face_text texts natural_text integer_text bytes
quad_unmarked = refl

-- the largest numbers fit
abbrev largest : TextNet
largest =
    record {
      rule = false;
      counts = record { vertices = 1; faces = 1; rounds = 2147483647 };
      vertices = at (negsuc 2147483647) (pos 2147483647) (pos 0) ∷ [];
      faces = record { a = 2147483646; b = 2147483646; c = 2147483646; d = 2147483646 } ∷ [];
    }

largest_fits : ObjFits largest
unfolding Every
largest_fits = record {
  fits = record {
    counts = record { vertices = omega arith; faces = omega arith; rounds = omega arith };
    vertex_count = refl;
    face_count = refl;
    vertices = (record { fits = record { x = omega arith; y = omega arith; z = omega arith; mark = omega arith }; unmarked = refl }, tt);
    faces = (record { a = omega arith; b = omega arith; c = omega arith; d = omega arith }, tt);
  };
  faces = (record { a = omega arith; b = omega arith; c = omega arith; d = omega arith }, tt);
  rule = refl;
}

-- ---- the first bad line of damaged texts, 0 for a text that has the form
abbrev damage : Parsed TextNet → ℕ
damage (parsed n l) = 0
damage (bad_line n) = n

record Damaged : Type 0 where
  name : String
  text : String
  place : ℕ

abbrev damaged : List Damaged
damaged =
    record { name = "the first line alone"; text = "# rounds 0\n"; place = 0 }
    ∷ record { name = "a corner that is no vertex, and corners twice"; text = "# rounds 2147483647\nf 2147483647 1 1 1\n"; place = 0 }
    ∷ record { name = "a comment with any bytes"; text = "# rounds 7\n#\r\t v f ÿ\n"; place = 0 }
    ∷ record { name = "one byte"; text = "#"; place = 1 }
    ∷ record { name = "no number"; text = "# rounds\n"; place = 1 }
    ∷ record { name = "two blanks"; text = "# rounds  1\n"; place = 1 }
    ∷ record { name = "more after the number"; text = "# rounds 1 \n"; place = 1 }
    ∷ record { name = "rounds with a leading zero"; text = "# rounds 01\n"; place = 1 }
    ∷ record { name = "rounds beyond signed 32 bits"; text = "# rounds 2147483648\n"; place = 1 }
    ∷ record { name = "another comment first"; text = "# a net\n# rounds 1\n"; place = 1 }
    ∷ record { name = "carriage return"; text = "# rounds 1\r\nv 0 0 0\r\n"; place = 1 }
    ∷ record { name = "an empty line"; text = "# rounds 1\n\n"; place = 2 }
    ∷ record { name = "a blank before"; text = "# rounds 1\n v 0 0 0\n"; place = 2 }
    ∷ record { name = "a blank after"; text = "# rounds 1\nv 0 0 0 \n"; place = 2 }
    ∷ record { name = "two coordinates"; text = "# rounds 1\nv 0 0\n"; place = 2 }
    ∷ record { name = "four coordinates"; text = "# rounds 1\nv 0 0 0 1\n"; place = 2 }
    ∷ record { name = "a decimal"; text = "# rounds 1\nv 0 0.5 0\n"; place = 2 }
    ∷ record { name = "minus zero"; text = "# rounds 1\nv 0 -0 0\n"; place = 2 }
    ∷ record { name = "a slash in a vertex"; text = "# rounds 1\nv 0 0/1 0\n"; place = 2 }
    ∷ record { name = "a corner 0"; text = "# rounds 1\n#\nf 1 2 0 3\n"; place = 3 }
    ∷ record { name = "a corner 0 with a slash"; text = "# rounds 1\nf 1 2 0/1 3\n"; place = 2 }
    ∷ record { name = "a slash alone"; text = "# rounds 1\nf 1 2 /1 3\n"; place = 2 }
    ∷ record { name = "a relative number"; text = "# rounds 1\nf 1 2 -1 3\n"; place = 2 }
    ∷ record { name = "a corner beyond signed 32 bits"; text = "# rounds 1\nf 1 2 2147483648 3\n"; place = 2 }
    ∷ record { name = "three corners"; text = "# rounds 1\nf 1 2 3\n"; place = 2 }
    ∷ record { name = "five corners"; text = "# rounds 1\nf 1 2 3 4 5\n"; place = 2 }
    ∷ record { name = "a carriage return in a corner"; text = "# rounds 1\nf 1 2 3 4\r\n"; place = 2 }
    ∷ record { name = "a carriage return behind a slash"; text = "# rounds 1\nf 1 2 3 4/\r\n"; place = 0 }
    ∷ record { name = "a part without end"; text = "# rounds 1\nf 1 2 3 4/4"; place = 2 }
    ∷ record { name = "a normal"; text = "# rounds 1\nv 0 0 0\nvn 0 0 1\n"; place = 3 }
    ∷ record { name = "an object"; text = "# rounds 1\no net\n"; place = 2 }
    ∷ record { name = "an unfinished comment"; text = "# rounds 1\nv 0 0 0\n# rounds 2"; place = 3 }
    ∷ record { name = "an unfinished vertex"; text = "# rounds 1\nv 0 0 0"; place = 2 }
    ∷ record { name = "an unfinished first line"; text = "# rounds 1"; place = 1 }
    ∷ record { name = "no blank before rounds"; text = "#rounds 1\n"; place = 1 }
    ∷ record { name = "texture coordinates"; text = "# rounds 1\nvt 0 0\n"; place = 2 }
    ∷ record { name = "two blanks in a vertex"; text = "# rounds 1\nv  0 0 0\n"; place = 2 }
    ∷ record { name = "a tab in a vertex"; text = "# rounds 1\nv\t0 0 0\n"; place = 2 }
    ∷ record { name = "a carriage return in a vertex"; text = "# rounds 1\nv 0 0 0\r\n"; place = 2 }
    ∷ record { name = "a coordinate beyond signed 32 bits"; text = "# rounds 1\nv 0 0 2147483648\n"; place = 2 }
    ∷ record { name = "the largest coordinates"; text = "# rounds 1\nv 0 -2147483648 2147483647\n"; place = 0 }
    ∷ record { name = "a corner with a leading zero"; text = "# rounds 1\nf 1 02 3 4\n"; place = 2 }
    ∷ record { name = "two blanks in a face"; text = "# rounds 1\nf 1  2 3 4\n"; place = 2 }
    ∷ record { name = "a tab behind a number"; text = "# rounds 1\nf 1\t 2 3 4\n"; place = 2 }
    ∷ record { name = "a backslash behind a number"; text = "# rounds 1\nf 1\\1 2 3 4\n"; place = 2 }
    ∷ record { name = "a blank after a face"; text = "# rounds 1\nf 1 2 3 4 \n"; place = 2 }
    ∷ record { name = "a blank after a skipped part"; text = "# rounds 1\nf 1 2 3 4/4 \n"; place = 2 }
    ∷ record { name = "a newline that ends a skipped part too early"; text = "# rounds 1\nf 1 2 3/\n4\n"; place = 2 }
    ∷ record { name = "groups and materials"; text = "# rounds 1\n#\ng net\nusemtl red\n"; place = 3 }
    ∷ record { name = "two bad lines"; text = "# rounds 1\n#\no\n\n"; place = 3 }
    ∷ []

same : List Damaged → Bool
same [] = true
same (d ∷ ds) = eqb (damage (parse_obj (bytes d.text))) d.place && same ds

all_damaged : same damaged ≡ true
unfolding same parse_obj parse_items read_rounds read_item read_corners read_comment read_corner skip_to vertices_in faces_in net_of read_vertex coordinate natural rows read_integer read_natural read_digits bytes
all_damaged = refl
