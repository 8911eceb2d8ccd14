-- Answers to short texts, computed; the program itself prints the longer ones. Assumes nothing.
use mathlib.Core.Path.{◌≡◌, refl}
use mathlib.Core.List.{List, [], ◌∷◌}
use Prim.Native.Nat.{ℕ}
use Prim.Native.String.{String}
use Rattle.lists.specs.Tabulate.{tabulate}
use Rattle.search.specs.Search.{first_from, first, any, count, iterate}
use Rattle.topology.specs.Shape.{quads}
use Rattle.topology.specs.HalfEdge.{from, to, opposed, mate}
use Rattle.topology.specs.Boundary.{is_boundary_from, boundary_from}
use Rattle.topology.specs.Vertex.{leaves, valence, turn, start, stops, faces_met}
use Rattle.refusals.specs.Refusals.{bad_mark, bad_corner, isolated, repeated_side, non_manifold, bad_valence, marked_ring}
use Rattle.splitting.specs.Splitting.{start_net}
use Rattle.origins.specs.Origins.{start_origin, origin_from, origin_after, letters}
use Rattle.verdict.specs.Verdict.{limits_verdict, tables_verdict, size_verdict, room_verdict, bad_coordinate, net_verdict, coordinates_verdict, shape_verdict, faces_verdict, adjacency_verdict, vertex_verdict}
use Rattle.polygons.specs.Polygons.{shape_of}
use Rattle.scheme.specs.Step.{steps}
use Rattle.decimalform.specs.Decimal.{read_digits, read_natural, read_integer, natural_text, integer_text}
use Rattle.textform.specs.Bytes.{bytes}
use Rattle.textform.specs.Form.{read_names, coordinate, natural, read_counts, read_vertex, read_face, rows, parse_head, parse_body, parse}
use Rattle.textform.specs.Text.{pair_text, texts, numbers_text, lettered_text, face_text, answer_text, refusal_text}
use Rattle.readingform.specs.Loaded.{coordinates_of, marks_of, corners_of, counts_verdict}
use Rattle.printingform.specs.Tables.{lettered_of, faces_of}
use Rattle.objform.specs.Form.{skip_to, read_corner, read_corners, read_comment, read_item, read_rounds, vertices_in, faces_in, net_of, parse_items, parse_obj}
use Rattle.programform.specs.Answer.{parse_any, program_text}

pub record Example : Type 0 where
  pub text : String
  pub answer : String

abbrev example : String → String → Example
example t a = record { text = t; answer = a }

-- no text; a form that ends too early; 13 before 1; 1 before 4; the empty net; the same with letters, and their refusals; OBJ: an unfinished line, 13 before 1, 1, the empty net
abbrev examples : List Example
examples =
    example "" "refusal place\n13 1\n"
    ∷ example "vertices faces rounds\n4 1 1\nx y z\n0 0 0\n" "refusal place\n13 5\n"
    ∷ example "vertices faces rounds\n0 0 7\nx y z\na b c d\n\n" "refusal place\n13 5\n"
    ∷ example "vertices faces rounds\n0 0 7\nx y z\na b c d\n" "refusal place\n1 0\n"
    ∷ example "vertices faces rounds\n0 0 0\nx y z\na b c d\n" "vertices faces\n0 0\nx y z corner\na b c d\n"
    ∷ example "vertices faces rounds rule\n0 0 0\nx y z\na b c d\n" "vertices faces\n0 0\nx y z corner rule\na b c d\n"
    ∷ example "vertices faces rounds rule\n0 0 7\nx y z\na b c d\n" "refusal place\n1 0\n"
    ∷ example "vertices faces rounds rules\n0 0 0\nx y z\na b c d\n" "refusal place\n13 1\n"
    ∷ example "#" "refusal place\n13 1\n"
    ∷ example "# rounds 7\nv 0 0 0\nvn 0 0 1\n" "refusal place\n13 3\n"
    ∷ example "# rounds 7\n" "refusal place\n1 0\n"
    ∷ example "# rounds 0\n# rounds 7\n" "vertices faces\n0 0\nx y z corner\na b c d\n"
    ∷ []

answers_of : List Example → List (List ℕ)
answers_of [] = []
answers_of (e ∷ es) = bytes e.answer ∷ answers_of es

program_of : List Example → List (List ℕ)
program_of [] = []
program_of (e ∷ es) = program_text (bytes e.text) ∷ program_of es

all_examples : program_of examples ≡ answers_of examples
unfolding program_of answers_of program_text parse_any parse_obj parse_items read_rounds read_item read_corners read_comment read_corner skip_to vertices_in faces_in net_of bytes parse parse_head parse_body read_names read_counts read_vertex read_face coordinate natural rows read_integer read_natural read_digits natural_text pair_text refusal_text answer_text texts counts_verdict limits_verdict tables_verdict size_verdict room_verdict net_verdict coordinates_verdict shape_verdict faces_verdict adjacency_verdict vertex_verdict shape_of first first_from steps coordinates_of marks_of corners_of lettered_of faces_of tabulate
all_examples = refl

lettered-square : program_text (bytes "vertices faces rounds rule\n4 1 0\nx y z corner\n0 0 0 1\n16 0 0 1\n16 16 0 1\n0 16 0 1\na b c d\n0 1 2 3\n")
    ≡ bytes "vertices faces\n4 1\nx y z corner rule\n0 0 0 1 V\n16 0 0 1 V\n16 16 0 1 V\n0 16 0 1 V\na b c d\n0 1 2 3\n"
unfolding program_text parse_any bytes parse parse_head parse_body read_names read_counts read_vertex read_face coordinate natural rows read_integer read_natural read_digits natural_text integer_text pair_text numbers_text lettered_text face_text refusal_text answer_text texts counts_verdict limits_verdict tables_verdict size_verdict room_verdict bad_coordinate net_verdict coordinates_verdict shape_verdict faces_verdict adjacency_verdict vertex_verdict bad_mark bad_corner isolated repeated_side non_manifold bad_valence marked_ring shape_of first first_from any count iterate quads from to opposed mate is_boundary_from boundary_from leaves valence turn start stops faces_met start_net start_origin origin_from origin_after letters steps coordinates_of marks_of corners_of lettered_of faces_of tabulate
lettered-square = refl

-- an OBJ text with a slash and a comment; a corner that is no vertex, with its face
obj_quad : program_text (bytes "# rounds 0\nf 1/1 2 3 4\nv 0 0 0\nv 16 0 0\n#\nv 16 16 0\nv 0 -16 0\n") ≡ bytes "vertices faces\n4 1\nx y z corner\n0 0 0 0\n16 0 0 0\n16 16 0 0\n0 -16 0 0\na b c d\n0 1 2 3\n"
unfolding program_text parse_any bytes parse parse_head parse_body read_names read_counts read_vertex read_face coordinate natural rows read_integer read_natural read_digits natural_text integer_text pair_text numbers_text lettered_text face_text refusal_text answer_text texts counts_verdict limits_verdict tables_verdict size_verdict room_verdict bad_coordinate net_verdict coordinates_verdict shape_verdict faces_verdict adjacency_verdict vertex_verdict bad_mark bad_corner isolated repeated_side non_manifold bad_valence marked_ring shape_of first first_from any count iterate quads from to opposed mate is_boundary_from boundary_from leaves valence turn start stops faces_met start_net start_origin origin_from origin_after letters steps coordinates_of marks_of corners_of lettered_of faces_of tabulate parse_obj parse_items read_rounds read_item read_corners read_comment read_corner skip_to vertices_in faces_in net_of
obj_quad = refl

obj_refused : program_text (bytes "# rounds 0\nv 0 0 0\nv 16 0 0\nv 16 16 0\nv 0 -16 0\nf 1 2 3 4\nf 1 2 3 5\n") ≡ bytes "refusal place\n7 1\n"
unfolding program_text parse_any bytes parse parse_head parse_body read_names read_counts read_vertex read_face coordinate natural rows read_integer read_natural read_digits natural_text integer_text pair_text numbers_text lettered_text face_text refusal_text answer_text texts counts_verdict limits_verdict tables_verdict size_verdict room_verdict bad_coordinate net_verdict coordinates_verdict shape_verdict faces_verdict adjacency_verdict vertex_verdict bad_mark bad_corner isolated repeated_side non_manifold bad_valence marked_ring shape_of first first_from any count iterate quads from to opposed mate is_boundary_from boundary_from leaves valence turn start stops faces_met start_net start_origin origin_from origin_after letters steps coordinates_of marks_of corners_of lettered_of faces_of tabulate parse_obj parse_items read_rounds read_item read_corners read_comment read_corner skip_to vertices_in faces_in net_of
obj_refused = refl
