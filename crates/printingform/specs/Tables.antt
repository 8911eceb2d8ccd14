-- The vertices and faces of tables, and how long their text can be.
use Rattle.std.specs.Prelude.{Bool, true, cond, List, ℕ, ◌+◌, ◌*◌, ℤ, pos, get_or}
use Rattle.lists.specs.Tabulate.{tabulate}
use Rattle.textform.specs.Limits.{program_vertices, program_faces}
use Rattle.textform.specs.Form.{Vertex, Face}
use Rattle.textform.specs.Text.{LetteredVertex, answer_text}

-- Paper 01: "The vertex table has three numbers per vertex, the face table four vertex numbers (32-bit, from 0) per face, the mark table one byte per vertex"
abbrev pub text_vertex_at : List ℤ → List ℕ → ℕ → Vertex
text_vertex_at vs ms i = record { x = get_or vs (3 * i) (pos 0); y = get_or vs (3 * i + 1) (pos 0); z = get_or vs (3 * i + 2) (pos 0); mark = get_or ms i 0 }

abbrev pub text_face_at : List ℕ → ℕ → Face
text_face_at fs i = record { a = get_or fs (4 * i) 0; b = get_or fs (4 * i + 1) 0; c = get_or fs (4 * i + 2) 0; d = get_or fs (4 * i + 3) 0 }

unfoldable pub vertices_of : ℕ → List ℤ → List ℕ → List Vertex
vertices_of n vs ms = tabulate n (text_vertex_at vs ms)

unfoldable pub faces_of : ℕ → List ℕ → List Face
faces_of n fs = tabulate n (text_face_at fs)

-- vertices with their letters. Paper 02: "a letter beside each refined point"
abbrev pub lettered_at : List ℤ → List ℕ → List ℕ → ℕ → LetteredVertex
lettered_at vs ms ls i = record { vertex = text_vertex_at vs ms i; letter = get_or ls i 0 }

unfoldable pub lettered_of : ℕ → List ℤ → List ℕ → List ℕ → List LetteredVertex
lettered_of n vs ms ls = tabulate n (lettered_at vs ms ls)

-- the answer with v vertices and f faces from the front of the tables, with letters if `rule` is asked for
abbrev pub tables_text : (rule : Bool) → ℕ → ℕ → List ℤ → List ℕ → List ℕ → List ℕ → List ℕ
tables_text rule v f vs fs ms ls = answer_text rule (lettered_of v vs ms ls) (faces_of f fs)

-- the bytes of the names of the columns, and those after the mark in a vertex line
abbrev pub columns_room : (rule : Bool) → ℕ
columns_room rule = cond rule 18 13

abbrev pub end_room : (rule : Bool) → ℕ
end_room rule = cond rule 3 1

-- room for the answer with v vertices and f faces, whose numbers take at most 39 and 44 bytes: 78 + 40 v + 44 f, with letters 83 + 42 v + 44 f
abbrev pub room_for : (rule : Bool) → ℕ → ℕ → ℕ
room_for rule v f = 65 + columns_room rule + (39 + end_room rule) * v + 44 * f

-- room for every answer of the program: 54,355 bytes
abbrev pub answer_room : ℕ
answer_room = room_for true program_vertices program_faces
