-- What the values of the line readers say.
use Rattle.std.specs.Prelude.{Bool, true, false}
use Rattle.textform.specs.Form as form
use Rattle.text.specs.declared.Counts.{Counts}
use Rattle.text.specs.declared.Vertex.{Vertex}
use Rattle.text.specs.declared.Face.{Face}

-- columns with marks, or without
abbrev pub columns_is : Bool → form.Columns
columns_is true = form.with_corner
columns_is false = form.without_corner

abbrev pub counts_is : Counts → form.TextCounts
counts_is n = record { vertices = n.vertices; faces = n.faces; rounds = n.rounds }

abbrev pub vertex_is : Vertex → form.Vertex
vertex_is v = record { x = v.x; y = v.y; z = v.z; mark = v.mark }

abbrev pub face_is : Face → form.Face
face_is f = record { a = f.a; b = f.b; c = f.c; d = f.d }
