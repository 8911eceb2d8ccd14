-- Default marks of small nets, computed. Assumes nothing.
use mathlib.Core.Path.{◌≡◌, refl}
use mathlib.Core.List.{List, [], ◌∷◌}
use Prim.Native.Nat.{ℕ}
use Prim.Native.String.{String}
use Rattle.lists.specs.Tabulate.{tabulate}
use Rattle.search.specs.Search.{count}
use Rattle.topology.specs.HalfEdge.{from}
use Rattle.topology.specs.Vertex.{leaves, valence}
use Rattle.defaults.specs.Defaults.{default_mark, default_marks}

record Example : Type 0 where
  name : String
  vertices : ℕ
  faces : List ℕ
  marks : List ℕ

abbrev examples : List Example
examples =
    record { name = "no vertices"; vertices = 0; faces = []; marks = [] }
    ∷ record { name = "no faces"; vertices = 2; faces = []; marks = 0 ∷ 0 ∷ [] }
    ∷ record { name = "a square"; vertices = 4; faces = 0 ∷ 1 ∷ 3 ∷ 2 ∷ []; marks = 1 ∷ 1 ∷ 1 ∷ 1 ∷ [] }
    ∷ record { name = "a square, and a vertex in no face"; vertices = 5; faces = 0 ∷ 1 ∷ 3 ∷ 2 ∷ []; marks = 1 ∷ 1 ∷ 1 ∷ 1 ∷ 0 ∷ [] }
    ∷ record { name = "two squares"; vertices = 6; faces = 0 ∷ 1 ∷ 4 ∷ 3 ∷ 1 ∷ 2 ∷ 5 ∷ 4 ∷ []; marks = 1 ∷ 0 ∷ 1 ∷ 1 ∷ 0 ∷ 1 ∷ [] }
    ∷ record { name = "three squares in an L"; vertices = 8; faces = 0 ∷ 1 ∷ 4 ∷ 3 ∷ 1 ∷ 2 ∷ 5 ∷ 4 ∷ 3 ∷ 4 ∷ 7 ∷ 6 ∷ []; marks = 1 ∷ 0 ∷ 1 ∷ 0 ∷ 0 ∷ 1 ∷ 1 ∷ 1 ∷ [] }
    ∷ record { name = "a cube"; vertices = 8; faces = 0 ∷ 3 ∷ 2 ∷ 1 ∷ 4 ∷ 5 ∷ 6 ∷ 7 ∷ 0 ∷ 1 ∷ 5 ∷ 4 ∷ 1 ∷ 2 ∷ 6 ∷ 5 ∷ 2 ∷ 3 ∷ 7 ∷ 6 ∷ 3 ∷ 0 ∷ 4 ∷ 7 ∷ []; marks = 0 ∷ 0 ∷ 0 ∷ 0 ∷ 0 ∷ 0 ∷ 0 ∷ 0 ∷ [] }
    ∷ record { name = "a cylinder"; vertices = 8; faces = 0 ∷ 1 ∷ 5 ∷ 4 ∷ 1 ∷ 2 ∷ 6 ∷ 5 ∷ 2 ∷ 3 ∷ 7 ∷ 6 ∷ 3 ∷ 0 ∷ 4 ∷ 7 ∷ []; marks = 0 ∷ 0 ∷ 0 ∷ 0 ∷ 0 ∷ 0 ∷ 0 ∷ 0 ∷ [] }
    ∷ record { name = "two squares that touch"; vertices = 7; faces = 0 ∷ 1 ∷ 2 ∷ 3 ∷ 2 ∷ 4 ∷ 5 ∷ 6 ∷ []; marks = 1 ∷ 1 ∷ 0 ∷ 1 ∷ 1 ∷ 1 ∷ 1 ∷ [] }
    ∷ record { name = "a corner that is no vertex"; vertices = 4; faces = 0 ∷ 1 ∷ 2 ∷ 9 ∷ []; marks = 1 ∷ 1 ∷ 1 ∷ 0 ∷ [] }
    ∷ record { name = "a vertex twice in a face"; vertices = 3; faces = 0 ∷ 1 ∷ 0 ∷ 2 ∷ []; marks = 0 ∷ 1 ∷ 1 ∷ [] }
    ∷ record { name = "a face twice"; vertices = 4; faces = 0 ∷ 1 ∷ 2 ∷ 3 ∷ 0 ∷ 1 ∷ 2 ∷ 3 ∷ []; marks = 0 ∷ 0 ∷ 0 ∷ 0 ∷ [] }
    ∷ []

computed : List Example → List (List ℕ)
computed [] = []
computed (e ∷ es) = default_marks e.vertices e.faces ∷ computed es

stated : List Example → List (List ℕ)
stated [] = []
stated (e ∷ es) = e.marks ∷ stated es

all_marks : computed examples ≡ stated examples
unfolding computed stated default_marks default_mark valence leaves count from tabulate
all_marks = refl
