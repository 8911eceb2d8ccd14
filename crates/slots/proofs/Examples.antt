-- Which half-edges repeat a side: an edge of three faces, a face turned against its neighbour, two triangles; and two squares where none does. Computed. Assumes nothing.
use mathlib.Core.Path.{◌≡◌, refl}
use mathlib.Core.Bool.{cond}
use mathlib.Core.List.{List, [], ◌∷◌, map}
use Prim.Native.Nat.{ℕ}
use lib.ListN.{length}
use Rattle.lists.specs.Tabulate.{tabulate}
use Rattle.search.specs.Search.{first_from, first}
use Rattle.topology.specs.Shape.{quads}
use Rattle.topology.specs.HalfEdge.{from, to}
use Rattle.polygons.specs.Polygons.{shape_of, polygons, face_then, no_face, side_after}
use Rattle.adjacency.specs.Chains.{side}
use Rattle.slotsteps.specs.Slots.{first_alike, repeats}

-- side counts, corners, and 1 at each half-edge that repeats a side
record Case : Type 0 where
  sides : List ℕ
  corners : List ℕ
  expected : List ℕ

cases : List Case
cases =
    record { sides = []; corners = 0 ∷ 1 ∷ 2 ∷ 3 ∷ 1 ∷ 0 ∷ 4 ∷ 5 ∷ 0 ∷ 1 ∷ 6 ∷ 7 ∷ []; expected = 0 ∷ 0 ∷ 0 ∷ 0 ∷ 0 ∷ 0 ∷ 0 ∷ 0 ∷ 1 ∷ 0 ∷ 0 ∷ 0 ∷ [] }
    ∷ record { sides = []; corners = 0 ∷ 1 ∷ 2 ∷ 3 ∷ 1 ∷ 2 ∷ 4 ∷ 5 ∷ []; expected = 0 ∷ 0 ∷ 0 ∷ 0 ∷ 1 ∷ 0 ∷ 0 ∷ 0 ∷ [] }
    ∷ record { sides = []; corners = 0 ∷ 1 ∷ 2 ∷ 3 ∷ 2 ∷ 1 ∷ 4 ∷ 5 ∷ []; expected = 0 ∷ 0 ∷ 0 ∷ 0 ∷ 0 ∷ 0 ∷ 0 ∷ 0 ∷ [] }
    ∷ record { sides = 3 ∷ 3 ∷ []; corners = 0 ∷ 1 ∷ 2 ∷ 3 ∷ 2 ∷ 0 ∷ []; expected = 0 ∷ 0 ∷ 0 ∷ 0 ∷ 1 ∷ 0 ∷ [] }
    ∷ []

marked : Case → List ℕ
marked c = tabulate (length c.corners) (λ h. cond (repeats (shape_of c.sides) c.corners h) 1 0)

agree : map marked cases ≡ map (λ c. c.expected) cases
unfolding cases marked tabulate repeats first_alike first first_from side from to quads shape_of polygons face_then no_face side_after
agree = refl
