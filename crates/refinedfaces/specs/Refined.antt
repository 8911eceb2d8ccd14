-- One round on the faces of a net of v vertices, with corners l in the shape S.
use Rattle.std.specs.Prelude.{cond, List, [], ◌∷◌, ℕ, zero, suc, ◌+◌, ◌*◌, ◌/◌, ◌%◌, length, get_or, ltb}
use Rattle.lists.specs.Tabulate.{tabulate}
use Rattle.topology.specs.Shape.{Shape, quads}
use Rattle.topology.specs.HalfEdge.{from, edge_count, edge}

-- "Refined vertices are the old ones, then one per edge, then one per face."
abbrev pub refined_vertices : Shape → ℕ → List ℕ → ℕ
refined_vertices S v l = v + edge_count S l + S.faces (length l)

-- "Face f gives faces 4f+i, i = 0 to 3: corner i, point of side i, face point, point of side i-1."
-- So each side gives one face: the refined face h lies at the half-edge h. Paper 02 has other faces numbered the same way, "counted on from one drawn face to the next".
abbrev pub refined_face : Shape → ℕ → List ℕ → ℕ → List ℕ
refined_face S v l h = from l h ∷ (v + edge S l h) ∷ (v + edge_count S l + S.face h) ∷ (v + edge S l (S.prev h)) ∷ []

-- corner j of the refined face h
unfoldable pub corner : Shape → ℕ → List ℕ → ℕ → ℕ → ℕ
corner S v l h j = get_or (refined_face S v l h) j 0

-- the corners of all refined faces
unfoldable pub refined : Shape → ℕ → List ℕ → List ℕ
refined S v l = tabulate (4 * length l) (λ (g : ℕ). corner S v l (g / 4) (g % 4))

-- "Old marks stay; new ones are 0."
unfoldable pub refined_marks : Shape → ℕ → List ℕ → List ℕ → List ℕ
refined_marks S v l marks = tabulate (refined_vertices S v l) (λ (p : ℕ). cond (ltb p v) (get_or marks p 0) 0)

-- the number of vertices and the corners after k rounds of a net with four-sided faces
unfoldable mutual
  pub vertices_after : ℕ → ℕ → List ℕ → ℕ
  vertices_after zero v l = v
  vertices_after (suc k) v l = refined_vertices quads (vertices_after k v l) (corners_after k v l)

  pub corners_after : ℕ → ℕ → List ℕ → List ℕ
  corners_after zero v l = l
  corners_after (suc k) v l = refined quads (vertices_after k v l) (corners_after k v l)
