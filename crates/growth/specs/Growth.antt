-- How many vertices, edges, faces and corners a net has, and has after refinement steps. A step is the split or a round.
use Rattle.std.specs.Prelude.{List, [], ◌∷◌, ℕ, zero, suc, ◌+◌, ◌*◌, ◌≤◌, length}
use Rattle.bounds.specs.Bounds.{max_rounds, max_corners}
use Rattle.topology.specs.Shape.{Shape}
use Rattle.topology.specs.HalfEdge.{edge_count}
use Rattle.polygons.specs.Polygons.{shape_of, Sided}
use Rattle.halfedges.specs.Tables.{MateTableOf}

pub record Counts : Type 0 where
  pub vertices : ℕ
  pub edges : ℕ
  pub faces : ℕ
  pub corners : ℕ

abbrev pub counts : ℕ → ℕ → ℕ → ℕ → Counts
counts vertices edges faces corners = record { vertices = vertices; edges = edges; faces = faces; corners = corners }

-- those of a net of v vertices with corners l in the shape S
unfoldable pub counts_of : Shape → ℕ → List ℕ → Counts
counts_of S v l = counts v (edge_count S l) (S.faces (length l)) (length l)

-- "Refined vertices are the old ones, then one per edge, then one per face.": each edge becomes two, and each corner gives one more edge, one face and four corners
unfoldable pub grown : Counts → Counts
grown c = counts (c.vertices + c.edges + c.faces) (2 * c.edges + c.corners) c.corners (4 * c.corners)

-- after k refinement steps
unfoldable pub grown_by : ℕ → Counts → Counts
grown_by zero c = c
grown_by (suc k) c = grown (grown_by k c)

-- "Before refining, a face of n sides is to be split once": the steps before the rounds, from the side counts
unfoldable pub splits : List ℕ → ℕ
splits [] = 0
splits (c ∷ s) = 1

-- no more vertices, edges and faces than corners
pub record Bounded (c : Counts) : Type 0 where
  pub vertices : c.vertices ≤ c.corners
  pub edges : c.edges ≤ c.corners
  pub faces : c.faces ≤ c.corners

-- corners l of faces with the side counts s, of v vertices, for k rounds; their mates stand at the front of w
pub record Growable (k : ℕ) (l s : List ℕ) (v : ℕ) (w : List ℕ) : Type 0 where
  pub rounds : k ≤ max_rounds
  pub sided : Sided s (length l)
  pub few : length l ≤ max_corners
  pub vertices : v ≤ length l
  pub room : length l ≤ length w
  pub mated : MateTableOf (shape_of s) l w
