-- One round's topology in the caller's tables. A net of n half-edges has its corners at the front of one table; another table w has the entries
-- of the edges, behind the mates. The refined corners take the place of the old ones.
use Rattle.std.specs.Prelude.{◌≡◌, cond, List, ℕ, zero, suc, ◌+◌, ◌*◌, ◌/◌, ◌%◌, ◌≤◌, ◌<◌, length, get_or, take, ltb}
use Rattle.lists.specs.Tabulate.{tabulate}
use Rattle.topology.specs.Shape.{Shape, quads}
use Rattle.topology.specs.HalfEdge.{edge_count, edge}
use Rattle.edgeentries.specs.Entry.{entry_of, edge_of}
use Rattle.halfedges.specs.Tables.{Quadrilaterals}

-- corner j of the refined face h, from the corners c and the edge numbers e
unfoldable pub corner_by : Shape → ℕ → ℕ → (ℕ → ℕ) → (ℕ → ℕ) → ℕ → ℕ → ℕ
corner_by S v count c e h zero = c h
corner_by S v count c e h (suc zero) = v + e h
corner_by S v count c e h (suc (suc zero)) = v + count + S.face h
corner_by S v count c e h (suc (suc (suc j))) = v + e (S.prev h)

-- number k of the refined corners, from the corners c and the edge numbers in w
abbrev pub refined_by : (n v count : ℕ) → List ℕ → List ℕ → ℕ → ℕ
refined_by n v count c w k = corner_by quads v count (λ (h : ℕ). get_or c h 0) (λ (h : ℕ). edge_of (entry_of n w h)) (k / 4) (k % 4)

-- a face f of a net of n half-edges and v vertices, with corners and edge numbers in tables that have room for the refined ones
pub record FaceIn (n v count f : ℕ) (faces w : List ℕ) : Type 0 where
  pub sides : Quadrilaterals n
  pub lt : 4 * f + 4 ≤ n
  pub vertices : v ≤ n
  pub edges : count ≤ n
  pub room : 4 * n ≤ length faces
  pub numbers : 2 * n ≤ length w
  pub below : (g : ℕ) → g < n → edge_of (entry_of n w g) ≤ n

-- a net of n half-edges, v vertices and `count` edges, its corners at the front of `faces`, the edges numbered in w, and room for the refined corners
pub record FacesIn (n v count : ℕ) (faces w : List ℕ) : Type 0 where
  pub sides : Quadrilaterals n
  pub vertices : v ≤ n
  pub room : 4 * n ≤ length faces
  pub behind : 2 * n ≤ length w
  pub numbered : (g : ℕ) → g < n → edge_of (entry_of n w g) ≡ edge quads (take n faces) g
  pub counted : count ≡ edge_count quads (take n faces)

-- the first v marks, and 0 up to `count`
unfoldable pub extended : ℕ → ℕ → List ℕ → List ℕ
extended v count marks = tabulate count (λ (p : ℕ). cond (ltb p v) (get_or marks p 0) 0)
