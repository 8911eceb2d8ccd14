-- The half-edges that leave each vertex, chained in the order of their numbers, and the mates, in the caller's table w. With n half-edges the mate of g
-- is at g, the head of the chain of v at n + v, and the half-edge after g in its chain at 2n + g; n stands for 'none'.
use Rattle.std.specs.Prelude.{◌≡◌, Bool, ◌&&◌, List, ℕ, ◌+◌, ◌-◌, ◌*◌, ◌≤◌, ◌<◌, length, get_or, eqb}
use Rattle.bounds.specs.Bounds.{max_corners}
use Rattle.search.specs.Search.{first_from}
use Rattle.topology.specs.Shape.{Shape}
use Rattle.topology.specs.HalfEdge.{from, to}
use Rattle.topology.specs.Vertex.{leaves}
use Rattle.polygons.specs.Polygons.{shape_of}
use Rattle.halfedges.specs.Tables.{MateTableOf}
use Rattle.sidetable.specs.Table.{Shaped}

-- whether the half-edge g runs from the vertex a to the vertex b
unfoldable pub side : Shape → List ℕ → ℕ → ℕ → ℕ → Bool
side S l a b g = eqb (from l g) a && eqb (to S l g) b

-- the first half-edge from i on that leaves v, or none
unfoldable pub chain_from : List ℕ → ℕ → ℕ → ℕ
chain_from l v i = first_from (leaves l v) (length l - i) i

-- every corner is below v
pub record CornersBelow (v : ℕ) (l : List ℕ) : Type 0 where
  pub below : (g : ℕ) → g < length l → get_or l g 0 < v

-- corners l of faces with the side counts s, each below their number, and a table w with room for three numbers per half-edge, and with the shape; so few that the
-- number of faces at a vertex has 16 bits
pub record Tables (s l w : List ℕ) : Type 0 where
  pub shaped : Shaped s (length l) w
  pub few : length l ≤ max_corners
  pub corners : CornersBelow (length l) l
  pub room : 3 * length l ≤ length w

-- the chains of the half-edges from h on
pub record Chained (l w : List ℕ) (h : ℕ) : Type 0 where
  pub heads : (v : ℕ) → v < length l → get_or w (length l + v) 0 ≡ chain_from l v h
  pub nexts : (g : ℕ) → h ≤ g → g < length l → get_or w (2 * length l + g) 0 ≡ chain_from l (get_or l g 0) (g + 1)

-- what w holds once chains and mates are built
pub record Adjacency (s l w : List ℕ) : Type 0 where
  pub tables : Tables s l w
  pub chains : Chained l w 0
  pub mated : MateTableOf (shape_of s) l w
