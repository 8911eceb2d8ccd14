-- The faces of the split of a drawn net of v vertices with side counts s and corners l: one for each half-edge, in another table.
use Rattle.std.specs.Prelude.{◌≡◌, List, ℕ, ◌*◌, ◌≤◌, ◌<◌, length}
use Rattle.topology.specs.HalfEdge.{edge_count}
use Rattle.polygons.specs.Polygons.{shape_of}
use Rattle.sidetable.specs.Table.{Shaped}
use Rattle.edgenumbers.specs.Edges.{Numbered}

-- its shape and edge numbers are in w, it has `count` edges, and there is room for the faces of the split
pub record NumberedFaces (s l w : List ℕ) (v count : ℕ) (out : List ℕ) : Type 0 where
  pub some : 0 < length s
  pub shaped : Shaped s (length l) w
  pub numbered : Numbered (shape_of s) l w
  pub counted : count ≡ edge_count (shape_of s) l
  pub vertices : v ≤ length l
  pub behind : 2 * length l ≤ length w
  pub room : 4 * length l ≤ length out
