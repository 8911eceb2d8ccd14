-- The passes over the edges and the faces of a drawn net of v vertices with side counts s and corners l. Its vertices stand at the front of the table t.
use Rattle.std.specs.Prelude.{◌≡◌, false, List, ℕ, ◌+◌, ◌*◌, ◌/◌, ◌%◌, ◌≤◌, ◌<◌, ℤ, length, take}
use Rattle.bounds.specs.Bounds.{max_coordinate}
use Rattle.lists.specs.Tabulate.{tabulate}
use Rattle.integers.specs.Within.{Within}
use Rattle.topology.specs.HalfEdge.{from, to, mate}
use Rattle.topology.specs.Manifold.{Oriented}
use Rattle.polygons.specs.Polygons.{shape_of, bad_sides}
use Rattle.refinedfaces.specs.Refined.{refined_vertices}
use Rattle.nets.specs.Net.{axis}
use Rattle.splitting.specs.Splitting.{split_coordinate}
use Rattle.sidetable.specs.Table.{Linked}
use Rattle.coordinates.specs.Points.{put_point, PointsWritten}
use Rattle.splitpoints.specs.Points.{BoundedVertex, midpoint_on}

-- what the passes assume: t has room for the vertices of the split
pub record Splittable (s l : List ℕ) (v : ℕ) (t : List ℤ) : Type 0 where
  pub some : 0 < length s
  pub counts : bad_sides s (length l) ≡ false
  pub oriented : Oriented (shape_of s) v l
  pub room : 3 * refined_vertices (shape_of s) v l ≤ length t
  pub within : Within max_coordinate (take (3 * v) t)

-- coordinate a of vertex i of the split, and all of them as a table
unfoldable pub split_axis : (s l : List ℕ) (v : ℕ) → List ℤ → ℕ → ℕ → ℤ
split_axis s l v t a i = split_coordinate (shape_of s) v l (axis (take (3 * v) t) a) i

unfoldable pub split_vertices : (s l : List ℕ) (v : ℕ) → List ℤ → List ℤ
split_vertices s l v t = tabulate (3 * refined_vertices (shape_of s) v l) (λ (k : ℕ). split_axis s l v t (k % 3) (k / 3))

-- t is o with the first i vertices of the split
abbrev pub Made : (s l : List ℕ) (v : ℕ) (o t : List ℤ) → ℕ → Type 0
Made s l v o t i = PointsWritten (split_axis s l v o) o t i

-- before half-edge h, with e edges met: t has room for the midpoint of its edge
pub record SplitTurn (s l w : List ℕ) (v : ℕ) (t : List ℤ) (h e : ℕ) : Type 0 where
  pub linked : Linked s l w
  pub lt : h < length l
  pub ends : (g : ℕ) → g < length l → BoundedVertex t (from l g)
  pub room : h < mate (shape_of s) l h → 3 * (v + e) + 3 ≤ length t

-- after it, with r edges met: the midpoint of its edge went to the table, or the edge was met before
pub data SplitTurned (s l : List ℕ) (v h e r : ℕ) (t t' : List ℤ) : Type 0 where
  met : h < mate (shape_of s) l h → r ≡ e + 1 → t' ≡ put_point t (v + e) (midpoint_on t (from l h) (to (shape_of s) l h) 0)
      (midpoint_on t (from l h) (to (shape_of s) l h) 1) (midpoint_on t (from l h) (to (shape_of s) l h) 2) → SplitTurned s l v h e r t t'
  passed : mate (shape_of s) l h ≤ h → r ≡ e → t' ≡ t → SplitTurned s l v h e r t t'
