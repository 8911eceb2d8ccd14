-- Midpoints and means of vertices, on a table t of points: "The face point is the mean of its corners and each edge point the midpoint, rounded like any new point".
use Rattle.std.specs.Prelude.{List, ℕ, ◌+◌, ◌≤◌, ◌<◌, ℤ, nat_abs, ◌+ℤ◌, length}
use Rattle.bounds.specs.Bounds.{max_coordinate}
use Rattle.integers.specs.Sum.{sum}
use Rattle.rounding.specs.Rounding.{round}
use Rattle.topology.specs.HalfEdge.{from}
use Rattle.nets.specs.Net.{axis}
use Rattle.coordinates.specs.Points.{InTable}

-- the coordinates of vertex v are in the table, and within the limit on coordinates
pub record BoundedVertex (t : List ℤ) (v : ℕ) : Type 0 where
  pub room : InTable t v
  pub small : (a : ℕ) → a < 3 → nat_abs (axis t a v) ≤ max_coordinate

-- c corners from h on, as many as a face may have
pub record Corners (t : List ℤ) (l : List ℕ) (h c : ℕ) : Type 0 where
  pub some : 0 < c
  pub eight : c ≤ 8
  pub ends : h + c ≤ length l
  pub each : (k : ℕ) → k < c → BoundedVertex t (from l (h + k))

-- coordinate a of the midpoint of the vertices p and q
unfoldable pub midpoint_on : List ℤ → ℕ → ℕ → ℕ → ℤ
midpoint_on t p q a = round (axis t a p +ℤ axis t a q) 2

-- coordinate a of corner k of the corners from h on, and of the mean of c corners
unfoldable pub corner_on : List ℤ → List ℕ → ℕ → ℕ → ℕ → ℤ
corner_on t l h a k = axis t a (from l (h + k))

unfoldable pub mean_on : List ℤ → List ℕ → ℕ → ℕ → ℕ → ℤ
mean_on t l h c a = round (sum c (corner_on t l h a)) c
