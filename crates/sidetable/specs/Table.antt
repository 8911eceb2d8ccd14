-- The shape of a net with side counts in the caller's table w: with n half-edges the next of h is at 4n + h, the one before it at 5n + h, its face at 6n + h.
use Rattle.std.specs.Prelude.{◌≡◌, List, ℕ, ◌+◌, ◌*◌, ◌≤◌, ◌<◌, length, get_or, set}
use Rattle.bounds.specs.Bounds.{max_half_edges}
use Rattle.topology.specs.Shape.{Shape}
use Rattle.polygons.specs.Polygons.{polygons, shape_of, Sided}
use Rattle.tables.specs.Tables.{SameOutside}
use Rattle.halfedges.specs.Tables.{MateTableOf}

-- w with next, prev and face of the half-edge h
abbrev pub side_written : (n h next prev face : ℕ) → List ℕ → List ℕ
side_written n h next prev face w = set (set (set w (4 * n + h) next) (5 * n + h) prev) (6 * n + h) face

-- the half-edges below e are written
pub record ShapeTable (S : Shape) (n : ℕ) (w : List ℕ) (e : ℕ) : Type 0 where
  pub next : (h : ℕ) → h < e → get_or w (4 * n + h) 0 ≡ S.next h
  pub prev : (h : ℕ) → h < e → get_or w (5 * n + h) 0 ≡ S.prev h
  pub face : (h : ℕ) → h < e → get_or w (6 * n + h) 0 ≡ S.face h

-- side counts s of n corners, and room for the table where there are any
pub record ShapeRoom (s : List ℕ) (n : ℕ) (w : List ℕ) : Type 0 where
  pub few : n ≤ max_half_edges
  pub sided : Sided s n
  pub room : 0 < length s → 7 * n ≤ length w

-- the table is there, where there are side counts
pub record Shaped (s : List ℕ) (n : ℕ) (w : List ℕ) : Type 0 where
  pub space : ShapeRoom s n w
  pub table : 0 < length s → ShapeTable (polygons s) n w n

-- w' is w with the table; without side counts it is w
pub record ShapeBuilt (s : List ℕ) (n : ℕ) (w w' : List ℕ) : Type 0 where
  pub shaped : Shaped s n w'
  pub outside : SameOutside (4 * n) (7 * n) w w'
  pub none : length s ≡ 0 → w' ≡ w

-- corners l, their shape, and the mates at the front of w
pub record Linked (s l w : List ℕ) : Type 0 where
  pub shaped : Shaped s (length l) w
  pub room : length l ≤ length w
  pub mated : MateTableOf (shape_of s) l w
