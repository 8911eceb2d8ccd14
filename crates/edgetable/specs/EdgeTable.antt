-- The pass over the edges of a net with corners l and marks: the first points of p are the old ones, one for each mark.
use Rattle.std.specs.Prelude.{◌≡◌, List, ℕ, ◌+◌, ◌*◌, ◌≤◌, ◌<◌, ℤ, pos, ◌*ℤ◌, length, get_or, take}
use Rattle.integers.specs.Within.{Within}
use Rattle.curve.specs.Weights.{Weights, tension}
use Rattle.rings.specs.Scales.{coordinate_range}
use Rattle.topology.specs.Shape.{quads}
use Rattle.topology.specs.HalfEdge.{mate, edge}
use Rattle.topology.specs.Manifold.{Manifold}
use Rattle.refinedfaces.specs.Refined.{refined_vertices}
use Rattle.nets.specs.Net.{axis}
use Rattle.scheme.specs.Step.{refined_coordinate}
use Rattle.schemelaws.specs.Numerators.{edge_z}
use Rattle.halfedges.specs.Tables.{Connectivity}
use Rattle.walks.specs.Ready.{Ready}
use Rattle.ringsizes.specs.Classes.{Classes}
use Rattle.coordinates.specs.Points.{Points, Marks, put_point, PointsWritten}
use Rattle.edgeentries.specs.Packed.{Holds}
use Rattle.edgeentries.specs.Entry.{entry_of, point_place, place_of, put_edge, copied, unit_of}
use Rattle.exactedges.specs.Edge.{Flagged, ExactPoint}
use Rattle.edgerounding.specs.Rounded.{rounded_by}

-- coordinate a of the old vertices, of the refined ones, and of the exact points of edges
unfoldable pub old_axis : List ℕ → List ℤ → ℕ → ℕ → ℤ
old_axis marks p a = axis (take (3 * length marks) p) a

unfoldable pub refined_axis : Weights → List ℕ → List ℕ → List ℤ → ℕ → ℕ → ℤ
refined_axis weights l marks p a i = refined_coordinate weights (length marks) l marks (old_axis marks p a) i

unfoldable pub edge_axis : Weights → List ℕ → List ℕ → List ℤ → ℕ → ℕ → ℤ
edge_axis weights l marks p a h = edge_z weights l marks (old_axis marks p a) h

-- what the pass assumes of the tables: mates in front of w, classes of the vertices from `at` on, and room
pub record Round (t : ℕ) (l marks : List ℕ) (p : List ℤ) (w : List ℕ) (at initial : ℕ) : Type 0 where
  pub low : t ≤ 4
  pub net : Manifold quads (length marks) l
  pub table : Connectivity l w
  pub classes : Classes (length marks) at initial l w
  pub vertices : length marks ≤ length l
  pub room : 3 * refined_vertices quads (length marks) l ≤ length p
  pub behind : 8 * length l ≤ at
  pub bounded : Within coordinate_range (take (3 * length marks) p)

-- before half-edge h, with e edges met, the tables have room for the point of its edge
pub record Turn (t : ℕ) (l marks : List ℕ) (p : List ℤ) (w : List ℕ) (at initial h e : ℕ) : Type 0 where
  pub low : t ≤ 4
  pub ready : Ready l w
  pub points : Points l (take (3 * length marks) p)
  pub marked : Marks l marks
  pub classes : Classes (length marks) at initial l w
  pub lt : h < length l
  pub other : mate quads l h ≡ h → ⊥
  pub vertices : length marks ≤ length l
  pub below : e ≤ length l
  pub entries : 2 * length l ≤ length w
  pub old : 3 * length marks ≤ length p
  pub room : h < mate quads l h → 3 * (length marks + e) + 3 ≤ length p
  pub exact : h < mate quads l h → point_place (length l) e + 6 ≤ length w

-- after it, with r edges met: the point of its edge went, rounded and exact, to the tables, and its entry; or the edge was met before, and has the entry of its mate
pub data Turned (t : ℕ) (l marks : List ℕ) (h e r : ℕ) (p : List ℤ) (w : List ℕ) (p' : List ℤ) (w' : List ℕ) : Type 0 where
  met : (flag : ℕ) (x y z : ℤ) → h < mate quads l h → r ≡ e + 1 → Flagged l h flag → ExactPoint (tension t) flag (λ (a : ℕ). edge_z (tension t) l marks (axis (take (3 * length marks) p) a) h) x y z
      → p' ≡ put_point p (length marks + e) (rounded_by (tension t) flag x) (rounded_by (tension t) flag y) (rounded_by (tension t) flag z) → w' ≡ put_edge (length l) w h e flag x y z
      → Turned t l marks h e r p w p' w'
  passed : mate quads l h < h → r ≡ e → p' ≡ p → w' ≡ copied (length l) w (mate quads l h) h → Turned t l marks h e r p w p' w'

-- the entry of the edge of h: its number and its flag
pub record Entry (l : List ℕ) (h entry : ℕ) : Type 0 where
  pub flag : ℕ
  pub flagged : Flagged l h flag
  pub is : entry ≡ edge quads l h + flag

-- w has coordinate a of an exact point for an entry: over `edge_scale` it is X
pub record StoredAt (weights : Weights) (n : ℕ) (w : List ℕ) (a entry : ℕ) (X : ℤ) : Type 0 where
  pub number : ℤ
  pub holds : Holds w (place_of n entry + 2 * a) number
  pub value : pos (unit_of weights entry) *ℤ number ≡ X

-- of the tables p₀ and w₀, p and w have the points of the edges of the half-edges below h, of which there are e: rounded behind the old ones, and exact
pub record Edges (t : ℕ) (l marks : List ℕ) (p₀ : List ℤ) (w₀ : List ℕ) (p : List ℤ) (w : List ℕ) (h e : ℕ) : Type 0 where
  pub old : take (3 * length marks) p ≡ take (3 * length marks) p₀
  pub points : PointsWritten (refined_axis (tension t) l marks p₀) p₀ p (length marks + e)
  pub kept : length w ≡ length w₀
  pub mates : (k : ℕ) → k < length l → get_or w k 0 ≡ get_or w₀ k 0
  pub behind : (k : ℕ) → 8 * length l ≤ k → get_or w k 0 ≡ get_or w₀ k 0
  pub entries : (g : ℕ) → g < h → Entry l g (entry_of (length l) w g)
  pub stored : (a g : ℕ) → a < 3 → g < h → StoredAt (tension t) (length l) w a (entry_of (length l) w g) (edge_axis (tension t) l marks p₀ a g)
