-- What walks along the boundary of a net as it is drawn assume of the caller's tables.
use Rattle.std.specs.Prelude.{◌≡◌, Bool, true, false, List, ℕ, suc, ◌+◌, ◌*◌, ◌≤◌, ◌<◌, length}
use Rattle.bounds.specs.Bounds.{max_half_edges}
use Rattle.search.specs.Search.{first, iterate}
use Rattle.topology.specs.Shape.{Shape}
use Rattle.topology.specs.HalfEdge.{from}
use Rattle.topology.specs.Boundary.{OnBoundary, Way, with_sides, against_sides, boundary_step}
use Rattle.nets.specs.Net.{marked}
use Rattle.topology.specs.Manifold.{Manifold}
use Rattle.polygons.specs.Polygons.{shape_of}
use Rattle.sidetable.specs.Table.{Linked}

-- corners l of a manifold net with the side counts s, and a table w with their mates in front, and the shape where there are side counts
pub record Walkable (s l w : List ℕ) : Type 0 where
  pub vertices : ℕ
  pub net : Manifold (shape_of s) vertices l
  pub table : Linked s l w

-- along or against the sides
abbrev pub way_of : Bool → Way
way_of false = with_sides
way_of true = against_sides

-- the half-edge k steps on from h
abbrev pub stepped : Shape → List ℕ → Bool → ℕ → ℕ → ℕ
stepped S l against h k = iterate (boundary_step S l (way_of against)) k h

-- how many edges it is from the start of h to the next mark
unfoldable pub edges_to : Shape → (l marks : List ℕ) → Bool → ℕ → ℕ
edges_to S l marks against h = suc (first (λ (k : ℕ). marked marks (from l (stepped S l against h (suc k)))) (length l))

-- room for the vertices of a walk from the place `at` on, behind mates and shape
pub record ListRoom (s l w : List ℕ) (at : ℕ) : Type 0 where
  pub behind : length l ≤ at
  pub shape : 0 < length s → 7 * length l ≤ at
  pub room : at + length l ≤ length w
  pub few : at ≤ max_half_edges

-- h is a boundary half-edge that leaves a mark; each corner has a mark or none
pub record StartsAtMark (s l marks : List ℕ) (h : ℕ) : Type 0 where
  pub corners : (g : ℕ) → g < length l → from l g < length marks
  pub boundary : OnBoundary (shape_of s) l h
  pub mark : marked marks (from l h) ≡ true
