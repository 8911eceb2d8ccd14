-- What walks assume of the caller's tables during a round, and what they find.
use Rattle.std.specs.Prelude.{◌≡◌, List, ℕ, ◌<◌, length, eqb}
use Rattle.search.specs.Search.{first}
use Rattle.topology.specs.Shape.{Shape, quads}
use Rattle.topology.specs.HalfEdge.{from}
use Rattle.topology.specs.Boundary.{boundary_from}
use Rattle.topology.specs.Vertex.{valence, turns}
use Rattle.topology.specs.Manifold.{Manifold}
use Rattle.halfedges.specs.Tables.{Connectivity}
use Rattle.topology.specs.Quads.{fan_place}

-- corners l of a manifold net in the shape S
pub record Closed (S : Shape) (l : List ℕ) : Type 0 where
  pub vertices : ℕ
  pub net : Manifold S vertices l

-- corners l of a manifold net with four-sided faces, and a table w with their mates in front
pub record Ready (l w : List ℕ) : Type 0 where
  pub vertices : ℕ
  pub net : Manifold quads vertices l
  pub table : Connectivity l w

-- the boundary half-edge that leaves the vertex of h, or none; and where there is one, the place of h in the fan that starts with it.
-- Open, and may differ between correct programs: the place where there is none
pub record StartOfFan (S : Shape) (l : List ℕ) (h s i : ℕ) : Type 0 where
  pub side : s ≡ boundary_from S l (from l h)
  pub place : boundary_from S l (from l h) < length l → i ≡ first (λ (j : ℕ). eqb (turns S l j (boundary_from S l (from l h))) h) (valence l (from l h))

-- with four-sided faces
pub record FanStart (l : List ℕ) (h s i : ℕ) : Type 0 where
  pub side : s ≡ boundary_from quads l (from l h)
  pub place : boundary_from quads l (from l h) < length l → i ≡ fan_place l (from l h) h
