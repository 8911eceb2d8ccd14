-- What functions ask of the caller's tables of half-edges: corners l, and the mates at the front of a table w.
use Rattle.std.specs.Prelude.{◌≡◌, List, ℕ, ◌%◌, ◌≤◌, ◌<◌, length, get_or}
use Rattle.bounds.specs.Bounds.{max_half_edges}
use Rattle.topology.specs.Shape.{Shape, quads}
use Rattle.topology.specs.HalfEdge.{mate}

-- n half-edges make four-sided faces, at most as many as are refined once more
pub record Quadrilaterals (n : ℕ) : Type 0 where
  pub fours : n % 4 ≡ 0
  pub few : n ≤ max_half_edges

-- w starts with the mates of the half-edges of a net in the shape S
pub record MateTableOf (S : Shape) (l w : List ℕ) : Type 0 where
  pub mates : (g : ℕ) → g < length l → get_or w g 0 ≡ mate S l g

-- with four-sided faces
abbrev pub MateTable : (l w : List ℕ) → Type 0
MateTable l w = MateTableOf quads l w

-- corners and mates
pub record Connectivity (l w : List ℕ) : Type 0 where
  pub sides : Quadrilaterals (length l)
  pub room : length l ≤ length w
  pub mated : MateTable l w
