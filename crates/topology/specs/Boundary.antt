-- The boundary of a net. "By 9 and 10 each boundary vertex ends one boundary edge and starts one, the way the sides run, so the boundary falls into loops."
use Rattle.std.specs.Prelude.{◌≡◌, Bool, ◌&&◌, List, ℕ, ◌<◌, length, eqb}
use Rattle.search.specs.Search.{first}
use Rattle.topology.specs.Shape.{Shape}
use Rattle.topology.specs.HalfEdge.{from, to, mate}

-- "Boundary edges (one face)": h has no mate
pub record OnBoundary (S : Shape) (l : List ℕ) (h : ℕ) : Type 0 where
  pub lt : h < length l
  pub none : mate S l h ≡ length l

-- whether g is a boundary half-edge that leaves the vertex p, or one that enters it
unfoldable pub is_boundary_from : Shape → List ℕ → ℕ → ℕ → Bool
is_boundary_from S l p g = eqb (mate S l g) (length l) && eqb (from l g) p

unfoldable pub is_boundary_into : Shape → List ℕ → ℕ → ℕ → Bool
is_boundary_into S l p g = eqb (mate S l g) (length l) && eqb (to S l g) p

-- the boundary half-edge that leaves p, and the one that enters p; or none
unfoldable pub boundary_from : Shape → List ℕ → ℕ → ℕ
boundary_from S l p = first (is_boundary_from S l p) (length l)

unfoldable pub boundary_into : Shape → List ℕ → ℕ → ℕ
boundary_into S l p = first (is_boundary_into S l p) (length l)

-- the boundary half-edge after h the way the sides run, and the one before it
unfoldable pub along : Shape → List ℕ → ℕ → ℕ
along S l h = boundary_from S l (to S l h)

unfoldable pub back : Shape → List ℕ → ℕ → ℕ
back S l h = boundary_into S l (from l h)

-- "Either may be read with the sides or against them."
pub data Way : Type 0 where
  with_sides against_sides : Way

unfoldable pub other : Way → Way
other with_sides = against_sides
other against_sides = with_sides

-- one step round a loop, and the half-edge whose edge it passes: from the start of h it comes to the start of `boundary_step S l w h`
unfoldable pub boundary_step : Shape → List ℕ → Way → ℕ → ℕ
boundary_step S l with_sides h = along S l h
boundary_step S l against_sides h = back S l h

unfoldable pub passed : Shape → List ℕ → Way → ℕ → ℕ
passed S l with_sides h = h
passed S l against_sides h = back S l h
