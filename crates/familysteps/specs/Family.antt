-- The lines of vertices in a family of faces whose edges all are plain.
use Rattle.std.specs.Prelude.{◌≡◌, List, ℕ, ◌+◌, get_or}
use Rattle.topology.specs.Shape.{quads}
use Rattle.topology.specs.HalfEdge.{mate}
use Rattle.familylines.specs.Steps.{Line, FirstHalf, LastHalf}
use Rattle.familysteps.specs.declared.Family.{Family}

-- entry i of four
abbrev pub side : List ℕ → ℕ → ℕ
side l i = get_or l i 0

-- what the sixteen steps from h on ask of the vertices f
pub record FamilyOf (l : List ℕ) (h : ℕ) (f : Family) : Type 0 where
  pub first₀ : FirstHalf l h h (side f.corners 0) (side f.edges 0) (side f.corners 1)
  pub first₁ : FirstHalf l h (h + 4) (side f.corners 1) (side f.edges 1) (side f.corners 2)
  pub first₂ : FirstHalf l h (h + 8) (side f.corners 2) (side f.edges 2) (side f.corners 3)
  pub first₃ : FirstHalf l h (h + 12) (side f.corners 3) (side f.edges 3) (side f.corners 0)
  pub last₀ : LastHalf l h (h + 7) (side f.corners 0) (side f.edges 0) (side f.corners 1)
  pub last₁ : LastHalf l h (h + 11) (side f.corners 1) (side f.edges 1) (side f.corners 2)
  pub last₂ : LastHalf l h (h + 15) (side f.corners 2) (side f.edges 2) (side f.corners 3)
  pub last₃ : LastHalf l h (h + 3) (side f.corners 3) (side f.edges 3) (side f.corners 0)
  pub spoke₀ : Line l (h + 1) (side f.faces 0) (side f.edges 0) f.centre (side f.edges 2)
  pub spoke₁ : Line l (h + 5) (side f.faces 1) (side f.edges 1) f.centre (side f.edges 3)
  pub spoke₂ : Line l (h + 9) (side f.faces 2) (side f.edges 2) f.centre (side f.edges 0)
  pub spoke₃ : Line l (h + 2) (side f.faces 3) (side f.edges 3) f.centre (side f.edges 1)
  pub back₀ : mate quads l (h + 6) ≡ h + 1
  pub back₁ : mate quads l (h + 10) ≡ h + 5
  pub back₂ : mate quads l (h + 14) ≡ h + 9
  pub back₃ : mate quads l (h + 13) ≡ h + 2
