-- The hypotheses of paper 01's law: "if all corners of a face and all their neighbours lie inside, those neighbours that are not corners have n = 4, and no edge
-- joins two opposite corners of the face, both directions agree exactly."
use Rattle.std.specs.Prelude.{◌≡◌, List, ℕ, ◌<◌, length}
use Rattle.topology.specs.Shape.{quads}
use Rattle.topology.specs.HalfEdge.{from, to, mate}
use Rattle.topology.specs.Boundary.{boundary_from}
use Rattle.topology.specs.Vertex.{valence}
use Rattle.topology.specs.Quads.{opposite_corner, beyond}
use Rattle.schemelaws.specs.Ordinary.{Ordinary}

-- a vertex lies inside if no boundary half-edge leaves it
abbrev pub Inside : List ℕ → ℕ → Type 0
Inside l q = boundary_from quads l q ≡ length l

-- g is a side of face f; it leaves one of its corners
pub record SideOf (l : List ℕ) (f g : ℕ) : Type 0 where
  pub lt : g < length l
  pub face : quads.face g ≡ f

-- the half-edge h leaves the vertex q; so to h is a neighbour of q
pub record Leaves (l : List ℕ) (q h : ℕ) : Type 0 where
  pub lt : h < length l
  pub start : from l h ≡ q

pub record Regular (l : List ℕ) (f : ℕ) : Type 0 where
  -- "all corners of a face"
  pub corners : (g : ℕ) → SideOf l f g → Inside l (from l g)
  -- "and all their neighbours lie inside"
  pub neighbours : (g h : ℕ) → SideOf l f g → Leaves l (from l g) h → Inside l (to quads l h)
  -- "those neighbours that are not corners have n = 4"
  pub four : (g h : ℕ) → SideOf l f g → Leaves l (from l g) h → ((c : ℕ) → SideOf l f c → to quads l h ≡ from l c → ⊥) → valence l (to quads l h) ≡ 4
  -- "and no edge joins two opposite corners of the face"
  pub opposite : (g h : ℕ) → SideOf l f g → Leaves l (from l g) h → to quads l h ≡ opposite_corner l g → ⊥

-- ---- less is enough: what the law needs of a face, at any valences of its corners. The edges beyond end in rings of four; whether their ends are corners of the
-- face too does not matter.
pub record FourBeyond (l : List ℕ) (f : ℕ) : Type 0 where
  pub corners : (g : ℕ) → SideOf l f g → Inside l (from l g)
  pub start_inside : (g : ℕ) → SideOf l f g → Inside l (from l (beyond l g))
  pub start_four : (g : ℕ) → SideOf l f g → valence l (from l (beyond l g)) ≡ 4
  pub end_inside : (g : ℕ) → SideOf l f g → Inside l (to quads l (beyond l g))
  pub end_four : (g : ℕ) → SideOf l f g → valence l (to quads l (beyond l g)) ≡ 4

-- and what the code asks: all eight edges of both directions are inner and have ordinary ends
pub record EightOrdinary (l : List ℕ) (f : ℕ) : Type 0 where
  pub inner : (g : ℕ) → SideOf l f g → mate quads l g < length l
  pub beyond_inner : (g : ℕ) → SideOf l f g → mate quads l (beyond l g) < length l
  pub corner : (g : ℕ) → SideOf l f g → Ordinary l (from l g)
  pub start : (g : ℕ) → SideOf l f g → Ordinary l (from l (beyond l g))
  pub end : (g : ℕ) → SideOf l f g → Ordinary l (to quads l (beyond l g))
