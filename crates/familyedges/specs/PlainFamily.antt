-- A family of faces whose edges all are plain.
use Rattle.std.specs.Prelude.{List, [], ◌∷◌, ℕ, ◌+◌, ◌-◌, ◌<◌, length}
use Rattle.topology.specs.Shape.{quads}
use Rattle.topology.specs.HalfEdge.{from, mate}
use Rattle.schemelaws.specs.Ordinary.{Ordinary}
use Rattle.familysteps.specs.declared.Family.{Family}
use Rattle.familysteps.specs.Family.{FamilyOf}

-- what the code tests of the half-edges h to h + 15: the sides of the face that was split have mates, and its corners are ordinary
pub record FamilyTest (l : List ℕ) (h : ℕ) : Type 0 where
  pub mate₀ : mate quads l h < length l
  pub mate₁ : mate quads l (h + 4) < length l
  pub mate₂ : mate quads l (h + 8) < length l
  pub mate₃ : mate quads l (h + 12) < length l
  pub corner₀ : Ordinary l (from l h)
  pub corner₁ : Ordinary l (from l (h + 4))
  pub corner₂ : Ordinary l (from l (h + 8))
  pub corner₃ : Ordinary l (from l (h + 12))

-- the vertices that the code reads, by the half-edges that leave them
abbrev pub family_from : List ℕ → ℕ → Family
family_from l h = record {
  centre = from l (h + 2);
  corners = from l h ∷ from l (h + 4) ∷ from l (h + 8) ∷ from l (h + 12) ∷ [];
  edges = from l (h + 1) ∷ from l (h + 5) ∷ from l (h + 9) ∷ from l (h + 13) ∷ [];
  faces = from l (mate quads l h - 1) ∷ from l (mate quads l (h + 4) - 1) ∷ from l (mate quads l (h + 8) - 1) ∷ from l (mate quads l (h + 12) - 1) ∷ [];
}

abbrev pub PlainFamily : List ℕ → ℕ → Type 0
PlainFamily l h = FamilyOf l h (family_from l h)
