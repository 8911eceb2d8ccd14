-- What the laws assume of a net of v vertices: all that refusals 7 to 11 turn away is absent.
use Rattle.std.specs.Prelude.{◌≡◌, List, ℕ, ◌≤◌, ◌<◌, length}
use Rattle.bounds.specs.Bounds.{min_ring, max_ring, max_fan}
use Rattle.topology.specs.Shape.{Shape, Lawful}
use Rattle.topology.specs.HalfEdge.{from, to}
use Rattle.topology.specs.Vertex.{Ring, Fan}

-- stands against refusal 7 (corners below v, and distinct in a face) and refusal 9 (each directed side once)
pub record Oriented (S : Shape) (v : ℕ) (l : List ℕ) : Type 0 where
  pub shape : Lawful S (length l)
  pub below : (h : ℕ) → h < length l → from l h < v
  pub apart : (h g : ℕ) → h < length l → g < length l → S.face h ≡ S.face g → from l h ≡ from l g → h ≡ g
  pub once : (h g : ℕ) → h < length l → g < length l → from l h ≡ from l g → to S l h ≡ to S l g → h ≡ g

-- stands against refusals 8, 10 and 11 at p: one full ring of 3 to 8 faces, or one open fan of 1 to 6
pub data Around (S : Shape) (l : List ℕ) (p : ℕ) : Type 0 where
  ring : (h m : ℕ) → min_ring ≤ m → m ≤ max_ring → Ring S l p h m → Around S l p
  fan : (h m : ℕ) → m ≤ max_fan → Fan S l p h m → Around S l p

pub record Manifold (S : Shape) (v : ℕ) (l : List ℕ) : Type 0 where
  pub oriented : Oriented S v l
  pub around : (p : ℕ) → p < v → Around S l p
