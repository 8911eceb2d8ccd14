-- What is met in turning round a vertex, gathered in lists of eight vertices.
use Rattle.std.specs.Prelude.{◌≡◌, List, ℕ, ◌-◌, ◌≤◌, ◌<◌, length, get_or}
use Rattle.topology.specs.Shape.{quads}
use Rattle.topology.specs.HalfEdge.{from, to}
use Rattle.topology.specs.Boundary.{OnBoundary, boundary_from}
use Rattle.topology.specs.Vertex.{valence, turns}
use Rattle.topology.specs.Manifold.{Manifold}
use Rattle.topology.specs.Quads.{opposite_corner}
use Rattle.ringsums.specs.declared.Fan.{Fan}

-- L and K begin with the neighbours and the opposite corners of n faces, from h on. Open, and may differ between correct programs: the places after them
pub record Filled (l : List ℕ) (h n : ℕ) (L K : List ℕ) : Type 0 where
  pub eight_l : length L ≡ 8
  pub eight_k : length K ≡ 8
  pub neighbours : (i : ℕ) → i < n → get_or L i 0 ≡ to quads l (turns quads l i h)
  pub corners : (i : ℕ) → i < n → get_or K i 0 ≡ opposite_corner l (turns quads l i h)

-- turning from h meets n faces at its vertex: a full ring and then h again, or the rest of an open fan and then none
pub record Circuit (l : List ℕ) (h n : ℕ) : Type 0 where
  pub some : 0 < n
  pub few : n ≤ 8
  pub inside : (i : ℕ) → i < n → turns quads l i h < length l
  pub goes_on : (i : ℕ) → 0 < i → i < n → turns quads l i h ≡ h → ⊥
  pub ring : boundary_from quads l (from l h) ≡ length l → (n ≡ valence l (from l h)) × (turns quads l n h ≡ h)
  pub fan : boundary_from quads l (from l h) < length l → turns quads l n h ≡ length l
  pub whole : OnBoundary quads l h → n ≡ valence l (from l h)

-- f has the faces that are met in turning from h
pub record Gathered (l : List ℕ) (h : ℕ) (f : Fan) : Type 0 where
  pub circuit : Circuit l h f.count
  pub last : f.last ≡ turns quads l (f.count - 1) h
  pub after : f.after ≡ turns quads l f.count h
  pub filled : Filled l h f.count f.neighbours f.opposites

-- f is the open fan that starts with s, in a manifold net, gathered
pub record OpenFan (l : List ℕ) (s : ℕ) (f : Fan) : Type 0 where
  pub vertices : ℕ
  pub net : Manifold quads vertices l
  pub start : OnBoundary quads l s
  pub count : f.count ≡ valence l (from l s)
  pub some : 0 < f.count
  pub few : f.count ≤ 6
  pub filled : Filled l s f.count f.neighbours f.opposites
