-- Families: a round makes of face p the faces 4p to 4p + 3, with the half-edges 16p to 16p + 15.
use Rattle.std.specs.Prelude.{◌≡◌, List, ℕ, ◌+◌, ◌%◌, ◌<◌, length}
use Rattle.topology.specs.Shape.{quads}
use Rattle.topology.specs.Manifold.{Manifold}
use Rattle.refinedfaces.specs.Refined.{refined}

-- the corners l are those that a round made of a net of four-sided faces
pub record AfterRound (l : List ℕ) : Type 0 where
  pub vertices : ℕ
  pub before : List ℕ
  pub net : Manifold quads vertices before
  pub fours : length before % 4 ≡ 0
  pub is : l ≡ refined quads vertices before

-- m is the mate of g among n half-edges, or none, as a round makes them: a side 0 and a side 3 have each other or none, a side 1 and a side 2 each other
pub record Facing (n g m : ℕ) : Type 0 where
  pub opposite : m < n → m % 4 + g % 4 ≡ 3
  pub inner : 0 < g % 4 → g % 4 < 3 → m < n
