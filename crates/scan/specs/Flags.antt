-- Flags of the vertices that are corners of faces.
use Rattle.std.specs.Prelude.{◌≡◌, cond, List, ℕ, ◌<◌, get_or, drop, Option}
use Rattle.search.specs.Found.{Found}
use Rattle.search.specs.Search.{any}
use Rattle.topology.specs.Vertex.{leaves}
use Rattle.refusals.specs.Refusals.{isolated}

-- of the first m vertices, 1 for each that one of the first h half-edges leaves, else 0
pub record Flagged (m : ℕ) (l w : List ℕ) (h : ℕ) : Type 0 where
  pub at : (p : ℕ) → p < m → get_or w p 0 ≡ cond (any (leaves l p) h) 1 0

-- the first of v vertices in no face; past m numbers the work table is as found.
-- Open, and may differ between correct programs: its first m numbers
abbrev pub IsolatedFound : (l : List ℕ) (v m : ℕ) (w w' : List ℕ) (r : Option ℕ) → Type 0
IsolatedFound l v m w w' r = Found (isolated l) v r × (drop m w' ≡ drop m w)
