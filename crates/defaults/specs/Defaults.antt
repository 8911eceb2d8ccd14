-- Marks where the text has none. Paper 02: "`x y z` marks each boundary vertex that lies in exactly one face, and no other"
use Rattle.std.specs.Prelude.{◌≡◌, true, cond, ◌↔◌, List, ℕ, ◌<◌, ◌%◌, eqb, length, replicate}
use Rattle.lists.specs.Tabulate.{tabulate}
use Rattle.topology.specs.Shape.{quads}
use Rattle.topology.specs.Boundary.{boundary_from}
use Rattle.topology.specs.Vertex.{valence}
use Rattle.topology.specs.Manifold.{Manifold}
use Rattle.nets.specs.Net.{marked}
use Rattle.verdict.specs.Verdict.{shape_verdict}

-- 1 where one corner of all faces is the vertex p; said of any corner table, whatever numbers stand there
unfoldable pub default_mark : (faces : List ℕ) → ℕ → ℕ
default_mark l p = cond (eqb (valence l p) 1) 1 0

-- those of v vertices
unfoldable pub default_marks : ℕ → (faces : List ℕ) → List ℕ
default_marks v l = tabulate v (default_mark l)

pub record DefaultMarks : Type 0 where
  -- in a net that 7 to 11 do not refuse they are the paper's: a vertex in one face is on the boundary, since a full ring has three faces or more
  pub exactly : (v : ℕ) (l : List ℕ) → Manifold quads v l → (p : ℕ) → p < v → (marked (default_marks v l) p ≡ true) ↔ ((boundary_from quads l p < length l) × (valence l p ≡ 1))
  -- 6 and 12 do not hold, and the other refusals see no mark: those of a net are those that it has without marks
  pub unseen : (v : ℕ) (l : List ℕ) → length l % 4 ≡ 0 → shape_verdict quads l (default_marks v l) ≡ shape_verdict quads l (replicate v 0)
