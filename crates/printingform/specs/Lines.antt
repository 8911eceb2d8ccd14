-- Lines by their numbers, and what a writer leaves.
use Rattle.std.specs.Prelude.{◌≡◌, List, ℕ, ◌+◌, ◌≤◌, ℤ, length}
use Rattle.tables.specs.Tables.{filled}
use Rattle.decimalform.specs.Stored.{Stored}
use Rattle.textform.specs.Form.{Vertex, Face}

abbrev pub vertex_is : ℤ → ℤ → ℤ → ℕ → Vertex
vertex_is x y z m = record { x = x; y = y; z = z; mark = m }

abbrev pub face_is : ℕ → ℕ → ℕ → ℕ → Face
face_is a b c d = record { a = a; b = b; c = c; d = d }

-- the text s stands in o from `at` to r, at most `most` bytes, and all else is as in d
pub record Printed (d o : List ℕ) (at r : ℕ) (s : List ℕ) (most : ℕ) : Type 0 where
  pub stored : Stored d o at r s
  pub within : r ≤ at + most

-- o is the text s and then what d has after it; r is the text's length, at most `most`
pub record TextWritten (d o : List ℕ) (r : ℕ) (s : List ℕ) (most : ℕ) : Type 0 where
  pub bytes : o ≡ filled s d
  pub long : r ≡ length s
  pub fits : r ≤ most
