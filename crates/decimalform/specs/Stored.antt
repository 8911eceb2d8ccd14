-- A text written into a buffer.
use Rattle.std.specs.Prelude.{◌≡◌, List, ℕ, ◌+◌, length}
use Rattle.std.proofs.lemmas.List.Edits.{sets}

-- the text s stands in o from `at` to r, and all else is as in d
pub record Stored (d o : List ℕ) (at r : ℕ) (s : List ℕ) : Type 0 where
  pub bytes : o ≡ sets d at s
  pub end : r ≡ at + length s
