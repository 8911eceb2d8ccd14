-- Tables of integers of bounded size.
use Rattle.std.specs.Prelude.{List, ℕ, ◌≤◌, ◌<◌, ℤ, pos, nat_abs, length, get_or}

-- the first n numbers of a table lie within B of zero
pub record WithinFirst (n B : ℕ) (l : List ℤ) : Type 0 where
  pub at : (k : ℕ) → k < n → nat_abs (get_or l k (pos 0)) ≤ B

-- all of them
abbrev pub Within : ℕ → List ℤ → Type 0
Within B l = WithinFirst (length l) B l
