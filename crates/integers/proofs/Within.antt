-- Laws of tables of bounded size. Assumes nothing.
use mathlib.Core.Path.{◌≡◌}
use mathlib.Core.List.{List}
use Prim.Native.Nat.{ℕ, ◌≤◌, ◌<◌}
use native.Mathlib.Decide.{dec_lt}
use native.Mathlib.Omega.{arith}
use lib.IntN.{ℤ, pos, nat_abs}
use lib.ListN.{length, get_or, get_or-eq_default}
use Rattle.integers.specs.Within.{Within}

pub within_le : (A B : ℕ) (l : List ℤ) → A ≤ B → Within A l → Within B l
within_le A B l h t = record { at = λ k b. let s = t.at k b in omega arith }

-- past its end a table reads zero
pub within_any : (B : ℕ) (l : List ℤ) → Within B l → (k : ℕ) → nat_abs (get_or l k (pos 0)) ≤ B
within_any B l t k = go (dec_lt k (length l))
  where
    go : Dec (k < length l) → nat_abs (get_or l k (pos 0)) ≤ B
    go (yes b) = t.at k b
    go (no b) = let e : get_or l k (pos 0) ≡ pos 0 = get_or-eq_default l (pos 0) (omega arith) in rw e (omega arith)
