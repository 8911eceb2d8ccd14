-- Laws of entries. Assumes nothing.
use mathlib.Core.Path.{◌≡◌, sym, ap, ◌∙◌}
use mathlib.Core.Bool.{not}
use Prim.Native.Nat.{ℕ, ◌≤◌}
use native.Mathlib.Decide.{dec_le}
use native.Mathlib.Omega.{arith}
use borrow.Author.Tests.{lt-ltb, le-ltb, le-leb, lt-leb}
use lib.Dec.{ltb, leb}
use Rattle.edgeentries.specs.Entry.{boundary_flag}

-- an entry is either that of a boundary edge or that of an inner one
pub inner-entry : (entry : ℕ) → not (leb boundary_flag entry) ≡ ltb entry boundary_flag
inner-entry entry = go (dec_le boundary_flag entry)
  where
    go : Dec (boundary_flag ≤ entry) → not (leb boundary_flag entry) ≡ ltb entry boundary_flag
    go (yes h) = ap not (le-leb boundary_flag entry h) ∙ sym (le-ltb entry boundary_flag h)
    go (no h) = ap not (lt-leb boundary_flag entry (omega (arith, h))) ∙ sym (lt-ltb entry boundary_flag (omega (arith, h)))
