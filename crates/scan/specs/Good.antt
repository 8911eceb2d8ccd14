-- Faces that refusal 7 passes.
use Rattle.std.specs.Prelude.{◌≡◌, Bool, true, false, List, ℕ, ◌+◌, ◌≤◌, ◌<◌, length, get_or}
use Rattle.topology.specs.Shape.{Shape}
use Rattle.refusals.specs.Refusals.{bad_corner}

-- the four corners from h on are below v and differ
pub record GoodFace (v : ℕ) (l : List ℕ) (h : ℕ) : Type 0 where
  pub below : (k : ℕ) → h ≤ k → k < h + 4 → get_or l k 0 < v
  pub differ : (i j : ℕ) → h ≤ i → i < j → j < h + 4 → get_or l i 0 ≡ get_or l j 0 → ⊥

-- the answer `true` says so; nothing is said of the other
pub record Good (v : ℕ) (l : List ℕ) (h : ℕ) (r : Bool) : Type 0 where
  pub good : r ≡ true → GoodFace v l h

-- no corner before the half-edge h is bad
pub record GoodBefore (S : Shape) (v : ℕ) (l : List ℕ) (h : ℕ) : Type 0 where
  pub within : h ≤ length l
  pub none : (k : ℕ) → k < h → bad_corner S v l k ≡ false
