-- Edges by the mates alone. A list of mates has the mate of h at h, and its length for 'none'. In a table w of n half-edges the mates stand at the front and
-- the number of the edge of h at n + h.
use Rattle.std.specs.Prelude.{◌≡◌, Bool, List, ◌++◌, ℕ, ◌+◌, ◌*◌, ◌≤◌, ◌<◌, min, length, get_or, take, ltb}
use Rattle.bounds.specs.Bounds.{max_half_edges}
use Rattle.lists.specs.Tabulate.{tabulate}
use Rattle.search.specs.Search.{count}
use Rattle.topology.specs.Shape.{Shape}
use Rattle.topology.specs.HalfEdge.{edge}

-- "Edges are numbered as they are first met": whether the edge of h is first met at h
unfoldable pub met_by : List ℕ → ℕ → Bool
met_by ms h = ltb h (get_or ms h 0)

-- how many edges there are, and the number of the edge of h: how many edges are first met before it
unfoldable pub edge_count_by : List ℕ → ℕ
edge_count_by ms = count (met_by ms) (length ms)

unfoldable pub edge_by : List ℕ → ℕ → ℕ
edge_by ms h = count (met_by ms) (min h (get_or ms h 0))

-- the mates, then the edge numbers
unfoldable pub with_edges : List ℕ → List ℕ
with_edges ms = ms ++ tabulate (length ms) (edge_by ms)

-- no half-edge is its own mate, and the mate of its mate is the half-edge itself
pub record Paired (ms : List ℕ) : Type 0 where
  pub other : (h : ℕ) → h < length ms → get_or ms h 0 ≡ h → ⊥
  pub back : (h : ℕ) → h < length ms → get_or ms h 0 < length ms → get_or ms (get_or ms h 0) 0 ≡ h

-- the mates of n half-edges at the front of w, and room behind them for the edge numbers
pub record PairedIn (n : ℕ) (w : List ℕ) : Type 0 where
  pub few : n ≤ max_half_edges
  pub room : 2 * n ≤ length w
  pub paired : Paired (take n w)

-- the edges of the half-edges below h are numbered
pub record NumberedBelow (n h : ℕ) (w : List ℕ) : Type 0 where
  pub numbers : (g : ℕ) → g < h → get_or w (n + g) 0 ≡ edge_by (take n w) g

-- all edges of a net with corners l are numbered
pub record Numbered (S : Shape) (l w : List ℕ) : Type 0 where
  pub numbers : (g : ℕ) → g < length l → get_or w (length l + g) 0 ≡ edge S l g
