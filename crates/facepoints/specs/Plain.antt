-- What is read of the work table w of n half-edges for a face with eight plain edges.
use Rattle.std.specs.Prelude.{ℕ, ◌+◌, ◌*◌, ◌^◌, ◌≤◌, ◌<◌, List, ℤ, nat_abs, length, get_or}
use Rattle.bounds.specs.Bounds.{max_half_edges}
use Rattle.rounding.specs.Rounding.{round}
use Rattle.curve.specs.Weights.{Weights, scale, interior}
use Rattle.edgeentries.specs.Packed.{packed_at}
use Rattle.edgeentries.specs.Entry.{point_place}

-- a number over `scale` at place i can be read
pub record PlainAt (w : List ℕ) (i : ℕ) : Type 0 where
  pub room : i + 2 ≤ length w
  pub high : get_or w (i + 1) 0 < 2 ^ 31
  pub small : nat_abs (packed_at w i) < 2 ^ 33

-- the numbers of the point of an edge can be read, on each axis
pub record PlainEdge (n : ℕ) (w : List ℕ) (entry : ℕ) : Type 0 where
  pub few : n ≤ max_half_edges
  pub number : entry < n
  pub on₀ : PlainAt w (point_place n entry)
  pub on₁ : PlainAt w (point_place n entry + 2)
  pub on₂ : PlainAt w (point_place n entry + 4)

-- one direction by numbers over `scale` at the places p, q, r, s, rounded
unfoldable pub plain_direction : Weights → List ℕ → (p q r s : ℕ) → ℤ
plain_direction weights w p q r s = round (interior weights (packed_at w p) (packed_at w q) (packed_at w r) (packed_at w s)) (scale weights * scale weights)

-- the same on axis a of the edges p, q, r, s
unfoldable pub plain_coordinate : Weights → (n : ℕ) → List ℕ → (a p q r s : ℕ) → ℤ
plain_coordinate weights n w a p q r s = plain_direction weights w (point_place n p + 2 * a) (point_place n q + 2 * a) (point_place n r + 2 * a) (point_place n s + 2 * a)
