-- Parts of the passes of a round.
use Rattle.std.specs.Prelude.{◌≡◌, List, ℕ, ◌*◌, ◌/◌, ◌%◌, ◌≤◌, ◌<◌, ℤ, pos, length, get_or}
use Rattle.search.specs.Search.{count}
use Rattle.topology.specs.Shape.{quads}
use Rattle.topology.specs.HalfEdge.{first_met}
use Rattle.roundfaces.specs.Faces.{FaceIn}
use Rattle.edgetable.specs.EdgeTable.{Round, Edges}

-- the pass over the edges has gone on to h, with e edges met, whatever tables it began with
pub record Underway (t : ℕ) (l marks : List ℕ) (p : List ℤ) (w : List ℕ) (at initial h e : ℕ) : Type 0 where
  pub p₀ : List ℤ
  pub w₀ : List ℕ
  pub round : Round t l marks p₀ w₀ at initial
  pub done : Edges t l marks p₀ w₀ p w h e
  pub counted : e ≡ count (first_met quads l) h

-- the faces from a up to e, with room for their points in `out` and for their refined corners
pub record PartIn (n v count a e : ℕ) (out : List ℤ) (faces w : List ℕ) : Type 0 where
  pub from : a ≤ e
  pub to : 4 * e ≤ n
  pub room : 3 * e ≤ length out
  pub each : (f : ℕ) → a ≤ f → f < e → FaceIn n v count f faces w

-- s' is s but for the points from a up to e, where coordinate j of point i is G j i
pub record PointsPut (G : ℕ → ℕ → ℤ) (a e : ℕ) (s s' : List ℤ) : Type 0 where
  pub kept : length s' ≡ length s
  pub before : (k : ℕ) → k < 3 * a → get_or s' k (pos 0) ≡ get_or s k (pos 0)
  pub inside : (k : ℕ) → 3 * a ≤ k → k < 3 * e → get_or s' k (pos 0) ≡ G (k % 3) (k / 3)
  pub behind : (k : ℕ) → 3 * e ≤ k → get_or s' k (pos 0) ≡ get_or s k (pos 0)
