-- At tension 0 every edge gets its midpoint. Paper 02: "t = 0 gives plain midpoints on edges."
use Rattle.std.specs.Prelude.{◌≡◌, ℕ, ◌+◌, ◌<◌, length}
use Rattle.fractions.specs.Fraction.{to_whole}
use Rattle.topology.specs.Shape.{quads}
use Rattle.topology.specs.HalfEdge.{edge}
use Rattle.nets.specs.Net.{Net, axis}
use Rattle.splitting.specs.Splitting.{side_midpoint}
use Rattle.outcome.specs.Outcome.{Request}
use Rattle.outcome.specs.SharedSegment.{Accepted, net_after}

-- of the net m, m' has the new vertex on the edge of h, on axis x: the midpoint of its ends, rounded
abbrev pub AtMidpoint : (m m' : Net) (h x : ℕ) → Type 0
AtMidpoint m m' h x = axis m'.vertices x (length m.marks + edge quads m.faces h) ≡ to_whole (side_midpoint quads m.faces (axis m.vertices x) h)

-- so after each round of an accepted call with tension 0
pub record PlainMidpoints : Type 0 where
  pub midpoints : (a : Request) → Accepted a → a.tension ≡ 0 → (k : ℕ) → k < a.rounds → (h x : ℕ) → h < length (net_after a k).faces → x < 3 → AtMidpoint (net_after a k) (net_after a (k + 1)) h x
