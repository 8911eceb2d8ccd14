-- The range of refined coordinates, over what calls give.
use Rattle.std.specs.Prelude.{ℕ, ◌≤◌}
use Rattle.integers.specs.Within.{Within}
use Rattle.outcome.specs.Outcome.{Request}
use Rattle.outcome.specs.SharedSegment.{Accepted, net_after}

-- "Also proved: every coordinate stays within 268,435,456."
pub record CoordinatesStay : Type 0 where
  pub stay : (a : Request) → Accepted a → (k : ℕ) → k ≤ a.rounds → Within 268435456 (net_after a k).vertices
