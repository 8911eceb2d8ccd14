-- A segment that two nets share as they are drawn, both with side counts, is shared where refining begins; `SharedSegments` takes it from there.
use Rattle.std.specs.Prelude.{◌≡◌, ◌↔◌, List, ℕ, ◌<◌, length}
use Rattle.curve.specs.Curve.{Kind, Point}
use Rattle.topology.specs.Boundary.{Way}
use Rattle.splitting.specs.Splitting.{start_net}
use Rattle.seam.specs.Reading.{Reads}
use Rattle.seam.specs.Split.{halved, SharedControl}
use Rattle.outcome.specs.Outcome.{Request}
use Rattle.outcome.specs.SharedSegment.{Accepted}

-- two nets of accepted calls that share the list L as they are drawn, read from s and from t: where refining begins both are read from the same vertices the same
-- ways, as L with a midpoint between each two neighbours
pub record SharedAtStart (a b : Request) (v w : Way) (c : Kind) (s t : ℕ) (L : List Point) : Type 0 where
  pub left : (P : List Point) → Reads (start_net a.net) v c s P ↔ (P ≡ halved c L)
  pub right : (P : List Point) → Reads (start_net b.net) w c t P ↔ (P ≡ halved c L)

pub record SplitSegments : Type 0 where
  pub shared : (a b : Request) → Accepted a → Accepted b → 0 < length a.net.sides → 0 < length b.net.sides
      → (v w : Way) (c : Kind) (s t : ℕ) (L : List Point) → SharedControl a.net b.net v w c s t L → SharedAtStart a b v w c s t L
