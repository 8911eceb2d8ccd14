-- Demand 3, over what calls give: "one statement over all pairs of accepted nets, all their shared readings and all k".
use Rattle.std.specs.Prelude.{◌≡◌, ◌↔◌, List, [], ℕ, ◌*◌, ◌≤◌}
use Rattle.curve.specs.Weights.{tension}
use Rattle.curve.specs.Curve.{Kind, Point, curve}
use Rattle.curve.specs.Near.{CloseToExact}
use Rattle.topology.specs.Shape.{quads}
use Rattle.topology.specs.Boundary.{Way}
use Rattle.nets.specs.Net.{Net}
use Rattle.nets.specs.Buffers.{front}
use Rattle.splitting.specs.Splitting.{start_net}
use Rattle.seam.specs.Reading.{Reads}
use Rattle.seam.specs.Seam.{Shared}
use Rattle.outcome.specs.Outcome.{Result, refined_to, refused_with, Request, for_rounds, Outcome, outcome}

-- "The net after round k of an accepted call is what the same call gives when asked for k rounds only."
abbrev pub result_after : Request → ℕ → Outcome
result_after a k = outcome (for_rounds k a)

-- the call for k rounds is accepted
pub record AcceptedFor (a : Request) (k : ℕ) : Type 0 where
  pub vertices : ℕ
  pub faces : ℕ
  pub result : (result_after a k).result ≡ refined_to vertices faces

-- the call is accepted
abbrev pub Accepted : Request → Type 0
Accepted a = AcceptedFor a a.rounds

-- the net at the front of the output tables, by the counts reported
abbrev pub net_by : Result → Outcome → Net
net_by (refined_to v f) o = front v (4 * f) o.buffers
net_by (refused_with r p) o = record { vertices = []; faces = []; marks = [] }

abbrev pub net_after : Request → ℕ → Net
net_after a k = net_by (result_after a k).result (result_after a k)

-- two accepted calls whose nets share the list L, read from s and from t, after k rounds
pub record SharedAfter (a b : Request) (v w : Way) (c : Kind) (s t : ℕ) (L : List Point) (k : ℕ) : Type 0 where
  -- the same calls asked for k rounds only are accepted too
  pub accepted_left : AcceptedFor a k
  pub accepted_right : AcceptedFor b k
  -- "the stretch is read there from the same vertex and the same way", and is the rounded curve worked out from L and the tension alone: "both curves are then fed t as well"
  pub left : (P : List Point) → Reads (net_after a k) v c s P ↔ (P ≡ curve (tension a.tension) c k L)
  pub right : (P : List Point) → Reads (net_after b k) w c t P ↔ (P ≡ curve (tension a.tension) c k L)
  -- each coordinate lies within the seam distance of the exact curve
  pub close : CloseToExact a.tension c k L

-- "The seam guarantee covers the stretch after this split": a segment is read in the net where refining begins
pub record SharedSegments : Type 0 where
  pub shared : (a b : Request) → Accepted a → Accepted b → a.tension ≡ b.tension → (v w : Way) (c : Kind) (s t : ℕ) (L : List Point)
      → Shared quads quads (start_net a.net) (start_net b.net) v w c s t L → (k : ℕ) → k ≤ a.rounds → k ≤ b.rounds → SharedAfter a b v w c s t L k
