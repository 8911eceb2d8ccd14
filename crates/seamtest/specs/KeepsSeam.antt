-- What a yes of the seam test is worth. "So far the two yards had to vouch that their stretches match": now demand 3 holds for every refining of the two nets.
use Rattle.std.specs.Prelude.{◌≡◌, List, ℕ, ◌≤◌}
use Rattle.curve.specs.Curve.{Open, Point}
use Rattle.topology.specs.Shape.{quads}
use Rattle.topology.specs.Boundary.{with_sides, against_sides}
use Rattle.splitting.specs.Splitting.{start_net}
use Rattle.verdict.specs.Verdict.{accepted}
use Rattle.seam.specs.Seam.{Shared}
use Rattle.outcome.specs.Outcome.{Request}
use Rattle.outcome.specs.SharedSegment.{Accepted, SharedAfter}
use Rattle.seamtest.specs.SeamTest.{SeamSide, seam_verdict}

-- a list that both nets have where refining begins, and so after every round that both calls make
pub record KeepsSeam (a b : Request) (s t : ℕ) : Type 0 where
  pub list : List Point
  pub shared : Shared quads quads (start_net a.net) (start_net b.net) with_sides against_sides Open s t list
  pub after : (k : ℕ) → k ≤ a.rounds → k ≤ b.rounds → SharedAfter a b with_sides against_sides Open s t list k

-- the request a refines the net of the side p at its tension, for any rounds and with any tables
pub record Refines (a : Request) (p : SeamSide) : Type 0 where
  pub net : a.net ≡ p.net
  pub tension : a.tension ≡ p.tension
  pub accepts : Accepted a

pub record YesKeepsSeam : Type 0 where
  pub keeps : (p q : SeamSide) (w : ℕ) → seam_verdict p q w ≡ accepted → (a b : Request) → Refines a p → Refines b q → KeepsSeam a b p.start q.start
