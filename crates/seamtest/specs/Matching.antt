-- When the seam test says yes.
use Rattle.std.specs.Prelude.{◌≡◌, ◌↔◌, List, ℕ, suc, length}
use Rattle.curve.specs.Curve.{Open, Point}
use Rattle.topology.specs.Boundary.{with_sides, against_sides}
use Rattle.verdict.specs.Verdict.{accepted, verdict}
use Rattle.seam.specs.Split.{SharedControl}
use Rattle.seamtest.specs.SeamTest.{SeamSide, alone_in, has_sides, seam_verdict, seam_edges}

-- "points and marks agree in that order, ends included, tensions agree, and both nets or neither have side counts": one list of e + 1 points is read from both nets as they are
-- drawn. Equal open readings have equal marks: each begins with a mark and ends at the next.
pub record Matching (a b : SeamSide) (w e : ℕ) : Type 0 where
  pub accepted_first : verdict (alone_in a w) ≡ accepted
  pub accepted_second : verdict (alone_in b w) ≡ accepted
  pub tensions : a.tension ≡ b.tension
  pub sides : has_sides a ≡ has_sides b
  pub list : List Point
  pub shared : SharedControl a.net b.net with_sides against_sides Open a.start b.start list
  pub edges : length list ≡ suc e

-- "A yes must hold exactly if"
pub record YesExactly : Type 0 where
  pub yes : (a b : SeamSide) (w e : ℕ) → ((seam_verdict a b w ≡ accepted) × (seam_edges a b w ≡ e)) ↔ Matching a b w e
