-- The seam: a boundary segment that two nets share, before and after rounds.
use Rattle.std.specs.Prelude.{◌≡◌, ◌↔◌, List, ℕ, length}
use Rattle.nets.specs.Net.{Net}
use Rattle.curve.specs.Weights.{tension}
use Rattle.curve.specs.Curve.{Kind, Point, curve}
use Rattle.curve.specs.Near.{CloseToExact}
use Rattle.topology.specs.Shape.{Shape, quads}
use Rattle.topology.specs.Boundary.{Way}
use Rattle.topology.specs.Manifold.{Manifold}
use Rattle.scheme.specs.Step.{steps}
use Rattle.seam.specs.Reading.{ReadsIn, Reads}

-- "Two nets share a stretch if a reading in one and a reading in the other are equal lists, both open or both round.": a net a of shape S, read from s the way v,
-- and a net b of shape T, read from s' the way w, give the list L
pub record Shared (S T : Shape) (a b : Net) (v w : Way) (c : Kind) (s s' : ℕ) (L : List Point) : Type 0 where
  pub left : ReadsIn S a v c s L
  pub right : ReadsIn T b w c s' L

-- what the seam asks of a net of shape S: refusals 7 to 11 do not hold. Of coordinates and of the values of marks it asks nothing.
abbrev pub AdmissibleIn : Shape → Net → Type 0
AdmissibleIn S m = Manifold S (length m.marks) m.faces

-- so of a net of four-sided faces
abbrev pub Admissible : Net → Type 0
Admissible = AdmissibleIn quads

-- Of two nets a and b that share the list L, read from s and from s': after k rounds "the stretch is read there from the same vertex and the same way", and
-- both readings are "the curve after k rounds", which "is fed that list as it was before the first round, and whether it is open or round"; and that curve
-- lies within the seam distance of the exact one.
pub record Seam (t : ℕ) (a b : Net) (v w : Way) (c : Kind) (s s' : ℕ) (L : List Point) (k : ℕ) : Type 0 where
  pub left : (P : List Point) → Reads (steps (tension t) k a) v c s P ↔ (P ≡ curve (tension t) c k L)
  pub right : (P : List Point) → Reads (steps (tension t) k b) w c s' P ↔ (P ≡ curve (tension t) c k L)
  pub close : CloseToExact t c k L
