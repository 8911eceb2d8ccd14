-- What one round, or the split of paper 02, does to the boundary of a net: all that the seam asks of it. No inner edge and no face point is spoken of.
use Rattle.std.specs.Prelude.{◌≡◌, Bool, true, false, List, ℕ, ◌+◌, length}
use Rattle.nets.specs.Net.{Net, marked, point_of}
use Rattle.curve.specs.Curve.{Rules, Point}
use Rattle.topology.specs.Shape.{Shape}
use Rattle.topology.specs.HalfEdge.{from, to, edge}
use Rattle.topology.specs.Boundary.{OnBoundary, along, back}
use Rattle.refinedfaces.specs.Refined.{refined, refined_marks}

-- the point on the edge qr of consecutive p, q, r, s, where q and r are marked or not: "A loop is cut at its marked vertices into open stretches"
unfoldable pub boundary_rule : {A : Type 0} → Rules A → Bool → Bool → A → A → A → A → A
boundary_rule ℛ false false p q r s = ℛ.inside p q r s
boundary_rule ℛ true false p q r s = ℛ.end q r s
boundary_rule ℛ false true p q r s = ℛ.end r q p
boundary_rule ℛ true true p q r s = ℛ.single q r

-- the point on the boundary edge of h, where vertex i has the point p i
unfoldable pub boundary_point : {A : Type 0} → Rules A → Shape → Net → (ℕ → A) → ℕ → A
boundary_point ℛ S m p h =
    let l : List ℕ = m.faces in
    boundary_rule ℛ (marked m.marks (from l h)) (marked m.marks (to S l h)) (p (from l (back S l h))) (p (from l h)) (p (to S l h)) (p (to S l (along S l h)))

-- from the net before, of shape S, to the net after, of four-sided faces: faces and marks are refined; the start of each boundary half-edge keeps its point, and
-- the new vertex on its edge has the point of the boundary rule
pub record BoundaryStep (ℛ : Rules Point) (S : Shape) (before after : Net) : Type 0 where
  pub faces : after.faces ≡ refined S (length before.marks) before.faces
  pub marks : after.marks ≡ refined_marks S (length before.marks) before.faces before.marks
  pub old : (h : ℕ) → OnBoundary S before.faces h → point_of after (from before.faces h) ≡ ℛ.keep (point_of before (from before.faces h))
  pub new : (h : ℕ) → OnBoundary S before.faces h → point_of after (length before.marks + edge S before.faces h) ≡ boundary_point ℛ S before (point_of before) h
