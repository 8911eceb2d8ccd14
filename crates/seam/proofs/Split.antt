-- The split at the boundary: drawn points stay, and each boundary edge gets its midpoint. So what is read after it is the halved list.
use mathlib.Core.Path.{◌≡◌, refl, sym, ap, ◌∙◌}
use mathlib.Core.Bool.{Bool, true, false}
use mathlib.Core.Logic.{◌↔◌}
use mathlib.Core.List.{List}
use Prim.Native.Nat.{ℕ, ◌+◌, ◌<◌}
use native.Mathlib.Omega.{arith}
use lib.IntN.{ℤ, ◌+ℤ◌, +ℤ_comm}
use lib.ListN.{length}
use Rattle.rounding.specs.Rounding.{round}
use Rattle.curve.specs.Curve.{Kind, Point, each}
use Rattle.curve.proofs.Symmetry.{Symmetric, each_symmetric}
use Rattle.topology.specs.Shape.{Shape, quads}
use Rattle.topology.specs.HalfEdge.{from, to, edge}
use Rattle.topology.specs.Boundary.{OnBoundary, along, back, Way}
use Rattle.topology.proofs.Mates.{edge-lt}
use Rattle.polygons.specs.Polygons.{shape_of}
use Rattle.nets.specs.Net.{ControlNet, control_tables, marked, axis}
use Rattle.splitting.specs.Splitting.{split}
use Rattle.splitting.proofs.Coordinates.{split_old, split-edge}
use Rattle.splitting.proofs.Split.{split-axis}
use Rattle.seam.specs.Reading.{Reads}
use Rattle.seam.specs.BoundaryStep.{boundary_rule, boundary_point}
use Rattle.seam.specs.Split.{midpoints, halved, ReadsControl, AdmissibleControl, SplitShared}
use Rattle.seam.proofs.Readings.{reads_only}
use Rattle.seam.proofs.Refined.{reading_after}
use Rattle.seam.proofs.Coordinates.{AxisStep, boundary_step_lem}

-- ---- the rules
either : (p q : ℤ) → round (p +ℤ q) 2 ≡ round (q +ℤ p) 2
either p q = ap (λ (t : ℤ). round t 2) (+ℤ_comm p q)

midpoints_symmetric : Symmetric midpoints
midpoints_symmetric = record { inside = λ p q r s. either q r; single = either }

-- whatever the marks
by_midpoint : (a b : Bool) (p q r s : ℤ) → boundary_rule midpoints a b p q r s ≡ round (q +ℤ r) 2
unfolding boundary_rule
by_midpoint false false p q r s = refl
by_midpoint true false p q r s = refl
by_midpoint false true p q r s = either r q
by_midpoint true true p q r s = refl

-- ---- one coordinate
module _ (m : ControlNet) where
  module _ (ok : AdmissibleControl m) where
    kept : (a h : ℕ) → a < 3 → OnBoundary (shape_of m.sides) m.faces h → axis (split m).vertices a (from m.faces h) ≡ axis m.vertices a (from m.faces h)
    kept a h b o =
        let i : ℕ = from m.faces h in
        let c = ok.oriented.below h o.lt in
        split-axis m a i b (omega arith) ∙ split_old (shape_of m.sides) (length m.marks) m.faces (axis m.vertices a) i c

    put : (a h : ℕ) → a < 3 → OnBoundary (shape_of m.sides) m.faces h
        → axis (split m).vertices a (length m.marks + edge (shape_of m.sides) m.faces h) ≡ boundary_point midpoints (shape_of m.sides) (control_tables m) (axis m.vertices a) h
    unfolding boundary_point
    put a h b o =
        let S : Shape = shape_of m.sides in
        let v : ℕ = length m.marks in
        let l : List ℕ = m.faces in
        let p : ℕ → ℤ = axis m.vertices a in
        let k = edge-lt S v l ok.oriented h o.lt in
        split-axis m a (v + edge S l h) b (omega arith)
        ∙ split-edge S v l ok.oriented p h o.lt
        ∙ sym (by_midpoint (marked m.marks (from l h)) (marked m.marks (to S l h)) (p (from l (back S l h))) (p (from l h)) (p (to S l h)) (p (to S l (along S l h))))

    axes : AxisStep midpoints (shape_of m.sides) (control_tables m) (split m)
    unfolding split
    axes = record { faces = refl; marks = refl; old = kept; new = put }

    -- ---- readings
    reads_split : (way : Way) (c : Kind) (u : ℕ) (L : List Point) → ReadsControl m way c u L → Reads (split m) way c u (halved c L)
    unfolding halved
    reads_split way c u L r =
        reading_after (each midpoints) (each_symmetric midpoints_symmetric) (shape_of m.sides) (control_tables m) (split m) ok
        (boundary_step_lem midpoints (shape_of m.sides) (control_tables m) (split m) axes) way c u L r

    pub split_reads : (way : Way) (c : Kind) (u : ℕ) (L : List Point) → ReadsControl m way c u L → (P : List Point) → Reads (split m) way c u P ↔ (P ≡ halved c L)
    split_reads way c u L r = reads_only quads (split m) way c u (halved c L) (reads_split way c u L r)

-- a segment that two nets share before their splits is shared after them
pub split_shared : (a b : ControlNet) → AdmissibleControl a → AdmissibleControl b → (v w : Way) (c : Kind) (s t : ℕ) (L : List Point) → ReadsControl a v c s L → ReadsControl b w c t L
    → SplitShared a b v w c s t L
split_shared a b p q v w c s t L x y = record { left = split_reads a p v c s L x; right = split_reads b q w c t L y }
