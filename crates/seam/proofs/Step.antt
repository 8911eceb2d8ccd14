-- One round of the scheme, at the boundary: old points stay, and the boundary rules put the new ones. Inner edges and faces do not come into it.
use mathlib.Core.Path.{◌≡◌, refl, ap, ◌∙◌}
use mathlib.Core.Bool.{Bool, true, false}
use Prim.Native.Nat.{ℕ, ◌+◌, ◌<◌}
use native.Mathlib.Omega.{arith}
use lib.IntN.{ℤ}
use lib.ListN.{length}
use Rattle.nets.specs.Net.{Net, marked, axis}
use Rattle.curve.specs.Weights.{Weights, scale}
use Rattle.curve.specs.Curve.{rounded, each}
use Rattle.fractions.specs.Fraction.{to_whole}
use Rattle.topology.specs.Shape.{quads}
use Rattle.topology.specs.HalfEdge.{from, to, edge}
use Rattle.topology.specs.Boundary.{OnBoundary, along, back}
use Rattle.topology.proofs.Mates.{edge-lt}
use Rattle.refinedfaces.proofs.Manifold.{manifold_refined}
use Rattle.scheme.specs.Points.{edge_point}
use Rattle.scheme.specs.Step.{step}
use Rattle.scheme.proofs.BoundaryEdges.{inside_rounded, start-rounded, finish_rounded, whole-rounded}
use Rattle.schemelaws.proofs.Coordinates.{refined_old, refined-edge_at}
use Rattle.schemelaws.proofs.Steps.{step_faces, step_marks, step_count, step-axis}
use Rattle.seam.specs.BoundaryStep.{boundary_rule, boundary_point, BoundaryStep}
use Rattle.seam.specs.Seam.{Admissible}
use Rattle.seam.proofs.Coordinates.{boundary_step_lem, boundary_first}

module _ (w : Weights) (some : 0 < scale w) (m : Net) (ok : Admissible m) (h : ℕ) (o : OnBoundary quads m.faces h) where
  kept : (a : ℕ) → a < 3 → axis (step w m).vertices a (from m.faces h) ≡ axis m.vertices a (from m.faces h)
  kept a b =
      let i : ℕ = from m.faces h in
      let c = ok.oriented.below h o.lt in
      step-axis w m a i b (omega arith) ∙ refined_old w (length m.marks) m.faces m.marks (axis m.vertices a) i c

  by_marks : (p : ℕ → ℤ) → to_whole (edge_point w m.faces m.marks p h) ≡ boundary_point (rounded w) quads m p h
  unfolding boundary_point boundary_rule
  by_marks p = go (marked m.marks (from m.faces h)) (marked m.marks (to quads m.faces h)) refl refl
    where
      go : (a b : Bool) → marked m.marks (from m.faces h) ≡ a → marked m.marks (to quads m.faces h) ≡ b → to_whole (edge_point w m.faces m.marks p h)
          ≡ boundary_rule (rounded w) a b (p (from m.faces (back quads m.faces h))) (p (from m.faces h)) (p (to quads m.faces h)) (p (to quads m.faces (along quads m.faces h)))
      go false false s t = inside_rounded w some m.faces m.marks p h o s t
      go true false s t = start-rounded w some m.faces m.marks p h o s t
      go false true s t = finish_rounded w some m.faces m.marks p h o s t
      go true true s t = whole-rounded w some m.faces m.marks p h o s t

  put : (a : ℕ) → a < 3 → axis (step w m).vertices a (length m.marks + edge quads m.faces h) ≡ boundary_point (rounded w) quads m (axis m.vertices a) h
  put a b =
      let v : ℕ = length m.marks in
      let e : ℕ = edge quads m.faces h in
      let p : ℕ → ℤ = axis m.vertices a in
      let k = edge-lt quads v m.faces ok.oriented h o.lt in
      step-axis w m a (v + e) b (omega arith)
      ∙ refined-edge_at w v m.faces m.marks p e k
      ∙ ap (λ (g : ℕ). to_whole (edge_point w m.faces m.marks p g)) (boundary_first quads v m.faces ok.oriented h o)
      ∙ by_marks p

pub step_boundary : (w : Weights) → 0 < scale w → (m : Net) → Admissible m → BoundaryStep (each (rounded w)) quads m (step w m)
step_boundary w some m ok = boundary_step_lem (rounded w) quads m (step w m) (record {
  faces = step_faces w m;
  marks = step_marks w m;
  old = λ a h b o. kept w some m ok h o a b;
  new = λ a h b o. put w some m ok h o a b;
})

-- what the seam asks of a net passes from round to round
pub admissible_step : (w : Weights) (m : Net) → Admissible m → Admissible (step w m)
admissible_step w m ok = rw (step_count w m, step_faces w m) (manifold_refined quads (length m.marks) m.faces ok)
