-- What a step does to the boundary, told for each coordinate by itself.
use mathlib.Core.Path.{◌≡◌, refl, sym, ◌∙◌}
use mathlib.Core.Bool.{Bool, true, false}
use mathlib.Core.List.{List}
use Prim.Native.Nat.{ℕ, ◌+◌, ◌<◌}
use native.Mathlib.Omega.{arith}
use lib.IntN.{ℤ}
use lib.ListN.{length}
use Rattle.nets.specs.Net.{Net, marked, axis, point_of}
use Rattle.curve.specs.Curve.{Rules, Point, each}
use Rattle.topology.specs.Shape.{Shape}
use Rattle.topology.specs.HalfEdge.{from, to, edge, edge_at}
use Rattle.topology.specs.Boundary.{OnBoundary, along, back}
use Rattle.topology.specs.Manifold.{Oriented}
use Rattle.topology.proofs.Mates.{edge_at-edge}
use Rattle.refinedfaces.specs.Refined.{refined, refined_marks}
use Rattle.seam.specs.BoundaryStep.{boundary_rule, boundary_point, BoundaryStep}

-- the rule at each coordinate by itself
each_rule : (ℛ : Rules ℤ) (a b : Bool) (p q r s : Point) → boundary_rule (each ℛ) a b p q r s
    ≡ record {
      x = boundary_rule ℛ a b p.x q.x r.x s.x;
      y = boundary_rule ℛ a b p.y q.y r.y s.y;
      z = boundary_rule ℛ a b p.z q.z r.z s.z;
    }
unfolding boundary_rule
each_rule ℛ false false p q r s = refl
each_rule ℛ true false p q r s = refl
each_rule ℛ false true p q r s = refl
each_rule ℛ true true p q r s = refl

each_point : (ℛ : Rules ℤ) (S : Shape) (m : Net) (h : ℕ) → boundary_point (each ℛ) S m (point_of m) h
    ≡ record { x = boundary_point ℛ S m (axis m.vertices 0) h; y = boundary_point ℛ S m (axis m.vertices 1) h; z = boundary_point ℛ S m (axis m.vertices 2) h }
unfolding boundary_point point_of
each_point ℛ S m h =
    let l : List ℕ = m.faces in
    each_rule ℛ (marked m.marks (from l h)) (marked m.marks (to S l h)) (point_of m (from l (back S l h))) (point_of m (from l h)) (point_of m (to S l h)) (point_of m (to S l (along S l h)))

-- a step whose boundary is made at each coordinate a by the rules ℛ
pub record AxisStep (ℛ : Rules ℤ) (S : Shape) (before after : Net) : Type 0 where
  pub faces : after.faces ≡ refined S (length before.marks) before.faces
  pub marks : after.marks ≡ refined_marks S (length before.marks) before.faces before.marks
  pub old : (a h : ℕ) → a < 3 → OnBoundary S before.faces h → axis after.vertices a (from before.faces h) ≡ ℛ.keep (axis before.vertices a (from before.faces h))
  pub new : (a h : ℕ) → a < 3 → OnBoundary S before.faces h
      → axis after.vertices a (length before.marks + edge S before.faces h) ≡ boundary_point ℛ S before (axis before.vertices a) h

pub boundary_step_lem : (ℛ : Rules ℤ) (S : Shape) (before after : Net) → AxisStep ℛ S before after → BoundaryStep (each ℛ) S before after
unfolding point_of
boundary_step_lem ℛ S before after d = record {
  faces = d.faces;
  marks = d.marks;
  old = λ h o. λ t. record { x = d.old 0 h (omega arith) o t; y = d.old 1 h (omega arith) o t; z = d.old 2 h (omega arith) o t };
  new = λ h o. (λ t. record { x = d.new 0 h (omega arith) o t; y = d.new 1 h (omega arith) o t; z = d.new 2 h (omega arith) o t }) ∙ sym (each_point ℛ S before h);
}

-- a boundary edge is first met at its only half-edge
pub boundary_first : (S : Shape) (v : ℕ) (l : List ℕ) → Oriented S v l → (h : ℕ) → OnBoundary S l h → edge_at S l (edge S l h) ≡ h
boundary_first S v l ok h o = let e = edge_at-edge S v l ok h o.lt in let k = o.lt in let n = o.none in omega arith
