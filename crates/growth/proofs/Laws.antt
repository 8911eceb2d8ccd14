-- How a net grows in a refinement step, over the rounds, and from the control net on.
use mathlib.Core.Path.{◌≡◌, refl, sym, ap, ap₂, ◌∙◌}
use mathlib.Core.List.{List, [], ◌∷◌}
use Prim.Native.Nat.{ℕ, zero, suc, ◌+◌, ◌/◌, ◌<◌}
use native.Mathlib.Nat.{not-suc-le-zero}
use native.Mathlib.Omega.{arith}
use lib.ListN.{length}
use Rattle.curve.specs.Weights.{Weights}
use Rattle.topology.specs.Shape.{Shape, quads}
use Rattle.topology.specs.Manifold.{Oriented}
use Rattle.polygons.specs.Polygons.{shape_of}
use Rattle.polygons.proofs.Counts.{shape_none}
use Rattle.refinedfaces.specs.Refined.{refined_vertices, refined}
use Rattle.refinedfaces.proofs.Corners.{length-refined}
use Rattle.refinedfaces.proofs.Edges.{edges_refined}
use Rattle.nets.specs.Net.{Net, ControlNet, control_tables}
use Rattle.scheme.specs.Step.{steps}
use Rattle.schemelaws.specs.Nets.{Refinable}
use Rattle.schemelaws.proofs.Steps.{step_faces, step_count, refinable_manifold, refinable_steps}
use Rattle.splitting.specs.Splitting.{split, start_net}
use Rattle.splitting.specs.WellFormed.{WellFormed}
use Rattle.splitting.proofs.Split.{split_faces, split-count, control_manifold, split_refinable, plain_refinable, start-cases}
use Rattle.growth.specs.Growth.{Counts, counts, counts_of, grown, grown_by, splits}

counts-refined : (S : Shape) (v : ℕ) (l : List ℕ) → Oriented S v l → counts_of quads (refined_vertices S v l) (refined S v l) ≡ grown (counts_of S v l)
unfolding counts_of grown quads
counts-refined S v l ok =
    let n = length-refined S v l in
    let f : length (refined S v l) / 4 ≡ length l = omega arith in
    λ i. counts (refined_vertices S v l) (edges_refined S v l ok i) (f i) (n i)

-- ---- the rounds
counts-steps : (w : Weights) (m : Net) → Refinable m → (k : ℕ)
    → counts_of quads (length (steps w k m).marks) (steps w k m).faces ≡ grown_by k (counts_of quads (length m.marks) m.faces)
unfolding steps grown_by
counts-steps w m ok zero = refl
counts-steps w m ok (suc k) =
    let u : Net = steps w k m in
    ap₂ (counts_of quads) (step_count w u) (step_faces w u)
    ∙ counts-refined quads (length u.marks) u.faces (refinable_manifold u (refinable_steps w m ok k)).oriented
    ∙ ap grown (counts-steps w m ok k)

-- one step, then k
grown-first : (k : ℕ) (c : Counts) → grown_by k (grown c) ≡ grown_by (k + 1) c
unfolding grown_by
grown-first zero c = refl
grown-first (suc k) c = let e : suc k + 1 ≡ suc (k + 1) = omega arith in rw e (ap grown (grown-first k c))

-- ---- from the control net on
pub splits_none : (s : List ℕ) → length s ≡ 0 → splits s ≡ 0
unfolding splits
splits_none [] e = refl
splits_none (c ∷ s) e = let z : ⊥ = omega arith in absurd z

pub splits_some : (s : List ℕ) → 0 < length s → splits s ≡ 1
unfolding splits
splits_some [] b = absurd (not-suc-le-zero b)
splits_some (c ∷ s) b = refl

-- the counts of a control net
abbrev pub control_counts : ControlNet → Counts
control_counts m = counts_of (shape_of m.sides) (length m.marks) m.faces

split-counts : (m : ControlNet) → WellFormed m → counts_of quads (length (split m).marks) (split m).faces ≡ grown (control_counts m)
split-counts m ok = ap₂ (counts_of quads) (split-count m) (split_faces m) ∙ counts-refined (shape_of m.sides) (length m.marks) m.faces (control_manifold m ok).oriented

pub vertices_after_lem : (w : Weights) (m : ControlNet) → WellFormed m → (k : ℕ) → length (steps w k (start_net m)).marks ≡ (grown_by (k + splits m.sides) (control_counts m)).vertices
unfolding counts_of
vertices_after_lem w m ok k = start-cases (λ u. length (steps w k u).marks ≡ (grown_by (k + splits m.sides) (control_counts m)).vertices) m
    (λ e.
    let s : k + splits m.sides ≡ k = let z = splits_none m.sides e in omega arith in
    rw (s, shape_none m.sides e) (vertices_steps (control_tables m) (plain_refinable m ok e)))
    (λ b. vertices_steps (split m) (split_refinable m ok) ∙ ap (λ (c : Counts). (grown_by k c).vertices) (split-counts m ok)
    ∙ ap (λ (c : Counts). c.vertices) (grown-first k (control_counts m)) ∙ ap (λ (j : ℕ). (grown_by (k + j) (control_counts m)).vertices) (sym (splits_some m.sides b)))
  where
    vertices_steps : (u : Net) → Refinable u → length (steps w k u).marks ≡ (grown_by k (counts_of quads (length u.marks) u.faces)).vertices
    vertices_steps u r = ap (λ (c : Counts). c.vertices) (counts-steps w u r k)
