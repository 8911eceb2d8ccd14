-- The net after a round and after k rounds: its tables and their lengths, that input points and marks stay, and that it is refinable again.
use mathlib.Core.Path.{◌≡◌, refl, sym, ap, ap₂, ◌∙◌}
use mathlib.Core.List.{List}
use Prim.Native.Nat.{ℕ, zero, suc, ◌+◌, ◌*◌, ◌/◌, ◌%◌, ◌≤◌, ◌<◌}
use native.Mathlib.Decide.{dec_lt}
use native.Mathlib.Omega.{arith}
use lib.IntN.{pos}
use lib.ListN.{length, get_or, get_or-eq_default}
use Rattle.lists.proofs.Tabulate.{length-tabulate, get_or-tabulate}
use Rattle.nets.specs.Net.{Net, axis}
use Rattle.curve.specs.Weights.{Weights}
use Rattle.topology.specs.Shape.{quads}
use Rattle.topology.specs.Manifold.{Manifold}
use Rattle.topology.proofs.Shape.{quads_lawful}
use Rattle.refusals.proofs.Manifold.{manifold_if}
use Rattle.refinedfaces.specs.Refined.{refined_vertices, refined, refined_marks, vertices_after, corners_after}
use Rattle.refinedfaces.proofs.Corners.{length-refined}
use Rattle.refinedfaces.proofs.Manifold.{unrefused_refined, vertices_after_ge}
use Rattle.refinedfaces.proofs.Marks.{length_marks, mark_old, mark_new, no_6_refined, no_12_refined}
use Rattle.scheme.specs.Step.{refined_coordinate, step, steps}
use Rattle.schemelaws.specs.Nets.{Refinable}
use Rattle.schemelaws.proofs.Coordinates.{refined_old}

-- ---- one round
module _ (w : Weights) (m : Net) where
  pub step_faces : (step w m).faces ≡ refined quads (length m.marks) m.faces
  unfolding step
  step_faces = refl

  pub step_marks : (step w m).marks ≡ refined_marks quads (length m.marks) m.faces m.marks
  unfolding step
  step_marks = refl

  pub step_count : length (step w m).marks ≡ refined_vertices quads (length m.marks) m.faces
  step_count = ap length step_marks ∙ length_marks quads (length m.marks) m.faces m.marks

  pub step-length : length (step w m).vertices ≡ 3 * refined_vertices quads (length m.marks) m.faces
  unfolding step
  step-length = length-tabulate (3 * refined_vertices quads (length m.marks) m.faces) (λ (i : ℕ). refined_coordinate w (length m.marks) m.faces m.marks (axis m.vertices (i % 3)) (i / 3))

  -- number i of the refined vertex table, and coordinate a of refined vertex i
  pub step-coordinate : (i : ℕ) → i < 3 * refined_vertices quads (length m.marks) m.faces
      → get_or (step w m).vertices i (pos 0) ≡ refined_coordinate w (length m.marks) m.faces m.marks (axis m.vertices (i % 3)) (i / 3)
  unfolding step
  step-coordinate i b =
      get_or-tabulate (3 * refined_vertices quads (length m.marks) m.faces) (λ (i : ℕ). refined_coordinate w (length m.marks) m.faces m.marks (axis m.vertices (i % 3)) (i / 3)) i (pos 0) b

  pub step-axis : (a i : ℕ) → a < 3 → i < refined_vertices quads (length m.marks) m.faces
      → axis (step w m).vertices a i ≡ refined_coordinate w (length m.marks) m.faces m.marks (axis m.vertices a) i
  unfolding axis
  step-axis a i b c =
      let q : (3 * i + a) / 3 ≡ i = omega arith in
      let r : (3 * i + a) % 3 ≡ a = omega arith in
      step-coordinate (3 * i + a) (omega arith) ∙ rw (q, r)

  -- old points stay
  pub step_kept : (i : ℕ) → i < 3 * length m.marks → get_or (step w m).vertices i (pos 0) ≡ get_or m.vertices i (pos 0)
  unfolding axis
  step_kept i b =
      let e : 3 * (i / 3) + i % 3 ≡ i = omega arith in
      step-coordinate i (omega arith)
      ∙ refined_old w (length m.marks) m.faces m.marks (axis m.vertices (i % 3)) (i / 3) (omega arith)
      ∙ ap (λ (j : ℕ). get_or m.vertices j (pos 0)) e

pub refinable_manifold : (m : Net) → Refinable m → Manifold quads (length m.marks) m.faces
refinable_manifold m ok = manifold_if quads (length m.marks) m.faces (quads_lawful (length m.faces) ok.fours) ok.no7to11

-- if refusals 6 to 12 hold nowhere in a net, they hold nowhere in its refined net
module _ (w : Weights) (m : Net) where
  refinable_step : Refinable m → Refinable (step w m)
  unfolding step
  refinable_step ok =
      let v : ℕ = length m.marks in
      let c = length_marks quads v m.faces m.marks in
      let e = length-refined quads v m.faces in
      record {
        threes = step-length w m ∙ ap (λ (n : ℕ). 3 * n) (sym c);
        fours = omega arith;
        no6 = rw c (no_6_refined quads v m.faces m.marks ok.no6);
        no7to11 = rw c (unrefused_refined quads v m.faces (quads_lawful (length m.faces) ok.fours) ok.no7to11);
        no12 = rw c (no_12_refined quads v m.faces m.marks (refinable_manifold m ok) ok.no12);
      }

-- ---- k rounds
module _ (w : Weights) (m : Net) where
  mutual
    unfolding steps vertices_after corners_after

    pub steps-count : (k : ℕ) → length (steps w k m).marks ≡ vertices_after k (length m.marks) m.faces
    steps-count zero = refl
    steps-count (suc k) = step_count w (steps w k m) ∙ ap₂ (refined_vertices quads) (steps-count k) (steps_faces k)

    steps_faces : (k : ℕ) → (steps w k m).faces ≡ corners_after k (length m.marks) m.faces
    steps_faces zero = refl
    steps_faces (suc k) = step_faces w (steps w k m) ∙ ap₂ (refined quads) (steps-count k) (steps_faces k)

  -- the input points and marks stay, and later marks are 0
  pub steps_kept : (k i : ℕ) → i < 3 * length m.marks → get_or (steps w k m).vertices i (pos 0) ≡ get_or m.vertices i (pos 0)
  unfolding steps
  steps_kept zero i b = refl
  steps_kept (suc k) i b = let c = steps-count k in let g = vertices_after_ge (length m.marks) m.faces k in step_kept w (steps w k m) i (omega arith) ∙ steps_kept k i b

  pub steps_mark_kept : (k p : ℕ) → p < length m.marks → get_or (steps w k m).marks p 0 ≡ get_or m.marks p 0
  unfolding steps
  steps_mark_kept zero p b = refl
  steps_mark_kept (suc k) p b =
      let c = steps-count k in
      let g = vertices_after_ge (length m.marks) m.faces k in
      ap (λ (l : List ℕ). get_or l p 0) (step_marks w (steps w k m))
      ∙ mark_old quads (length (steps w k m).marks) (steps w k m).faces (steps w k m).marks p (omega arith) ∙ steps_mark_kept k p b

  pub steps_mark_new : (k p : ℕ) → length m.marks ≤ p → get_or (steps w k m).marks p 0 ≡ 0
  unfolding steps
  steps_mark_new zero p b = get_or-eq_default m.marks 0 {n = p} b
  steps_mark_new (suc k) p b = ap (λ (l : List ℕ). get_or l p 0) (step_marks w (steps w k m)) ∙ go (steps_mark_new k p b) (dec_lt p (length (steps w k m).marks))
    where
      go : get_or (steps w k m).marks p 0 ≡ 0 → Dec (p < length (steps w k m).marks) → get_or (refined_marks quads (length (steps w k m).marks) (steps w k m).faces (steps w k m).marks) p 0 ≡ 0
      go e (yes c) = mark_old quads (length (steps w k m).marks) (steps w k m).faces (steps w k m).marks p c ∙ e
      go e (no c) = mark_new quads (length (steps w k m).marks) (steps w k m).faces (steps w k m).marks p (omega arith)

  pub refinable_steps : Refinable m → (k : ℕ) → Refinable (steps w k m)
  unfolding steps
  refinable_steps ok zero = ok
  refinable_steps ok (suc k) = refinable_step w (steps w k m) (refinable_steps ok k)
