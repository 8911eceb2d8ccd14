-- The split net: its tables and their lengths, that drawn points and marks stay, and that it is refinable; and so the net where refining begins.
use mathlib.Core.Path.{◌≡◌, refl, sym, ap, ◌∙◌, subst}
use mathlib.Core.List.{List, [], ◌∷◌}
use Prim.Native.Nat.{ℕ, ◌+◌, ◌*◌, ◌/◌, ◌%◌, ◌≤◌, ◌<◌}
use native.Mathlib.Nat.{not-suc-le-zero}
use native.Mathlib.Decide.{dec_lt}
use native.Mathlib.Omega.{arith}
use lib.IntN.{ℤ, pos}
use lib.ListN.{length, get_or}
use Rattle.lists.proofs.Tabulate.{length-tabulate, get_or-tabulate}
use Rattle.topology.specs.Shape.{Shape, Lawful}
use Rattle.topology.specs.Manifold.{Manifold}
use Rattle.polygons.specs.Polygons.{shape_of}
use Rattle.polygons.proofs.Counts.{shape_lawful, shape_none}
use Rattle.refusals.proofs.Manifold.{manifold_if}
use Rattle.refinedfaces.specs.Refined.{refined_vertices, refined, refined_marks}
use Rattle.refinedfaces.proofs.Corners.{length-refined}
use Rattle.refinedfaces.proofs.Manifold.{unrefused_refined}
use Rattle.refinedfaces.proofs.Marks.{length_marks, mark_old, no_6_refined, no_12_refined}
use Rattle.nets.specs.Net.{Net, ControlNet, control_net, control_tables, axis}
use Rattle.schemelaws.specs.Nets.{Refinable}
use Rattle.splitting.specs.Splitting.{split_coordinate, split, start_net}
use Rattle.splitting.specs.WellFormed.{WellFormed}
use Rattle.splitting.proofs.Coordinates.{split_old}

-- ---- its tables
module _ (m : ControlNet) where
  pub split_faces : (split m).faces ≡ refined (shape_of m.sides) (length m.marks) m.faces
  unfolding split
  split_faces = refl

  pub split_marks : (split m).marks ≡ refined_marks (shape_of m.sides) (length m.marks) m.faces m.marks
  unfolding split
  split_marks = refl

  pub split-count : length (split m).marks ≡ refined_vertices (shape_of m.sides) (length m.marks) m.faces
  split-count = ap length split_marks ∙ length_marks (shape_of m.sides) (length m.marks) m.faces m.marks

  pub split_corners : length (split m).faces ≡ 4 * length m.faces
  split_corners = ap length split_faces ∙ length-refined (shape_of m.sides) (length m.marks) m.faces

  pub split-length : length (split m).vertices ≡ 3 * refined_vertices (shape_of m.sides) (length m.marks) m.faces
  unfolding split
  split-length =
      length-tabulate (3 * refined_vertices (shape_of m.sides) (length m.marks) m.faces) (λ (i : ℕ). split_coordinate (shape_of m.sides) (length m.marks) m.faces (axis m.vertices (i % 3)) (i / 3))

  -- number i of its vertex table, and coordinate a of its vertex i
  pub split-coordinate : (i : ℕ) → i < 3 * refined_vertices (shape_of m.sides) (length m.marks) m.faces
      → get_or (split m).vertices i (pos 0) ≡ split_coordinate (shape_of m.sides) (length m.marks) m.faces (axis m.vertices (i % 3)) (i / 3)
  unfolding split
  split-coordinate i b =
      get_or-tabulate (3 * refined_vertices (shape_of m.sides) (length m.marks) m.faces) (λ (i : ℕ). split_coordinate (shape_of m.sides) (length m.marks) m.faces (axis m.vertices (i % 3)) (i / 3)) i (pos 0) b

  pub split-axis : (a i : ℕ) → a < 3 → i < refined_vertices (shape_of m.sides) (length m.marks) m.faces
      → axis (split m).vertices a i ≡ split_coordinate (shape_of m.sides) (length m.marks) m.faces (axis m.vertices a) i
  unfolding axis
  split-axis a i b c =
      let q : (3 * i + a) / 3 ≡ i = omega arith in
      let r : (3 * i + a) % 3 ≡ a = omega arith in
      split-coordinate (3 * i + a) (omega arith) ∙ rw (q, r)

  -- "drawn points stay", and so do marks
  pub split_kept : (i : ℕ) → i < 3 * length m.marks → get_or (split m).vertices i (pos 0) ≡ get_or m.vertices i (pos 0)
  unfolding axis
  split_kept i b =
      let e : 3 * (i / 3) + i % 3 ≡ i = omega arith in
      split-coordinate i (omega arith)
      ∙ split_old (shape_of m.sides) (length m.marks) m.faces (axis m.vertices (i % 3)) (i / 3) (omega arith)
      ∙ ap (λ (j : ℕ). get_or m.vertices j (pos 0)) e

  pub split_mark_kept : (p : ℕ) → p < length m.marks → get_or (split m).marks p 0 ≡ get_or m.marks p 0
  split_mark_kept p b = ap (λ (l : List ℕ). get_or l p 0) split_marks ∙ mark_old (shape_of m.sides) (length m.marks) m.faces m.marks p b

-- ---- if refusals 6 to 12 hold nowhere in a drawn net, they hold nowhere in its split
module _ (m : ControlNet) (ok : WellFormed m) where
  control_lawful : Lawful (shape_of m.sides) (length m.faces)
  control_lawful = shape_lawful m.sides (length m.faces) ok.sided

  pub control_manifold : Manifold (shape_of m.sides) (length m.marks) m.faces
  control_manifold = manifold_if (shape_of m.sides) (length m.marks) m.faces control_lawful ok.no7to11

  pub split_refinable : Refinable (split m)
  unfolding split
  split_refinable =
      let S : Shape = shape_of m.sides in
      let v : ℕ = length m.marks in
      let c = length_marks S v m.faces m.marks in
      let e = length-refined S v m.faces in
      record {
        threes = split-length m ∙ ap (λ (n : ℕ). 3 * n) (sym c);
        fours = omega arith;
        no6 = rw c (no_6_refined S v m.faces m.marks ok.no6);
        no7to11 = rw c (unrefused_refined S v m.faces control_lawful ok.no7to11);
        no12 = rw c (no_12_refined S v m.faces m.marks control_manifold ok.no12);
      }

  -- without side counts the drawn net is refinable itself
  pub plain_refinable : length m.sides ≡ 0 → Refinable (control_tables m)
  plain_refinable e =
      let q = shape_none m.sides e in
      record { threes = ok.threes; fours = ok.sided.fours e; no6 = ok.no6; no7to11 = rw q at ok.no7to11; no12 = rw q at ok.no12 }

-- ---- the net where refining begins

pub start_none : (m : ControlNet) → length m.sides ≡ 0 → start_net m ≡ control_tables m
unfolding start_net
start_none m e = go m.vertices m.faces m.marks m.sides e
  where
    go : (vertices : List ℤ) (faces marks sides : List ℕ) → length sides ≡ 0 → start_net (control_net vertices faces sides marks) ≡ control_tables (control_net vertices faces sides marks)
    go vertices faces marks [] e = refl
    go vertices faces marks (c ∷ s) e = let z : ⊥ = omega arith in absurd z

pub start-split : (m : ControlNet) → 0 < length m.sides → start_net m ≡ split m
unfolding start_net
start-split m b = go m.vertices m.faces m.marks m.sides b
  where
    go : (vertices : List ℤ) (faces marks sides : List ℕ) → 0 < length sides → start_net (control_net vertices faces sides marks) ≡ split (control_net vertices faces sides marks)
    go vertices faces marks [] b = absurd (not-suc-le-zero b)
    go vertices faces marks (c ∷ s) b = refl

pub start-cases : (P : Net → Type 0) (m : ControlNet) → (length m.sides ≡ 0 → P (control_tables m)) → (0 < length m.sides → P (split m)) → P (start_net m)
start-cases P m a b = go (dec_lt 0 (length m.sides))
  where
    go : Dec (0 < length m.sides) → P (start_net m)
    go (yes c) = subst P (sym (start-split m c)) (b c)
    go (no c) = let e : length m.sides ≡ 0 = omega arith in subst P (sym (start_none m e)) (a e)

-- the vertices of the control net are among its vertices
pub start_grows : (m : ControlNet) → length m.marks ≤ length (start_net m).marks
start_grows m = start-cases (λ (n : Net). length m.marks ≤ length n.marks) m (λ _. omega arith) (λ _. omega (arith, split-count m))

-- coordinates do not matter for its corners and marks
pub start_faces : (v v' : List ℤ) (l s marks : List ℕ) → (start_net (control_net v l s marks)).faces ≡ (start_net (control_net v' l s marks)).faces
unfolding start_net split
start_faces v v' l [] marks = refl
start_faces v v' l (c ∷ s) marks = refl

pub start_marks : (v v' : List ℤ) (l s marks : List ℕ) → (start_net (control_net v l s marks)).marks ≡ (start_net (control_net v' l s marks)).marks
unfolding start_net split
start_marks v v' l [] marks = refl
start_marks v v' l (c ∷ s) marks = refl

pub start_refinable : (m : ControlNet) → WellFormed m → Refinable (start_net m)
start_refinable m ok = start-cases Refinable m (plain_refinable m ok) (λ b. split_refinable m ok)
