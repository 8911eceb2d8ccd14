-- The default marks are the paper's, and no refusal sees them. Assumes nothing.
use mathlib.Core.Path.{◌≡◌, refl, sym, ap, ◌∙◌}
use mathlib.Core.Bool.{Bool, true, false}
use mathlib.Core.Logic.{◌⊎◌, inl, inr, ◌↔◌}
use mathlib.Core.List.{List, []}
use Prim.Native.Nat.{ℕ, ◌≤◌, ◌<◌, ◌%◌}
use native.Mathlib.Decide.{ℕ_discrete}
use native.Mathlib.Omega.{arith}
use lib.Dec.{eqb}
use lib.ListN.{length, get_or, replicate, get_or-replicate, length-replicate}
use borrow.Author.Tests.{eq-eqb, eqb-true, le-ltb}
use Rattle.lists.proofs.Tabulate.{length-tabulate, get_or-tabulate}
use Rattle.search.specs.Search.{first}
use Rattle.search.proofs.Tests.{decided, clash, refuted, and_left, and_right, cond_elim}
use Rattle.search.proofs.First.{first_none}
use Rattle.topology.specs.Shape.{quads, Lawful}
use Rattle.topology.specs.Boundary.{boundary_from}
use Rattle.topology.specs.Vertex.{valence}
use Rattle.topology.specs.Manifold.{Manifold}
use Rattle.topology.proofs.Boundary.{boundary_from-le, ring_range}
use Rattle.polygons.specs.Polygons.{shape_of}
use Rattle.polygons.proofs.Counts.{shape_lawful}
use Rattle.refusals.specs.Refusals.{bad_mark, bad_corner, isolated, repeated_side, non_manifold, bad_valence, marked_ring}
use Rattle.refusals.proofs.Manifold.{manifold_if}
use Rattle.nets.specs.Net.{marked}
use Rattle.verdict.specs.Verdict.{Verdict, accepted, or_else, refused_at, vertex_verdict, adjacency_verdict, faces_verdict, shape_verdict}
use Rattle.verdict.proofs.Accepted.{else_same, at_none, last_pass}
use Rattle.defaults.specs.Defaults.{default_mark, default_marks, DefaultMarks}
use Rattle.defaults.proofs.Examples

-- ---- one mark
pub length_default : (v : ℕ) (l : List ℕ) → length (default_marks v l) ≡ v
unfolding default_marks
length_default v l = length-tabulate v (default_mark l)

pub mark_at_lem : (v : ℕ) (l : List ℕ) (p : ℕ) → p < v → get_or (default_marks v l) p 0 ≡ default_mark l p
unfolding default_marks
mark_at_lem v l p b = get_or-tabulate v (default_mark l) p 0 b

mark_le : (l : List ℕ) (p : ℕ) → default_mark l p ≤ 1
unfolding default_mark
mark_le l p = cond_elim (λ x. x ≤ 1) (eqb (valence l p) 1) 1 0 (λ e. omega arith) (λ e. omega arith)

mark_one : (l : List ℕ) (p : ℕ) → default_mark l p ≡ 1 → valence l p ≡ 1
unfolding default_mark
mark_one l p e = go (decided (eqb (valence l p) 1))
  where
    go : (eqb (valence l p) 1 ≡ true) ⊎ (eqb (valence l p) 1 ≡ false) → valence l p ≡ 1
    go (inl t) = eqb-true (valence l p) 1 t
    go (inr t) = let x : default_mark l p ≡ 0 = rw t in let z : ⊥ = omega arith in absurd z

one_mark : (l : List ℕ) (p : ℕ) → valence l p ≡ 1 → default_mark l p ≡ 1
unfolding default_mark
one_mark l p e = let t = eq-eqb (valence l p) 1 e in rw t

-- a vertex in one face has no full ring
one_boundary : (v : ℕ) (l : List ℕ) → Manifold quads v l → (p : ℕ) → p < v → valence l p ≡ 1 → boundary_from quads l p < length l
one_boundary v l ok p b e = go (ℕ_discrete (boundary_from quads l p) (length l))
  where
    go : Dec (boundary_from quads l p ≡ length l) → boundary_from quads l p < length l
    go (yes c) = let r = (ring_range quads v l ok p b c).0 in let z : ⊥ = omega arith in absurd z
    go (no c) = let x = boundary_from-le quads l p in omega arith

exactly : (v : ℕ) (l : List ℕ) → Manifold quads v l → (p : ℕ) → p < v → (marked (default_marks v l) p ≡ true) ↔ ((boundary_from quads l p < length l) × (valence l p ≡ 1))
unfolding marked
exactly v l ok p b = (
  (λ t. let e = mark_one l p (sym (mark_at_lem v l p b) ∙ eqb-true (get_or (default_marks v l) p 0) 1 t) in (one_boundary v l ok p b e, e)),
  (λ x. eq-eqb (get_or (default_marks v l) p 0) 1 (mark_at_lem v l p b ∙ one_mark l p x.1)),
)

-- ---- refusals
at_accepted : (r : ℕ) (t : ℕ → Bool) (n : ℕ) (place : ℕ → ℕ) → ((k : ℕ) → k < n → t k ≡ false) → refused_at r t n place ≡ accepted
at_accepted r t n place f = let e = first_none t n (λ k b c. clash (t k) c (f k b)) in sym (last_pass r t n place (first t n) refl (omega arith))

-- marks that are 0 or 1, and 1 on boundary vertices only
record BoundaryMarks (l marks : List ℕ) : Type 0 where
  small : (p : ℕ) → p < length marks → get_or marks p 0 ≤ 1
  outside : Manifold quads (length marks) l → (p : ℕ) → p < length marks → get_or marks p 0 ≡ 1 → boundary_from quads l p < length l

no_six : (l marks : List ℕ) → BoundaryMarks l marks → refused_at 6 (bad_mark marks) (length marks) (λ (p : ℕ). p) ≡ accepted
unfolding bad_mark
no_six l marks r = at_accepted 6 (bad_mark marks) (length marks) (λ (p : ℕ). p) (λ p b. le-ltb 1 (get_or marks p 0) (r.small p b))

no_twelve : (l marks : List ℕ) → BoundaryMarks l marks → Manifold quads (length marks) l → refused_at 12 (marked_ring quads l marks) (length marks) (λ (p : ℕ). p) ≡ accepted
unfolding marked_ring
no_twelve l marks r ok = at_accepted 12 (marked_ring quads l marks) (length marks) (λ (p : ℕ). p) (λ p b. refuted (marked_ring quads l marks p)
    (λ t. let x = eqb-true (get_or marks p 0) 1 (and_left (eqb (get_or marks p 0) 1) (eqb (boundary_from quads l p) (length l)) t) in
    let y = eqb-true (boundary_from quads l p) (length l) (and_right (eqb (get_or marks p 0) 1) (eqb (boundary_from quads l p) (length l)) t) in
    let z = r.outside ok p b x in omega arith))

-- the verdict without 6 and 12
abbrev unmarked_verdict : ℕ → List ℕ → Verdict
unmarked_verdict v l =
    or_else (refused_at 7 (bad_corner quads v l) (length l) quads.face)
    (or_else (refused_at 8 (isolated l) v (λ (p : ℕ). p))
    (or_else (refused_at 9 (repeated_side quads l) (length l) quads.face)
    (or_else (refused_at 10 (non_manifold quads l) v (λ (p : ℕ). p))
    (or_else (refused_at 11 (bad_valence quads l) v (λ (p : ℕ). p)) accepted))))

without_marks : (l marks : List ℕ) → length l % 4 ≡ 0 → BoundaryMarks l marks → shape_verdict quads l marks ≡ unmarked_verdict (length marks) l
unfolding shape_verdict faces_verdict adjacency_verdict vertex_verdict shape_of
without_marks l marks four r =
    let v : ℕ = length marks in
    let s = no_six l marks r in
    let w : Lawful quads (length l) = shape_lawful [] (length l) (record { fours = λ e. four; counts = λ b. absurd (omega arith) }) in
    rw s (else_same (refused_at 7 (bad_corner quads v l) (length l) quads.face) (λ e₇.
    else_same (refused_at 8 (isolated l) v (λ (p : ℕ). p)) (λ e₈.
    else_same (refused_at 9 (repeated_side quads l) (length l) quads.face) (λ e₉.
    else_same (refused_at 10 (non_manifold quads l) v (λ (p : ℕ). p)) (λ e₁₀.
    else_same (refused_at 11 (bad_valence quads l) v (λ (p : ℕ). p)) (λ e₁₁.
    no_twelve l marks r (manifold_if quads v l w (record {
      no7 = at_none 7 _ _ quads.face e₇;
      no8 = at_none 8 _ _ (λ (p : ℕ). p) e₈;
      no9 = at_none 9 _ _ quads.face e₉;
      no10 = at_none 10 _ _ (λ (p : ℕ). p) e₁₀;
      no11 = at_none 11 _ _ (λ (p : ℕ). p) e₁₁;
    }))))))))

default_boundary : (v : ℕ) (l : List ℕ) → BoundaryMarks l (default_marks v l)
default_boundary v l = record {
  small = λ p b. let n = length_default v l in let e = mark_at_lem v l p (omega arith) in let x = mark_le l p in omega arith;
  outside = λ ok p b e. let n = length_default v l in let f = mark_at_lem v l p (omega arith) in one_boundary (length (default_marks v l)) l ok p b (mark_one l p (sym f ∙ e));
}

zero_boundary : (v : ℕ) (l : List ℕ) → BoundaryMarks l (replicate v 0)
zero_boundary v l = record {
  small = λ p b. let n = length-replicate {A = ℕ} v 0 in let e = get_or-replicate {A = ℕ} v p 0 0 (omega arith) in omega arith;
  outside = λ ok p b e. let n = length-replicate {A = ℕ} v 0 in let f = get_or-replicate {A = ℕ} v p 0 0 (omega arith) in let z : ⊥ = omega arith in absurd z;
}

unseen : (v : ℕ) (l : List ℕ) → length l % 4 ≡ 0 → shape_verdict quads l (default_marks v l) ≡ shape_verdict quads l (replicate v 0)
unseen v l four =
    without_marks l (default_marks v l) four (default_boundary v l)
    ∙ ap (λ (n : ℕ). unmarked_verdict n l) (length_default v l ∙ sym (length-replicate {A = ℕ} v 0))
    ∙ sym (without_marks l (replicate v 0) four (zero_boundary v l))

pub default_marks_lem : DefaultMarks
default_marks_lem = record { exactly = exactly; unseen = unseen }
