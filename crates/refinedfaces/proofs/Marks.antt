-- The marks of a refined net: old ones stay, new ones are 0; so refusals 6 and 12 hold nowhere in it if they hold nowhere before.
use mathlib.Core.Path.{◌≡◌, sym, ◌∙◌}
use mathlib.Core.Bool.{cond}
use mathlib.Core.List.{List}
use Prim.Native.Nat.{ℕ, ◌≤◌, ◌<◌}
use native.Mathlib.Decide.{dec_lt}
use native.Mathlib.Omega.{arith}
use lib.ListN.{length, get_or, get_or-eq_default}
use lib.Dec.{eqb, ltb}
use borrow.Author.Tests.{eqb-true, ltb-true, lt-ltb, le-ltb}
use Rattle.lists.proofs.Tabulate.{length-tabulate, get_or-tabulate}
use Rattle.search.specs.Search.{first}
use Rattle.search.proofs.Tests.{and_left, and_right}
use Rattle.search.proofs.First.{first_none}
use Rattle.topology.specs.Shape.{Shape, quads}
use Rattle.topology.specs.Boundary.{boundary_from}
use Rattle.topology.specs.Manifold.{Manifold}
use Rattle.refusals.specs.Refusals.{bad_mark, marked_ring}
use Rattle.refusals.proofs.Places.{mark_le, marked_boundary}
use Rattle.refinedfaces.specs.Refined.{refined_vertices, refined, refined_marks}
use Rattle.refinedfaces.proofs.Corners.{length-refined}
use Rattle.refinedfaces.proofs.Boundary.{boundary_from_old}

module _ (S : Shape) (v : ℕ) (l marks : List ℕ) where
  pub length_marks : length (refined_marks S v l marks) ≡ refined_vertices S v l
  unfolding refined_marks
  length_marks = length-tabulate (refined_vertices S v l) (λ (p : ℕ). cond (ltb p v) (get_or marks p 0) 0)

  mark_at_lem : (p : ℕ) → p < refined_vertices S v l → get_or (refined_marks S v l marks) p 0 ≡ cond (ltb p v) (get_or marks p 0) 0
  unfolding refined_marks
  mark_at_lem p b = get_or-tabulate (refined_vertices S v l) (λ (p : ℕ). cond (ltb p v) (get_or marks p 0) 0) p 0 b

  pub mark_old : (p : ℕ) → p < v → get_or (refined_marks S v l marks) p 0 ≡ get_or marks p 0
  mark_old p b = let t = lt-ltb p v b in mark_at_lem p (omega arith) ∙ rw t

  pub mark_new : (p : ℕ) → v ≤ p → get_or (refined_marks S v l marks) p 0 ≡ 0
  mark_new p b = go (dec_lt p (refined_vertices S v l))
    where
      go : Dec (p < refined_vertices S v l) → get_or (refined_marks S v l marks) p 0 ≡ 0
      go (yes c) = let t = le-ltb p v b in mark_at_lem p c ∙ rw t
      go (no c) = get_or-eq_default (refined_marks S v l marks) 0 {n = p} (omega (arith, length_marks))

  pub no_6_refined : first (bad_mark marks) v ≡ v → first (bad_mark (refined_marks S v l marks)) (refined_vertices S v l) ≡ refined_vertices S v l
  unfolding bad_mark
  no_6_refined e = first_none (bad_mark (refined_marks S v l marks)) (refined_vertices S v l) (λ p b t. at p (ltb-true 1 (get_or (refined_marks S v l marks) p 0) t) (dec_lt p v))
    where
      at : (p : ℕ) → 1 < get_or (refined_marks S v l marks) p 0 → Dec (p < v) → ⊥
      at p t (yes c) = let x = mark_old p c in let y = mark_le marks v e p c in omega arith
      at p t (no c) = let x = mark_new p (omega arith) in omega arith

  pub no_12_refined : Manifold S v l → first (marked_ring S l marks) v ≡ v
      → first (marked_ring quads (refined S v l) (refined_marks S v l marks)) (refined_vertices S v l) ≡ refined_vertices S v l
  unfolding marked_ring
  no_12_refined ok e = first_none (marked_ring quads (refined S v l) (refined_marks S v l marks)) (refined_vertices S v l) (λ p b t. at p
      (eqb-true (get_or (refined_marks S v l marks) p 0) 1 (and_left (eqb (get_or (refined_marks S v l marks) p 0) 1) (eqb (boundary_from quads (refined S v l) p) (length (refined S v l))) t))
      (eqb-true (boundary_from quads (refined S v l) p) (length (refined S v l)) (and_right (eqb (get_or (refined_marks S v l marks) p 0) 1) (eqb (boundary_from quads (refined S v l) p) (length (refined S v l))) t)) (dec_lt p v))
    where
      at : (p : ℕ) → get_or (refined_marks S v l marks) p 0 ≡ 1 → boundary_from quads (refined S v l) p ≡ length (refined S v l) → Dec (p < v) → ⊥
      at p m r (yes c) =
          let x = marked_boundary S l marks v e p c (sym (mark_old p c) ∙ m) in
          let y = boundary_from_old S v l ok p c in
          let n = length-refined S v l in
          omega arith
      at p m r (no c) = let x = mark_new p (omega arith) in omega arith
