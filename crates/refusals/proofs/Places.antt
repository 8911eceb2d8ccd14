-- Where 6, 8 and 12 do not hold; and how far one must look for 8.
use mathlib.Core.Path.{◌≡◌}
use mathlib.Core.Bool.{false}
use mathlib.Core.List.{List}
use Prim.Native.Nat.{ℕ, suc, ◌≤◌, ◌<◌}
use native.Mathlib.Decide.{dec_lt}
use native.Mathlib.Omega.{arith}
use lib.ListN.{length, get_or}
use borrow.Author.Tests.{eq-eqb, ltb-false, not-false}
use Rattle.search.specs.Search.{first, any}
use Rattle.search.proofs.Tests.{clash, and_on}
use Rattle.search.proofs.First.{first_before, first_reach, any_which}
use Rattle.topology.specs.Shape.{Shape}
use Rattle.topology.specs.Boundary.{boundary_from}
use Rattle.topology.specs.Vertex.{leaves}
use Rattle.topology.proofs.Boundary.{boundary_from-le}
use Rattle.topology.proofs.Vertices.{leavers_le}
use Rattle.refusals.specs.Refusals.{bad_mark, isolated, marked_ring}

-- 6 holds nowhere: marks are 0 or 1
pub mark_le : (marks : List ℕ) (v : ℕ) → first (bad_mark marks) v ≡ v → (p : ℕ) → p < v → get_or marks p 0 ≤ 1
unfolding bad_mark
mark_le marks v e p b = ltb-false 1 (get_or marks p 0) (first_before (bad_mark marks) v p (omega arith))

-- 8 does not hold at p: a half-edge leaves p
pub not_isolated : (l : List ℕ) (p : ℕ) → isolated l p ≡ false → first (leaves l p) (length l) < length l
unfolding isolated
not_isolated l p e =
    let x = any_which (leaves l p) (length l) (not-false (any (leaves l p) (length l)) e) in
    let y = first_reach (leaves l p) (length l) x.0 x.1 x.2 in
    omega (arith, x.1)

-- with more vertices than half-edges 8 holds, and its place is at most the number of half-edges
pub isolated_soon : (l : List ℕ) (v : ℕ) → length l < v → first (isolated l) v ≤ length l
isolated_soon l v b = go (dec_lt (length l) (first (isolated l) v))
  where
    go : Dec (length l < first (isolated l) v) → first (isolated l) v ≤ length l
    go (yes c) =
        let x = leavers_le (suc (length l)) l (λ p d. not_isolated l p (first_before (isolated l) v p (omega arith))) in
        let z : ⊥ = omega arith in absurd z
    go (no c) = omega arith

-- 12 holds nowhere: marked vertices lie on the boundary
pub marked_boundary : (S : Shape) (l marks : List ℕ) (v : ℕ) → first (marked_ring S l marks) v ≡ v → (p : ℕ) → p < v → get_or marks p 0 ≡ 1 → boundary_from S l p < length l
unfolding marked_ring
marked_boundary S l marks v e p b m = go (dec_lt (boundary_from S l p) (length l))
  where
    go : Dec (boundary_from S l p < length l) → boundary_from S l p < length l
    go (yes c) = c
    go (no c) =
        let i : boundary_from S l p ≡ length l = omega (arith, boundary_from-le S l p) in
        clash (marked_ring S l marks p) (and_on _ _ (eq-eqb (get_or marks p 0) 1 m) (eq-eqb (boundary_from S l p) (length l) i)) (first_before (marked_ring S l marks) v p (omega arith))
