-- Vertices that half-edges leave are no more than the half-edges.
use mathlib.Core.Path.{◌≡◌, refl, ap}
use mathlib.Core.Bool.{true}
use mathlib.Core.List.{List}
use Prim.Native.Nat.{ℕ, ◌≤◌, ◌<◌}
use native.Mathlib.Omega.{arith}
use lib.ListN.{length}
use Rattle.search.specs.Search.{first}
use Rattle.search.proofs.First.{first_holds}
use Rattle.search.proofs.Count.{count-le}
use Rattle.search.proofs.Pigeonhole.{listed_le}
use borrow.Author.Tests.{eqb-true}
use Rattle.topology.specs.HalfEdge.{from}
use Rattle.topology.specs.Vertex.{leaves}

-- where a half-edge leaves each of v vertices, there are v half-edges or more
pub leavers_le : (v : ℕ) (l : List ℕ) → ((p : ℕ) → p < v → first (leaves l p) (length l) < length l) → v ≤ length l
unfolding leaves
leavers_le v l f =
    let s : ℕ → ℕ = λ p. first (leaves l p) (length l) in
    let is : (p : ℕ) → p < v → from l (s p) ≡ p = λ p b. eqb-true (from l (s p)) p (first_holds (leaves l p) (length l) (f p b)) in
    let a = listed_le (λ (h : ℕ). true) (length l) s v (record {
      inside = f;
      passes = λ p b. refl;
      differ = λ p q b c e. let x = is p (omega arith) in let y = is q c in let z = ap (from l) e in omega arith;
    }) in
    let b = count-le (λ (h : ℕ). true) (length l) in
    omega arith
